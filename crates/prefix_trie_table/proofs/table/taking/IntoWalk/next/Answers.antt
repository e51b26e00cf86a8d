-- The cell at the next seat has the next value, and moving it out changes nothing that is still to come.
use Rattle.prefix_trie_table.proofs.Prelude.{◌∙◌, sym, ap, is_some, false≢true}
use Rattle.prefix_trie_table.proofs.Walk.Taking.{none_given, walk_ended, taken_there, walk_goes_on, gives_taken}
use Rattle.prefix_trie_table.proofs.table.taking.IntoWalk.next.Goals as goal

pub invariant_of-self : goal.invariant_of-self
invariant_of-self g c =
    let i = c.self.inside in
    let none = c.in_default.ensures.entry c.self.invariant.tree c.self.invariant.trie in
    walk_ended g.K.Key.bit_width i.nodes i.cells i.seats (g.K.Key.bits i.key) i.stack.items c.self.invariant c.self-1.given.0
    (g.K.Key.bits c.advance.new.key) c.advance.new.stack.items none.1 c.advance.ensures.stack

pub returns-in_default : goal.returns-in_default
returns-in_default g c =
    let i = c.self.inside in
    let none = c.in_default.ensures.entry c.self.invariant.tree c.self.invariant.trie in (
      sym c.self.view_is
          ∙ none_given g.K.Key.bit_width i.nodes i.cells i.seats (g.K.Key.bits i.key) i.stack.items c.self.invariant i.seats (g.K.Key.bits i.key) i.stack.items none.0,
      none_given g.K.Key.bit_width i.nodes i.cells i.seats (g.K.Key.bits i.key) i.stack.items c.self.invariant c.self-1.given.0
          (g.K.Key.bits c.advance.new.key) c.advance.new.stack.items none.1,
    )

pub unreachable-requires : goal.unreachable-requires
unreachable-requires g c =
    let i = c.self.inside in
    false≢true (sym (ap is_some c.in_default-put.is)
    ∙ taken_there g.K.Key.bit_width i.nodes i.cells i.seats (g.K.Key.bits i.key) i.stack.items c.self.invariant
    (g.K.Key.bits c.advance.new.key) c.advance.new.stack.items _ _ _
    (c.in-Some.ensures.entry c.self.invariant.tree c.self.invariant.trie) c.in-Some.ensures.seat c.put.result c.put.ensures.value)

pub invariant_of-self-2 : goal.invariant_of-self-2
invariant_of-self-2 g c =
    let i = c.self.inside in
    walk_goes_on g.K.Key.bit_width i.nodes i.cells i.seats (g.K.Key.bits i.key) i.stack.items c.self.invariant
    (g.K.Key.bits c.advance.new.key) c.advance.new.stack.items _ _ _
    (c.in-Some.ensures.entry c.self.invariant.tree c.self.invariant.trie) c.in-Some.ensures.seat c.self-2-1.given.0 c.put.new.self c.put.ensures.slots c.advance.ensures.stack

pub returns : goal.returns
returns g c =
    let i = c.self.inside in
    gives_taken g.K.Key.bit_width i.nodes i.cells i.seats (g.K.Key.bits i.key) i.stack.items c.self.invariant
    (g.K.Key.bits c.advance.new.key) c.advance.new.stack.items _ _ _
    (c.in-Some.ensures.entry c.self.invariant.tree c.self.invariant.trie) c.in-Some.ensures.seat c.self-2-1.given.0 c.put.new.self c.put.ensures.slots
    c.in-Some-put.value c.args.self.now c.in-Some-put.ensures.value c.self.view_is
