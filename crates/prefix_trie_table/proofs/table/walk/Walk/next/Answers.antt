-- What `advance` gives is the first entry to come, and the cell at its seat has its value.
use Rattle.prefix_trie_table.proofs.Prelude.{◌∙◌, sym}
use Rattle.prefix_trie_table.proofs.Walk.ItemsToCome.{tree_of, rest_at, gives_read}
use Rattle.prefix_trie_table.proofs.table.walk.Walk.next.Goals as goal

pub advance-requires : goal.advance-requires
advance-requires g c =
    let r = rest_at g.K.Key.bit_width c.self.inside.arrays (c.in-Some.nodes, c.in-Some.cells) c.in-Some.is c.self.inside.shape (g.K.Key.bits c.self.inside.key) c.self.inside.stack.items c.self.invariant in
    record { tree = (tree_of c.in-Some.cells.now r.state, r.tree); stack = r.stack }

pub invariant_of-self : goal.invariant_of-self
invariant_of-self g c =
    let r = rest_at g.K.Key.bit_width c.self.inside.arrays (c.in-Some.nodes, c.in-Some.cells) c.in-Some.is c.self.inside.shape (g.K.Key.bits c.self.inside.key) c.self.inside.stack.items c.self.invariant in
    r.later _ (g.K.Key.bits c.advance.new.key) c.advance.new.stack.items c.advance.ensures.stack (c.advance.ensures.passed r.passed)

pub invariant_of-self-2 : goal.invariant_of-self-2
invariant_of-self-2 g c =
    let r = rest_at g.K.Key.bit_width c.self.inside.arrays (c.in-Some.nodes, c.in-Some.cells) c.in-Some.is c.self.inside.shape (g.K.Key.bits c.self.inside.key) c.self.inside.stack.items c.self.invariant in
    r.later _ (g.K.Key.bits c.advance.new.key) c.advance.new.stack.items c.advance.ensures.stack (c.advance.ensures.passed r.passed)

pub returns-in_default-advance : goal.returns-in_default-advance
returns-in_default-advance g c =
    let r = rest_at g.K.Key.bit_width c.self.inside.arrays (c.in-Some.nodes, c.in-Some.cells) c.in-Some.is c.self.inside.shape (g.K.Key.bits c.self.inside.key) c.self.inside.stack.items c.self.invariant in
    let h = c.in_default-advance.ensures.entry (tree_of c.in-Some.cells.now r.state) r.tree in
    (sym c.self.view_is ∙ r.rest ∙ h.0, r.later_rest _ (g.K.Key.bits c.advance.new.key) c.advance.new.stack.items ∙ h.1)

pub value_at-requires : goal.value_at-requires
value_at-requires g c =
    let r = rest_at g.K.Key.bit_width c.self.inside.arrays (c.in-Some.nodes, c.in-Some.cells) c.in-Some.is c.self.inside.shape (g.K.Key.bits c.self.inside.key) c.self.inside.stack.items c.self.invariant in
    let h = c.in-Some-advance.ensures.entry (tree_of c.in-Some.cells.now r.state) r.tree in record { is_there = h.is_there; set = (h.value, h.reads) }

pub returns : goal.returns
returns g c =
    let r = rest_at g.K.Key.bit_width c.self.inside.arrays (c.in-Some.nodes, c.in-Some.cells) c.in-Some.is c.self.inside.shape (g.K.Key.bits c.self.inside.key) c.self.inside.stack.items c.self.invariant in
    let h = c.in-Some-advance.ensures.entry (tree_of c.in-Some.cells.now r.state) r.tree in
    gives_read g.K.Key.IsKey g.K.Key.bits g.K.Key.bit_width (tree_of c.in-Some.cells.now r.state) _ _ _ _ _ c.args.self.now _ c.value_at.result.now h c.value_at.ensures (sym c.self.view_is ∙ r.rest) (r.later_rest _ (g.K.Key.bits c.advance.new.key) c.advance.new.stack.items)
