-- Dropping what the given key begins from the last spot skips exactly the other entries whose keys begin with it.
use Rattle.prefix_trie_table.proofs.Prelude.{◌∙◌, sym, subst, pending, EndsLast, SkipsLast}
use Rattle.prefix_trie_table.proofs.Walk.ItemsToCome.{tree_of, rest_at}
use Rattle.prefix_trie_table.proofs.Walk.SkippedEntries.{few_spots, stack_left, passed_left, pending_left}
use Rattle.prefix_trie_table.proofs.table.walk.Walk.next_outermost.Goals as goal

pub advance-requires-clause-tree : goal.advance-requires-clause-tree
advance-requires-clause-tree g c =
    let r = rest_at g.K.Key.bit_width c.self.inside.arrays (c.in-Some.nodes, c.in-Some.field-0-1) c.in-Some.is c.self.inside.shape (g.K.Key.bits c.self.inside.key) c.self.inside.stack.items c.self.invariant in
    (tree_of c.in-Some.field-0-1.now r.state, r.tree)

pub invariant_of-self : goal.invariant_of-self
invariant_of-self g c =
    let r = rest_at g.K.Key.bit_width c.self.inside.arrays (c.in-Some.nodes, c.in-Some.field-0-1) c.in-Some.is c.self.inside.shape (g.K.Key.bits c.self.inside.key) c.self.inside.stack.items c.self.invariant in
    r.later _ (g.K.Key.bits c.advance.new.key) c.advance.new.stack.items c.advance.ensures.stack (c.advance.ensures.passed r.passed)

pub returns-in_default-advance : goal.returns-in_default-advance
returns-in_default-advance g c =
    let r = rest_at g.K.Key.bit_width c.self.inside.arrays (c.in-Some.nodes, c.in-Some.field-0-1) c.in-Some.is c.self.inside.shape (g.K.Key.bits c.self.inside.key) c.self.inside.stack.items c.self.invariant in
    let h = c.in_default-advance.ensures.entry (tree_of c.in-Some.field-0-1.now r.state) r.tree in
    (sym c.self.view_is ∙ r.rest ∙ h.0, r.later_rest _ (g.K.Key.bits c.advance.new.key) c.advance.new.stack.items ∙ h.1)

pub new-requires : goal.new-requires
new-requires g c =
    let r = rest_at g.K.Key.bit_width c.self.inside.arrays (c.in-Some.nodes, c.in-Some.field-0-1) c.in-Some.is c.self.inside.shape (g.K.Key.bits c.self.inside.key) c.self.inside.stack.items c.self.invariant in
    let h = (c.in-Some-advance.ensures.entry (tree_of c.in-Some.field-0-1.now r.state) r.tree).gives in
    record { key = h.is_key; within = h.short }

pub skip_at_last-requires : goal.skip_at_last-requires
skip_at_last-requires g c = record {
  last = (_, subst (EndsLast (g.K.Key.bits c.advance.new.key) c.advance.new.stack.items) (sym c.new.ensures) c.in-Some-advance.ensures.last);
  space = few_spots g.K.Key.bit_width c.in-Some.nodes.now.slots (g.K.Key.bits c.advance.new.key) c.advance.new.stack.items g.met.K.Key.key_laws.at_most_128 c.advance.ensures.stack _ _ c.in-Some-advance.ensures.last;
}

pub invariant_of-self-2 : goal.invariant_of-self-2
invariant_of-self-2 g c =
    let r = rest_at g.K.Key.bit_width c.self.inside.arrays (c.in-Some.nodes, c.in-Some.field-0-1) c.in-Some.is c.self.inside.shape (g.K.Key.bits c.self.inside.key) c.self.inside.stack.items c.self.invariant in
    let skips = subst (λ q. SkipsLast q c.advance.new.stack.items c.skip_at_last.new.stack.items) c.new.ensures c.skip_at_last.ensures in
    r.later _ (g.K.Key.bits c.advance.new.key) c.skip_at_last.new.stack.items
    (stack_left _ _ _ _ _ _ c.advance.ensures.stack (c.advance.ensures.passed r.passed) c.in-Some-advance.ensures.last skips)
    (passed_left _ _ _ _ _ _ c.advance.ensures.stack (c.advance.ensures.passed r.passed) c.in-Some-advance.ensures.last skips)

pub returns : goal.returns
returns g c =
    let r = rest_at g.K.Key.bit_width c.self.inside.arrays (c.in-Some.nodes, c.in-Some.field-0-1) c.in-Some.is c.self.inside.shape (g.K.Key.bits c.self.inside.key) c.self.inside.stack.items c.self.invariant in
    let h = (c.in-Some-advance.ensures.entry (tree_of c.in-Some.field-0-1.now r.state) r.tree).gives in
    let skips = subst (λ q. SkipsLast q c.advance.new.stack.items c.skip_at_last.new.stack.items) c.new.ensures c.skip_at_last.ensures in
    record {
      is_key = h.is_key;
      short = h.short;
      filled = h.filled;
      value = (c.in-Some-advance.ensures.entry (tree_of c.in-Some.field-0-1.now r.state) r.tree).value;
      later = pending r.state.entries (g.K.Key.bits c.advance.new.key) c.advance.new.stack.items;
      first = sym c.self.view_is ∙ r.rest ∙ h.first;
      rest =
          r.later_rest _ (g.K.Key.bits c.advance.new.key) c.skip_at_last.new.stack.items
          ∙ pending_left _ _ _ _ _ _ c.advance.ensures.stack (c.advance.ensures.passed r.passed) c.in-Some-advance.ensures.last skips r.state.entries;
    }
