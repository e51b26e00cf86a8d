-- The bit for the next five bits of the path is set exactly if the path has a next node.
use Rattle.prefix_trie_table.proofs.Prelude.{refl, sym, ◌∙◌, arith}
use Rattle.prefix_trie_table.proofs.Lookup.SearchPaths.{next_bit, next_deep, left_length}
use Rattle.prefix_trie_table.proofs.table.lookup.child_on_path.Goals as goal

pub returns-then-not-has_bit : goal.returns-then-not-has_bit
returns-then-not-has_bit g c = λ q v at left. record {
  along = at;
  missing = λ _. next_bit q c.args.from v at _ left c.child_bit-child.result c.child_bit-child.ensures.small c.child_bit-child.ensures.value
      c.requires ∙ sym c.has_bit.ensures ∙ c.if-not-has_bit.true;
}

pub returns : goal.returns
returns g c = λ q v at left. record {
  whole = let whole = at.whole in omega (arith, whole, left_length q _ c.args.from.level left, c.requires);
  node_is = refl;
  deepest = next_deep q c.args.from v at _ left c.child_bit-child.result c.child_bit-child.ensures.small c.child_bit-child.ensures.value
      c.requires (sym c.has_bit.ensures ∙ c.if-not-has_bit.false) _ c.child_slot.ensures;
}
