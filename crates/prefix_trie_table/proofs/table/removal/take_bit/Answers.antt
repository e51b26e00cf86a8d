-- Taking a value at a bit, in two cases: the bit is not set, or the value is removed and the count falls by one.
use Rattle.prefix_trie_table.proofs.Prelude.{◌≡◌, true, Some, is_some, refl, sym, ap, ◌∙◌, arith, one_if, node_sizes}
use Rattle.prefix_trie_bits.specs.Bitmaps.{has_bit as is_set}
use Rattle.prefix_trie_table.proofs.Insertion.Spaces.{Grows-same}
use Rattle.prefix_trie_table.proofs.Strings.Bits.{has_bit-is}
use Rattle.prefix_trie_table.proofs.Removal.OneEntry.{kept_at, none_at, some_at, value_taken}
use Rattle.prefix_trie_table.proofs.Tree.Trees.{slot_holds}
use Rattle.prefix_trie_table.proofs.table.removal.take_bit.Given as given
use Rattle.prefix_trie_table.proofs.table.removal.take_bit.Goals as goal

pub returns-then-not-has_bit : goal.returns-then-not-has_bit
returns-then-not-has_bit g c =
    let some_missing = has_bit-is c.args.here.node.value_bitmap c.args.bit (omega (arith, c.requires.bit)) ∙ sym c.has_bit.ensures ∙ c.if-not-has_bit.true in
    record {
      taken = λ reading paths values holds p is_there is.
          let none = none_at reading values paths c.args.nodes.now c.args.cells.now holds p c.args.here.node is c.args.bit some_missing in
          (sym none, kept_at reading values paths c.args.nodes.now c.args.cells.now holds p c.args.here.node is c.args.bit none);
      counted = omega arith;
      node_blocks = record { space = (refl, refl, refl); tiers = refl };
      cell_space = Grows-same _ _ 24 refl;
    }

-- the bit of the value is set
there : (g : given.Over) (c : goal.After-row_known-1 g) → is_set c.args.here.node.value_bitmap c.args.bit ≡ true
there g c = has_bit-is c.args.here.node.value_bitmap c.args.bit (omega (arith, c.requires.bit)) ∙ sym c.has_bit.ensures ∙ c.if-not-has_bit.false

pub take_value-taken-requires-clause-there : goal.take_value-taken-requires-clause-there
take_value-taken-requires-clause-there g c = has_bit-is c.args.here.node.value_bitmap c.args.bit (omega (arith, c.requires.bit)) ∙ sym c.has_bit.ensures ∙ c.if-not-has_bit.false

pub returns-clause-taken : goal.returns-clause-taken
returns-clause-taken g c = λ reading paths values holds p is_there is. (
  c.take_value-taken.ensures.value reading paths values p c.args.here.node holds.hold holds.cells is_there is,
  value_taken reading values paths c.args.nodes.now c.args.cells.now holds p c.args.bit c.args.here.node c.take_value-taken.result.1 c.take_value-taken.new.nodes c.take_value-taken.new.cells is
      (some_at reading values paths c.args.nodes.now c.args.cells.now holds p c.args.here.node is c.args.bit ∙ there g c)
      (c.take_value-taken.ensures.taken reading paths values p c.args.here.node holds.hold holds.cells is_there is),
)

-- what became of the number of entries
pub returns-clause-counted : goal.returns-clause-counted
returns-clause-counted g c =
    let t = c.requires.table.0 in
    let at = c.requires.table.2 in
    let is = at.is ∙ ap Some (sym (c.requires.node ∙ (slot_holds node_sizes t.reading t.paths c.args.nodes.now t.holds.hold at.path _ at.node at.is_there at.is).0)) in
    let e = returns-clause-taken g c t.reading t.paths t.values t.holds at.path at.is_there is in
    let some = ap one_if (some_at t.reading t.values t.paths c.args.nodes.now c.args.cells.now t.holds at.path c.args.here.node is c.args.bit ∙ there g c) in
    let counted = e.1.0.counted in
    omega (arith, counted, some, ap (λ o. one_if (is_some o)) e.0, c.requires.table.1)

pub overflow_sub-entries : goal.overflow_sub-entries
overflow_sub-entries g c =
    let t = c.requires.table.0 in
    let at = c.requires.table.2 in
    let is = at.is ∙ ap Some (sym (c.requires.node ∙ (slot_holds node_sizes t.reading t.paths c.args.nodes.now t.holds.hold at.path _ at.node at.is_there at.is).0)) in
    let counted = (returns-clause-taken g c t.reading t.paths t.values t.holds at.path at.is_there is).1.0.counted in
    omega (arith, counted, ap one_if (some_at t.reading t.values t.paths c.args.nodes.now c.args.cells.now t.holds at.path c.args.here.node is c.args.bit ∙ there g c), c.requires.table.1)
