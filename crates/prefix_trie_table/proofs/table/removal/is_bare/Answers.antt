-- A node is bare exactly if the number of ones in its two bitmaps is 0.
use Rattle.prefix_trie_table.proofs.Prelude.{◌≡◌, ◌+◌, ◌<◌, ◌⊎◌, inl, inr, ℕ, nat_eq, false, arith, eqb-true, nat_tests}
use Rattle.prefix_trie_table.proofs.Strings.BitLists.{rank-le}
use Rattle.prefix_trie_table.proofs.table.removal.is_bare.Goals as goal

pub overflow_add-result : goal.overflow_add-result
overflow_add-result c =
    omega (arith, c.count.ensures, c.count-2.ensures, rank-le c.args.node.value_bitmap 32, rank-le c.args.node.child_bitmap 32)

pub returns-clause-bare : goal.returns-clause-bare
returns-clause-bare c = λ none.
    let zero = eqb-true (c.count.result + c.count-2.result) 0 none in
    record {
      no_values = omega (arith, zero, c.count.ensures);
      no_children = omega (arith, zero, c.count-2.ensures);
    }

-- a sum that is not 0 has a part that is not
either : (a b : ℕ) → nat_eq (a + b) 0 ≡ false → (0 < a) ⊎ (0 < b)
either a b some = grind (arith, nat_tests)

pub returns-clause-stocked : goal.returns-clause-stocked
returns-clause-stocked c = λ some.
    elim (either c.count.result c.count-2.result some) [
      | inl a ↦ inl (omega (arith, a, c.count.ensures))
      | inr b ↦ inr (omega (arith, b, c.count-2.ensures))
    ]
