-- A map that has the least number of entries for its answers is a smallest one.
use Rattle.std.proofs.Common.{◌≡◌, ◌∙◌, ◌≤◌, ℕ, Bool, List, [], length, None, is_eq, sym, arith}
use Rattle.std.specs.declared.cmp.Ordering.{Ordering}
use Rattle.std.specs.Cmp.{IsEquivalence}
use Rattle.std.specs.FinMap.{get, len}
use Rattle.prefix_trie.specs.Laws.Lookups.{LookupLaws}
use Rattle.prefix_trie.specs.Terms.{Entries}
use Rattle.prefix_trie_ops.specs.Optimal.{value_along}
use Rattle.prefix_trie_ops.specs.Parts.{least}
use Rattle.prefix_trie_ops.specs.Smallest.{HaveSameAnswers, IsSmallest}
use Rattle.prefix_trie_ops.proofs.Optimal.LongestMatches.{along_is_value}
use Rattle.prefix_trie_ops.proofs.Optimal.KeyCounts.{keys_all, keys_split, keys_under}
use Rattle.prefix_trie_ops.proofs.Smallest.Lower.{at_least}

module _ {P X : Type 0} (laws : LookupLaws P X) (eq : X → X → Bool) (equal : IsEquivalence eq) (cmp : X → X → Ordering) (ties : (x y : X) → eq x y ≡ is_eq (cmp x y)) where
  -- each map with the same answers has at least as many entries
  pub no_fewer : (width : ℕ) (source n : Entries X) → HaveSameAnswers width n source → least eq cmp width (value_along (get source) None []) None ≤ len n
  no_fewer width source n same =
      let low = at_least eq equal cmp ties (get n) (keys_under n) (keys_split n) width (value_along (get source) None []) None []
      (λ r long. along_is_value laws n r ∙ same r long ∙ sym (along_is_value laws source r)) in
      let all = keys_all n in
      omega (arith, low, all)

  pub is_smallest : (width : ℕ) (source made : Entries X) → HaveSameAnswers width made source → len made ≤ least eq cmp width (value_along (get source) None []) None → IsSmallest width made
  is_smallest width source made same cost n answers =
      let low = no_fewer width source n (λ r long. answers r long ∙ same r long) in
      omega (arith, low, cost)
