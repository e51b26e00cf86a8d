-- The first values of a part are in order: for the sets of values.
use Rattle.std.proofs.Common.{◌≡◌, ◌∙◌, ℕ, zero, suc, Bool, true, false, List, [], ◌∷◌, Option, Some, None, Less, Equal, Greater, ap, refl}
use Rattle.std.specs.declared.cmp.Ordering.{Ordering}
use Rattle.std.specs.Cmp.{IsTotalOrder}
use Rattle.std.specs.List.{AllByRecursion}
use Rattle.std.specs.List.Sorted.{IsStrictlySortedBy}
use Rattle.std.specs.Ordering.{match_ordering, ordering_reverse}
use Rattle.std.specs.Set.{is_member, merge_step, sorted_merge}
use Rattle.std.proofs.lemmas.List.Kept.{IsStrictlySortedBy-filter}
use Rattle.prefix_trie_ops.specs.Parts.{as_list, first_values, combined_values, or_list, shared_values}

module _ {X : Type 0} (cmp : X → X → Ordering) where
  -- what holds of the values of two lists holds of all values of the merged list
  all_step : (P : X → Type 0) (x : X) (xs : List X) → P x → AllByRecursion P xs → ((zs : List X) → AllByRecursion P zs → AllByRecursion P (sorted_merge cmp true xs zs))
      → (zs : List X) → AllByRecursion P zs → AllByRecursion P (merge_step cmp true x xs (sorted_merge cmp true xs) zs)
  all_step P x xs at all rest [] _ = (at, all)
  all_step P x xs at all rest (z ∷ zs) both = elim (cmp x z) as (λ o. AllByRecursion P (match_ordering o (x ∷ sorted_merge cmp true xs (z ∷ zs)) (x ∷ sorted_merge cmp true xs zs) (z ∷ merge_step cmp true x xs (sorted_merge cmp true xs) zs))) [
    | Less ↦ (at, rest (z ∷ zs) both)
    | Equal ↦ (at, rest zs both.1)
    | Greater ↦ (both.0, all_step P x xs at all rest zs both.1)
  ]

  all_merged : (P : X → Type 0) (xs zs : List X) → AllByRecursion P xs → AllByRecursion P zs → AllByRecursion P (sorted_merge cmp true xs zs)
  all_merged P [] zs all both = both
  all_merged P (x ∷ xs) zs all both = all_step P x xs all.0 all.1 (λ ys there. all_merged P xs ys all.1 there) zs both

  module _ (order : IsTotalOrder cmp) where
    later : (y x : X) (xs : List X) → cmp y x ≡ Less → AllByRecursion (λ e. cmp x e ≡ Less) xs → AllByRecursion (λ e. cmp y e ≡ Less) xs
    later y x [] l all = tt
    later y x (e ∷ es) l all = (order.trans y x e l all.0, later y x es l all.1)

    alike : (x y : X) (xs : List X) → cmp x y ≡ Equal → AllByRecursion (λ e. cmp y e ≡ Less) xs → AllByRecursion (λ e. cmp x e ≡ Less) xs
    alike x y [] l all = tt
    alike x y (e ∷ es) l all = (order.congr x y e l ∙ all.0, alike x y es l all.1)

    sorted_step : (x : X) (xs : List X) → AllByRecursion (λ e. cmp x e ≡ Less) xs → IsStrictlySortedBy cmp xs → ((zs : List X) → IsStrictlySortedBy cmp zs → IsStrictlySortedBy cmp (sorted_merge cmp true xs zs))
        → (zs : List X) → IsStrictlySortedBy cmp zs → IsStrictlySortedBy cmp (merge_step cmp true x xs (sorted_merge cmp true xs) zs)
    unfolding IsStrictlySortedBy
    sorted_step x xs first sorted rest [] _ = (first, sorted)
    sorted_step x xs first sorted rest (z ∷ zs) h = elim (cmp x z) as (λ o. cmp x z ≡ o
        → IsStrictlySortedBy cmp (match_ordering o (x ∷ sorted_merge cmp true xs (z ∷ zs)) (x ∷ sorted_merge cmp true xs zs) (z ∷ merge_step cmp true x xs (sorted_merge cmp true xs) zs))) [
          | Less ↦ λ l. (all_merged (λ e. cmp x e ≡ Less) xs (z ∷ zs) first (l, later x z zs l h.0), rest (z ∷ zs) h)
          | Equal ↦ λ l. (all_merged (λ e. cmp x e ≡ Less) xs zs first (alike x z zs l h.0), rest zs h.1)
          | Greater ↦ λ l.
              let turned : cmp z x ≡ Less = order.antisymm z x ∙ ap ordering_reverse l in
              (all_step (λ e. cmp z e ≡ Less) x xs turned (later z x xs turned first) (λ ys there. all_merged (λ e. cmp z e ≡ Less) xs ys (later z x xs turned first) there) zs h.0, sorted_step x xs first sorted rest zs h.1)
        ] refl

    merged_sorted : (xs ys : List X) → IsStrictlySortedBy cmp xs → IsStrictlySortedBy cmp ys → IsStrictlySortedBy cmp (sorted_merge cmp true xs ys)
    unfolding IsStrictlySortedBy
    merged_sorted [] ys h k = k
    merged_sorted (x ∷ xs) ys h k = sorted_step x xs h.0 h.1 (λ zs there. merged_sorted xs zs h.1 there) ys k

    module _ (eq : X → X → Bool) where
      combined_sorted : (xs ys : List X) → IsStrictlySortedBy cmp xs → IsStrictlySortedBy cmp ys → IsStrictlySortedBy cmp (combined_values eq cmp xs ys)
      unfolding combined_values
      combined_sorted [] ys h k = h
      combined_sorted (x ∷ xs) [] h k = k
      combined_sorted (x ∷ xs) (y ∷ ys) h k = either (shared_values eq (x ∷ xs) (y ∷ ys)) (IsStrictlySortedBy-filter cmp (is_member eq (y ∷ ys)) (x ∷ xs) h)
        where
          either : (zs : List X) → IsStrictlySortedBy cmp zs → IsStrictlySortedBy cmp (or_list zs (sorted_merge cmp true (x ∷ xs) (y ∷ ys)))
          either [] _ = merged_sorted (x ∷ xs) (y ∷ ys) h k
          either (z ∷ zs) s = s

      one_in_order : (o : Option X) → IsStrictlySortedBy cmp (as_list o)
      unfolding IsStrictlySortedBy
      one_in_order None = tt
      one_in_order (Some v) = (tt, tt)

      -- the first values of a part are in order
      pub first_sorted : (n : ℕ) (answer : List Bool → Option X) → IsStrictlySortedBy cmp (first_values eq cmp n answer)
      unfolding first_values
      first_sorted zero answer = one_in_order (answer [])
      first_sorted (suc n) answer =
          combined_sorted (first_values eq cmp n (λ r. answer (false ∷ r))) (first_values eq cmp n (λ r. answer (true ∷ r))) (first_sorted n (λ r. answer (false ∷ r))) (first_sorted n (λ r. answer (true ∷ r)))
