-- A part of a map is rebuilt correctly if its two halves are: for `aggregate`.
use Rattle.std.proofs.Common.{◌≡◌, ◌≢◌, ◌∙◌, ◌+◌, ◌≤◌, ◌++◌, ℕ, suc, Bool, true, false, true≢false, List, [], ◌∷◌, length, Option, None, is_eq, ap, sym, refl, arith}
use Rattle.std.specs.declared.cmp.Ordering.{Ordering}
use Rattle.std.specs.Cmp.{IsEquivalence}
use Rattle.std.specs.Option.{option_or}
use Rattle.std.specs.FinMap.{get, len}
use Rattle.prefix_trie_bits.specs.Begins.{begins-refl}
use Rattle.prefix_trie.specs.Terms.{Entries, begins}
use Rattle.prefix_trie_ops.specs.Optimal.{is_repeated_along, value_along, HasNoneBelow, Rebuilds}
use Rattle.prefix_trie_ops.specs.Parts.{best_value, first_values, least, stored}
use Rattle.prefix_trie_ops.specs.Values.{are_equal}
use Rattle.prefix_trie_ops.proofs.Optimal.LongestMatches.{along_agrees, along_leaf, repeated_agrees, repeated_none}
use Rattle.prefix_trie_ops.proofs.Optimal.Order.{above, apart, is_other}
use Rattle.prefix_trie_ops.proofs.Optimal.PartCosts.{inner_cost, leaf_cost}

-- a string that s does not begin is not s
differs : (s t : List Bool) → begins s t ≡ false → t ≢ s
differs s t off same = true≢false (sym (begins-refl s) ∙ ap (begins s) (sym same) ∙ off)

-- a string that s does not begin is not begun by an extension of s
not_above : (s t : List Bool) (b : Bool) → begins s t ≡ false → begins (s ++ b ∷ []) t ≡ false
not_above s t b off = elim (begins (s ++ b ∷ []) t) as (λ c. begins (s ++ b ∷ []) t ≡ c → c ≡ false) [
  | true ↦ λ at. absurd (true≢false (sym (above s t b at) ∙ off))
  | false ↦ λ _. refl
] refl

not_left : (s t : List Bool) → begins (s ++ true ∷ []) t ≡ true → begins (s ++ false ∷ []) t ≡ false
not_left s t r = elim (begins (s ++ false ∷ []) t) as (λ c. begins (s ++ false ∷ []) t ≡ c → c ≡ false) [
  | true ↦ λ l. absurd (apart s t l r)
  | false ↦ λ _. refl
] refl

not_right : (s t : List Bool) → begins (s ++ false ∷ []) t ≡ true → begins (s ++ true ∷ []) t ≡ false
not_right s t l = elim (begins (s ++ true ∷ []) t) as (λ c. begins (s ++ true ∷ []) t ≡ c → c ≡ false) [
  | true ↦ λ r. absurd (apart s t l r)
  | false ↦ λ _. refl
] refl

-- no extension of a string begins it
not_itself_below : (s : List Bool) (b : Bool) → begins (s ++ b ∷ []) s ≡ false
not_itself_below s b = elim (begins (s ++ b ∷ []) s) as (λ c. begins (s ++ b ∷ []) s ≡ c → c ≡ false) [
  | true ↦ λ at. absurd (is_other s s b at refl)
  | false ↦ λ _. refl
] refl

module _ {X : Type 0} (eq : X → X → Bool) (cmp : X → X → Ordering) (source before settled : Entries X) (s : List Bool) (inherited held wanted : Option X)
    (empty_below : HasNoneBelow before s) (others_stay : (t : List Bool) → t ≢ s → get settled t ≡ get before t) (gives : option_or (get settled s) held ≡ wanted)
    (fresh : are_equal eq held (get settled s) ≡ false) (cost : len settled ≤ len before + stored eq held wanted) where
  -- a part that has no longer keys is rebuilt by its own value
  pub leaf : (n : ℕ) → IsEquivalence eq → ((x y : X) → eq x y ≡ is_eq (cmp x y)) → ((t : List Bool) → begins s t ≡ true → t ≢ s → get source t ≡ None) → wanted ≡ option_or (get source s) inherited
      → Rebuilds eq cmp n source s inherited held before settled
  leaf n equal ties none is = record {
    beside = λ t off. others_stay t (differs s t off);
    values = λ r _.
        along_leaf (get settled) held s r (λ t at other. others_stay t other ∙ empty_below t at) ∙ gives ∙ is ∙ sym (along_leaf (get source) inherited s r none);
    none_repeated = alone;
    cost = (let own = leaf_cost eq cmp source s inherited held wanted equal ties n none is in omega (arith, cost, own));
  }
    where
      alone : (r : List Bool) → is_repeated_along eq (get settled) held s r ≡ false
      alone [] = fresh
      alone (b ∷ r) = repeated_none eq (get settled) (option_or (get settled s) held) (s ++ b ∷ []) r (λ t at. others_stay t (is_other s t b at) ∙ empty_below t (above s t b at))

  -- nothing is stored under its halves yet
  pub none_left : HasNoneBelow settled (s ++ false ∷ [])
  none_left t at = others_stay t (is_other s t false at) ∙ empty_below t (above s t false at)

  pub none_right : (middle : Entries X) → ((t : List Bool) → begins (s ++ false ∷ []) t ≡ false → get middle t ≡ get settled t) → HasNoneBelow middle (s ++ true ∷ [])
  none_right middle beside t at = beside t (not_left s t at) ∙ others_stay t (is_other s t true at) ∙ empty_below t (above s t true at)

  -- a part whose two halves are rebuilt
  module _ (middle after : Entries X) (here : Option X) (n : ℕ) (is : here ≡ option_or (get source s) inherited)
      (left : Rebuilds eq cmp n source (s ++ false ∷ []) here wanted settled middle) (right : Rebuilds eq cmp n source (s ++ true ∷ []) here wanted middle after) where
    top : option_or (get after s) held ≡ wanted
    top = ap (λ o. option_or o held) (right.beside s (not_itself_below s true) ∙ left.beside s (not_itself_below s false)) ∙ gives

    both : (r : List Bool) → length r ≡ suc n → value_along (get after) held s r ≡ value_along (get source) inherited s r
    both [] long = absurd (omega arith)
    both (false ∷ r) long =
        ap (λ o. value_along (get after) o (s ++ false ∷ []) r) top
        ∙ along_agrees (get after) (get middle) wanted (s ++ false ∷ []) r (λ t at. right.beside t (not_right s t at))
        ∙ left.values r (omega arith) ∙ ap (λ o. value_along (get source) o (s ++ false ∷ []) r) is
    both (true ∷ r) long =
        ap (λ o. value_along (get after) o (s ++ true ∷ []) r) top ∙ right.values r (omega arith) ∙ ap (λ o. value_along (get source) o (s ++ true ∷ []) r) is

    neither : (r : List Bool) → is_repeated_along eq (get after) held s r ≡ false
    neither [] = ap (are_equal eq held) (right.beside s (not_itself_below s true) ∙ left.beside s (not_itself_below s false)) ∙ fresh
    neither (false ∷ r) =
        ap (λ o. is_repeated_along eq (get after) o (s ++ false ∷ []) r) top
        ∙ repeated_agrees eq (get after) (get middle) wanted (s ++ false ∷ []) r (λ t at. right.beside t (not_right s t at)) ∙ left.none_repeated r
    neither (true ∷ r) = ap (λ o. is_repeated_along eq (get after) o (s ++ true ∷ []) r) top ∙ right.none_repeated r

    pub joined : IsEquivalence eq → ((x y : X) → eq x y ≡ is_eq (cmp x y)) → wanted ≡ best_value eq (first_values eq cmp (suc n) (value_along (get source) inherited s)) held
        → (first_values eq cmp (suc n) (value_along (get source) inherited s) ≡ [] → held ≡ None) → Rebuilds eq cmp (suc n) source s inherited held before after
    joined equal ties best possible = record {
      beside = λ t off. right.beside t (not_above s t true off) ∙ left.beside t (not_above s t false off) ∙ others_stay t (differs s t off);
      values = both;
      none_repeated = neither;
      cost =
          let whole = inner_cost eq cmp source s inherited held wanted equal ties here n is best possible in
          let first = left.cost in
          let second = right.cost in
          omega (arith, cost, first, second, whole);
    }
