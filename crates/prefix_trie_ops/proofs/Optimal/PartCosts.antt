-- What a part costs if its value is stored: as much as it needs, or as its two halves need in addition. For `aggregate`.
use Rattle.std.proofs.Common.{◌≡◌, ◌≢◌, ◌∙◌, ◌+◌, ◌≤◌, ◌++◌, ℕ, suc, Bool, true, false, List, [], ◌∷◌, Option, None, is_eq, ap, sym, arith}
use Rattle.std.specs.declared.cmp.Ordering.{Ordering}
use Rattle.std.specs.Cmp.{IsEquivalence}
use Rattle.std.specs.Option.{option_or}
use Rattle.std.specs.FinMap.{get}
use Rattle.prefix_trie.specs.Terms.{Entries, begins}
use Rattle.prefix_trie_ops.specs.Optimal.{value_along}
use Rattle.prefix_trie_ops.specs.Parts.{as_list, best_value, first_values, least, opening_cost, stored}
use Rattle.prefix_trie_ops.proofs.Optimal.Choosing.{first_alone}
use Rattle.prefix_trie_ops.proofs.Smallest.Lower.{least_joined, stored_alone}

module _ {X : Type 0} (eq : X → X → Bool) where
  module _ (cmp : X → X → Ordering) (source : Entries X) (s : List Bool) (inherited held wanted : Option X) (equal : IsEquivalence eq) (ties : (x y : X) → eq x y ≡ is_eq (cmp x y)) where
    -- a part that has no longer keys needs its own value
    pub leaf_cost : (n : ℕ) → ((t : List Bool) → begins s t ≡ true → t ≢ s → get source t ≡ None) → wanted ≡ option_or (get source s) inherited
        → stored eq held wanted ≤ least eq cmp n (value_along (get source) inherited s) held
    leaf_cost n none is =
        let first = ap (λ xs. opening_cost eq xs held) (first_alone eq cmp source s inherited equal ties none n ∙ ap as_list (sym is)) in
        let own = stored_alone eq held wanted in
        omega (arith, first, own)

    -- a part that begins with its best value costs this value and its two halves
    pub inner_cost : (here : Option X) (n : ℕ) → here ≡ option_or (get source s) inherited → wanted ≡ best_value eq (first_values eq cmp (suc n) (value_along (get source) inherited s)) held
        → (first_values eq cmp (suc n) (value_along (get source) inherited s) ≡ [] → held ≡ None)
        → stored eq held wanted + (least eq cmp n (value_along (get source) here (s ++ false ∷ [])) wanted + least eq cmp n (value_along (get source) here (s ++ true ∷ [])) wanted)
        ≤ least eq cmp (suc n) (value_along (get source) inherited s) held
    inner_cost here n is best possible =
        let half = λ (b : Bool) (h : Option X). least eq cmp n (value_along (get source) h (s ++ b ∷ [])) wanted in
        let lower : half false here ≡ half false (option_or (get source s) inherited) = ap (half false) is in
        let upper : half true here ≡ half true (option_or (get source s) inherited) = ap (half true) is in
        let whole = least_joined eq equal cmp ties n (value_along (get source) inherited s) held wanted best possible in
        omega (arith, lower, upper, whole)
