-- Any table with the answers of a part has at least the least number of entries there, and a part that begins with its
-- best value has no more: for the smallest table.
use Rattle.std.proofs.Common.{◌≡◌, ◌∙◌, ◌+◌, ◌≤◌, ◌||◌, ℕ, zero, suc, Bool, true, false, true≢false, cond, List, [], ◌∷◌, ◌++◌, length, Option, Some, None, is_some, is_eq, ap, sym, subst, refl, arith}
use Rattle.std.specs.declared.cmp.Ordering.{Ordering}
use Rattle.std.specs.Cmp.{IsEquivalence}
use Rattle.std.specs.Option.{option_or}
use Rattle.prefix_trie_ops.specs.Optimal.{value_along}
use Rattle.prefix_trie_ops.specs.Parts.{as_list, best_value, first_values, combined_cost, combined_values, least, least_inside, opening_cost, stored}
use Rattle.prefix_trie_ops.proofs.Smallest.Sets.{combined_alone, combined_some}
use Rattle.prefix_trie_ops.proofs.Smallest.Costs.{at_most_one, unstored, with_best, with_stored}

-- the entries at a prefix
abbrev pub entries_at : {X : Type 0} → Option X → ℕ
entries_at None = 0
entries_at (Some v) = 1

module _ {X : Type 0} where
  -- a question that begins with a value has one
  pub along_some : (f : List Bool → Option X) (v : X) (s r : List Bool) → value_along f (Some v) s r ≡ None → ⊥
  along_some f v s [] none = elim (f s) as (λ o. option_or o (Some v) ≡ None → ⊥) [ Some w ↦ λ bad. true≢false (ap is_some bad) | None ↦ λ bad. true≢false (ap is_some bad) ] none
  along_some f v s (b ∷ r) none = elim (f s) as (λ o. value_along f (option_or o (Some v)) (s ++ b ∷ []) r ≡ None → ⊥) [
    | Some w ↦ along_some f w (s ++ b ∷ []) r
    | None ↦ along_some f v (s ++ b ∷ []) r
  ] none

  -- a part with one answer stores it only if it needs an entry
  pub stored_alone : (eq : X → X → Bool) (h o : Option X) → stored eq h o ≤ opening_cost eq (as_list o) h
  stored_alone eq h None = omega arith
  stored_alone eq None (Some w) = omega arith
  stored_alone eq (Some v) (Some w) = elim (eq v w) as (λ b. cond b 0 1 ≤ cond (b || false) 0 1) [ true ↦ omega arith | false ↦ omega arith ]

  -- there is no best value only if there is none
  pub best_none : (eq : X → X → Bool) (xs : List X) (h : Option X) → best_value eq xs h ≡ None → xs ≡ []
  best_none eq [] h none = refl
  best_none eq (x ∷ xs) None none = absurd (true≢false (ap is_some none))
  best_none eq (x ∷ xs) (Some v) none = absurd (true≢false (ap is_some none))

  module _ (eq : X → X → Bool) (laws : IsEquivalence eq) (cmp : X → X → Ordering) (ties : (x y : X) → eq x y ≡ is_eq (cmp x y)) where
    -- a part without first values has a question without a value
    pub hole : (n : ℕ) (answer : List Bool → Option X) → first_values eq cmp n answer ≡ [] → (r : List Bool) × (length r ≡ n) × (answer r ≡ None)
    unfolding first_values
    hole zero answer none = ([], refl, elim (answer []) as (λ o. as_list o ≡ [] → o ≡ None) [ None ↦ λ _. refl | Some v ↦ λ bad. absurd (cons_some v bad) ] none)
      where
        cons_some : (v : X) → v ∷ [] ≡ [] → ⊥
        cons_some v bad = let l = ap length bad in omega arith
    hole (suc n) answer none =
        halves (first_values eq cmp n (λ r. answer (false ∷ r))) (first_values eq cmp n (λ r. answer (true ∷ r))) (hole n (λ r. answer (false ∷ r))) (hole n (λ r. answer (true ∷ r))) none
      where
        lower : (r : List Bool) × (length r ≡ n) × (answer (false ∷ r) ≡ None) → (r : List Bool) × (length r ≡ suc n) × (answer r ≡ None)
        lower h = (false ∷ h.0, (let l = h.1 in omega arith), h.2)

        upper : (r : List Bool) × (length r ≡ n) × (answer (true ∷ r) ≡ None) → (r : List Bool) × (length r ≡ suc n) × (answer r ≡ None)
        upper h = (true ∷ h.0, (let l = h.1 in omega arith), h.2)

        halves : (xs ys : List X) → (xs ≡ [] → (r : List Bool) × (length r ≡ n) × (answer (false ∷ r) ≡ None)) → (ys ≡ [] → (r : List Bool) × (length r ≡ n) × (answer (true ∷ r) ≡ None))
            → combined_values eq cmp xs ys ≡ [] → (r : List Bool) × (length r ≡ suc n) × (answer r ≡ None)
        halves [] ys left right is = lower (left refl)
        halves (x ∷ xs) [] left right is = upper (right refl)
        halves (x ∷ xs) (y ∷ ys) left right is = absurd (combined_some eq laws cmp ties x y xs ys is)

    -- a part whose questions all have one answer begins with this answer
    pub uniform : (n : ℕ) (answer : List Bool → Option X) (o : Option X) → ((r : List Bool) → length r ≡ n → answer r ≡ o) → first_values eq cmp n answer ≡ as_list o
    unfolding first_values
    uniform zero answer o all = ap as_list (all [] refl)
    uniform (suc n) answer o all =
        ap (λ xs. combined_values eq cmp xs (first_values eq cmp n (λ r. answer (true ∷ r)))) (uniform n (λ r. answer (false ∷ r)) o (λ r l. all (false ∷ r) (omega arith)))
        ∙ ap (combined_values eq cmp (as_list o)) (uniform n (λ r. answer (true ∷ r)) o (λ r l. all (true ∷ r) (omega arith))) ∙ combined_alone eq laws cmp ties o

    -- a part that begins with its best value, and so do its halves, costs the least
    pub least_joined : (n : ℕ) (answer : List Bool → Option X) (h wanted : Option X) → wanted ≡ best_value eq (first_values eq cmp (suc n) answer) h → (first_values eq cmp (suc n) answer ≡ [] → h ≡ None)
        → stored eq h wanted + (least eq cmp n (λ r. answer (false ∷ r)) wanted + least eq cmp n (λ r. answer (true ∷ r)) wanted) ≤ least eq cmp (suc n) answer h
    unfolding first_values least_inside
    least_joined n answer h wanted best possible =
        let xs = first_values eq cmp n (λ r. answer (false ∷ r)) in
        let ys = first_values eq cmp n (λ r. answer (true ∷ r)) in
        let w : stored eq h wanted + (opening_cost eq xs wanted + opening_cost eq ys wanted) ≤ combined_cost eq xs ys + opening_cost eq (combined_values eq cmp xs ys) h =
        subst (λ o. stored eq h o + (opening_cost eq xs o + opening_cost eq ys o) ≤ combined_cost eq xs ys + opening_cost eq (combined_values eq cmp xs ys) h) (sym best) (with_best eq laws cmp ties xs ys h possible) in
        omega (arith, w)

    module _ (f : List Bool → Option X) (count : List Bool → ℕ) (splits : (s : List Bool) → entries_at (f s) + (count (s ++ false ∷ []) + count (s ++ true ∷ [])) ≤ count s) where
      -- a table with the answers of a part has at least the least number of entries there
      pub at_least : (n : ℕ) (answer : List Bool → Option X) (h : Option X) (s : List Bool) → ((r : List Bool) → length r ≡ n → value_along f h s r ≡ answer r) → least eq cmp n answer h ≤ count s
      unfolding first_values least_inside
      at_least zero answer h s same = elim (f s) as (λ o. option_or o h ≡ answer [] → entries_at o + (count (s ++ false ∷ []) + count (s ++ true ∷ [])) ≤ count s
          → 0 + opening_cost eq (as_list (answer [])) h ≤ count s) [
            | Some v ↦ λ _ c. let one = at_most_one eq (as_list (answer [])) h in omega arith
            | None ↦ λ is _. subst (λ o. 0 + opening_cost eq (as_list o) h ≤ count s) is (alone h)
          ] (same [] refl) (splits s)
        where
          alone : (o : Option X) → 0 + opening_cost eq (as_list o) o ≤ count s
          alone None = omega arith
          alone (Some v) = let z : opening_cost eq (v ∷ []) (Some v) ≡ 0 = ap (λ b. cond (b || false) 0 1) (laws.refl v) in omega arith
      at_least (suc n) answer h s same =
          let left : least eq cmp n (λ r. answer (false ∷ r)) (option_or (f s) h) ≤ count (s ++ false ∷ []) = at_least n (λ r. answer (false ∷ r)) (option_or (f s) h) (s ++ false ∷ []) (λ r l. same (false ∷ r) (omega arith)) in
          let right : least eq cmp n (λ r. answer (true ∷ r)) (option_or (f s) h) ≤ count (s ++ true ∷ []) = at_least n (λ r. answer (true ∷ r)) (option_or (f s) h) (s ++ true ∷ []) (λ r l. same (true ∷ r) (omega arith)) in
          elim (f s) as (λ o. f s ≡ o → least eq cmp n (λ r. answer (false ∷ r)) (option_or o h) ≤ count (s ++ false ∷ []) → least eq cmp n (λ r. answer (true ∷ r)) (option_or o h) ≤ count (s ++ true ∷ [])
          → entries_at o + (count (s ++ false ∷ []) + count (s ++ true ∷ [])) ≤ count s → least eq cmp (suc n) answer h ≤ count s) [
            | Some v ↦ λ is l r c.
                let w = with_stored eq laws cmp ties (first_values eq cmp n (λ r. answer (false ∷ r))) (first_values eq cmp n (λ r. answer (true ∷ r))) h v (valued v is) in
                omega (arith, l, r, c, w)
            | None ↦ λ is l r c.
                let u = unstored eq laws cmp ties (first_values eq cmp n (λ r. answer (false ∷ r))) (first_values eq cmp n (λ r. answer (true ∷ r))) h held in
                omega (arith, l, r, c, u)
          ] refl left right (splits s)
        where
          valued : (v : X) → f s ≡ Some v → first_values eq cmp (suc n) answer ≡ [] → ⊥
          valued v is none = let q = hole (suc n) answer none in at_question q.0 q.1 (same q.0 q.1 ∙ q.2)
            where
              at_question : (q : List Bool) → length q ≡ suc n → value_along f h s q ≡ None → ⊥
              at_question [] l bad = omega arith
              at_question (b ∷ r) l bad = along_some f v (s ++ b ∷ []) r (ap (λ o. value_along f (option_or o h) (s ++ b ∷ []) r) (sym is) ∙ bad)

          held : first_values eq cmp (suc n) answer ≡ [] → h ≡ None
          held none = let q = hole (suc n) answer none in
              elim h as (λ o. value_along f o s q.0 ≡ None → o ≡ None) [ None ↦ λ _. refl | Some v ↦ λ bad. absurd (along_some f v s q.0 bad) ] (same q.0 q.1 ∙ q.2)
