-- What the halves of a part cost together is at least what the part costs, and no more if it begins with its best
-- value: for the smallest table.
use Rattle.std.proofs.Common.{◌≡◌, ◌∙◌, ◌+◌, ◌≤◌, ◌&&◌, ◌||◌, Bool, true, false, true≢false, cond, List, [], ◌∷◌, Option, Some, None, is_eq, ap, sym, subst, refl, arith}
use Rattle.std.specs.declared.cmp.Ordering.{Ordering}
use Rattle.std.specs.Cmp.{IsEquivalence}
use Rattle.std.specs.Set.{is_member, sorted_merge}
use Rattle.prefix_trie_ops.specs.Parts.{best_value, combined_cost, combined_values, one_if_none, opening_cost, or_list, shared_values, stored}
use Rattle.prefix_trie_ops.proofs.Smallest.Sets.{combined_some, merged_member, shared_member}

module _ {X : Type 0} (eq : X → X → Bool) where
  -- a part costs at most one entry in addition
  pub at_most_one : (xs : List X) (h : Option X) → opening_cost eq xs h ≤ 1
  at_most_one [] h = omega arith
  at_most_one (x ∷ xs) None = omega arith
  at_most_one (x ∷ xs) (Some v) = elim (is_member eq (x ∷ xs) v) as (λ b. cond b 0 1 ≤ 1) [ true ↦ omega arith | false ↦ omega arith ]

  -- and none if it can begin with the value
  free : (xs : List X) (v : X) → is_member eq xs v ≡ true → opening_cost eq xs (Some v) ≡ 0
  free [] v is = absurd (true≢false (sym is))
  free (x ∷ xs) v is = ap (λ b. cond b 0 1) is

  dear : (x : X) (xs : List X) (v : X) → is_member eq (x ∷ xs) v ≡ false → opening_cost eq (x ∷ xs) (Some v) ≡ 1
  dear x xs v is = ap (λ b. cond b 0 1) is

  module _ (x y : X) (xs' ys' : List X) (h : Option X) where
    -- if the halves share no value, one of them does not begin with this one
    apart : ((v : X) → (is_member eq (x ∷ xs') v && is_member eq (y ∷ ys') v) ≡ false) → (v : X) → 1 ≤ opening_cost eq (x ∷ xs') (Some v) + opening_cost eq (y ∷ ys') (Some v)
    apart none v = elim (is_member eq (x ∷ xs') v) as (λ b. (b && is_member eq (y ∷ ys') v) ≡ false → 1 ≤ cond b 0 1 + opening_cost eq (y ∷ ys') (Some v)) [
      | true ↦ λ off. let c = dear y ys' v off in omega arith
      | false ↦ λ _. omega arith
    ] (none v)

    -- the part begins with a value of each half
    union : (zs : List X) → ((v : X) → (is_member eq (x ∷ xs') v && is_member eq (y ∷ ys') v) ≡ false) → ((v : X) → is_member eq zs v ≡ (is_member eq (x ∷ xs') v || is_member eq (y ∷ ys') v))
        → 1 + opening_cost eq zs h ≤ opening_cost eq (x ∷ xs') h + opening_cost eq (y ∷ ys') h
    union zs none all = elim h as (λ o. 1 + opening_cost eq zs o ≤ opening_cost eq (x ∷ xs') o + opening_cost eq (y ∷ ys') o) [
      | None ↦ let one = at_most_one zs None in omega arith
      | Some v ↦ elim (is_member eq (x ∷ xs') v) as (λ b. (b && is_member eq (y ∷ ys') v) ≡ false → is_member eq zs v ≡ (b || is_member eq (y ∷ ys') v)
          → 1 + opening_cost eq zs (Some v) ≤ cond b 0 1 + opening_cost eq (y ∷ ys') (Some v)) [
            | true ↦ λ off is. let c = dear y ys' v off in let f = free zs v is in omega arith
            | false ↦ λ _ is. elim (is_member eq (y ∷ ys') v) as (λ b. is_member eq zs v ≡ b → 1 + opening_cost eq zs (Some v) ≤ 1 + cond b 0 1) [
              | true ↦ λ is. let f = free zs v is in omega arith
              | false ↦ λ _. let one = at_most_one zs (Some v) in omega arith
            ] is
          ] (none v) (all v)
    ]

    -- the part begins with the values that both halves have
    intersection : (zs : List X) → ((v : X) → is_member eq zs v ≡ (is_member eq (x ∷ xs') v && is_member eq (y ∷ ys') v))
        → opening_cost eq zs h ≤ opening_cost eq (x ∷ xs') h + opening_cost eq (y ∷ ys') h
    intersection zs both = elim h as (λ o. opening_cost eq zs o ≤ opening_cost eq (x ∷ xs') o + opening_cost eq (y ∷ ys') o) [
      | None ↦ let one = at_most_one zs None in omega arith
      | Some v ↦ elim (is_member eq (x ∷ xs') v) as (λ b. is_member eq zs v ≡ (b && is_member eq (y ∷ ys') v) → opening_cost eq zs (Some v) ≤ cond b 0 1 + opening_cost eq (y ∷ ys') (Some v)) [
        | true ↦ λ is. elim (is_member eq (y ∷ ys') v) as (λ b. is_member eq zs v ≡ b → opening_cost eq zs (Some v) ≤ 0 + cond b 0 1) [
          | true ↦ λ is. let f = free zs v is in omega arith
          | false ↦ λ _. let one = at_most_one zs (Some v) in omega arith
        ] is
        | false ↦ λ _. let one = at_most_one zs (Some v) in omega arith
      ] (both v)
    ]

    -- whatever value the halves begin with, the part costs at most one entry more
    union_more : (v : X) (zs : List X) → ((v : X) → (is_member eq (x ∷ xs') v && is_member eq (y ∷ ys') v) ≡ false)
        → 1 + opening_cost eq zs h ≤ 1 + (opening_cost eq (x ∷ xs') (Some v) + opening_cost eq (y ∷ ys') (Some v))
    union_more v zs none = let one = at_most_one zs h in let a = apart none v in omega arith

  -- the best value of a list is one of its values, and is stored only if the list does not have the given value
  best : (laws : IsEquivalence eq) (z : X) (zs : List X) (h : Option X)
      → (w : X) × (best_value eq (z ∷ zs) h ≡ Some w) × (is_member eq (z ∷ zs) w ≡ true) × (stored eq h (Some w) ≤ opening_cost eq (z ∷ zs) h)
  best laws z zs None = (z, refl, ap (λ b. b || is_member eq zs z) (laws.refl z), omega arith)
  best laws z zs (Some v) = elim (is_member eq (z ∷ zs) v) as (λ b. is_member eq (z ∷ zs) v ≡ b
      → (w : X) × (Some (cond b v z) ≡ Some w) × (is_member eq (z ∷ zs) w ≡ true) × (stored eq (Some v) (Some w) ≤ cond b 0 1)) [
        | true ↦ λ is. (v, refl, is, ap_le (laws.refl v))
        | false ↦ λ _. (z, refl, ap (λ b. b || is_member eq zs z) (laws.refl z), elim (eq v z) as (λ b. cond b 0 1 ≤ 1) [ true ↦ omega arith | false ↦ omega arith ])
      ] refl
    where
      ap_le : eq v v ≡ true → cond (eq v v) 0 1 ≤ 0
      ap_le is = elim (eq v v) as (λ b. b ≡ true → cond b 0 1 ≤ 0) [ true ↦ λ _. omega arith | false ↦ λ bad. absurd (true≢false (sym bad)) ] is

  module _ (laws : IsEquivalence eq) (cmp : X → X → Ordering) (ties : (x y : X) → eq x y ≡ is_eq (cmp x y)) where
    nothing_shared : (xs ys : List X) → shared_values eq xs ys ≡ [] → (v : X) → (is_member eq xs v && is_member eq ys v) ≡ false
    nothing_shared xs ys none v = sym (shared_member eq laws xs ys v) ∙ ap (λ s. is_member eq s v) none

    shared_are : (xs ys zs : List X) → shared_values eq xs ys ≡ zs → (v : X) → is_member eq zs v ≡ (is_member eq xs v && is_member eq ys v)
    shared_are xs ys zs is v = ap (λ s. is_member eq s v) (sym is) ∙ shared_member eq laws xs ys v

    -- a part that stores nothing costs at most what its halves cost with the same value
    pub unstored : (xs ys : List X) (h : Option X) → (combined_values eq cmp xs ys ≡ [] → h ≡ None)
        → combined_cost eq xs ys + opening_cost eq (combined_values eq cmp xs ys) h ≤ opening_cost eq xs h + opening_cost eq ys h
    unfolding combined_values
    unstored [] ys h none = subst (λ o. opening_cost eq ys None + 0 ≤ 0 + opening_cost eq ys o) (sym (none refl)) (omega arith)
    unstored (x ∷ xs) [] h none = subst (λ o. 1 + 0 ≤ opening_cost eq (x ∷ xs) o + 0) (sym (none refl)) (omega arith)
    unstored (x ∷ xs) (y ∷ ys) h none = elim (shared_values eq (x ∷ xs) (y ∷ ys)) as (λ s. shared_values eq (x ∷ xs) (y ∷ ys) ≡ s
        → one_if_none s + opening_cost eq (or_list s (sorted_merge cmp true (x ∷ xs) (y ∷ ys))) h ≤ opening_cost eq (x ∷ xs) h + opening_cost eq (y ∷ ys) h) [
          | [] ↦ λ is. union x y xs ys h (sorted_merge cmp true (x ∷ xs) (y ∷ ys)) (nothing_shared (x ∷ xs) (y ∷ ys) is) (merged_member eq laws cmp ties (x ∷ xs) (y ∷ ys))
          | s ∷ ss ↦ λ is. let i = intersection x y xs ys h (s ∷ ss) (shared_are (x ∷ xs) (y ∷ ys) (s ∷ ss) is) in omega arith
        ] refl

    -- a part that stores a value costs at most what its halves cost with this value, and one entry
    pub with_stored : (xs ys : List X) (h : Option X) (v : X) → (combined_values eq cmp xs ys ≡ [] → ⊥)
        → combined_cost eq xs ys + opening_cost eq (combined_values eq cmp xs ys) h ≤ 1 + (opening_cost eq xs (Some v) + opening_cost eq ys (Some v))
    unfolding combined_values
    with_stored [] ys h v some = absurd (some refl)
    with_stored (x ∷ xs) [] h v some = absurd (some refl)
    with_stored (x ∷ xs) (y ∷ ys) h v some = elim (shared_values eq (x ∷ xs) (y ∷ ys)) as (λ s. shared_values eq (x ∷ xs) (y ∷ ys) ≡ s
        → one_if_none s + opening_cost eq (or_list s (sorted_merge cmp true (x ∷ xs) (y ∷ ys))) h ≤ 1 + (opening_cost eq (x ∷ xs) (Some v) + opening_cost eq (y ∷ ys) (Some v))) [
          | [] ↦ λ is. union_more x y xs ys h v (sorted_merge cmp true (x ∷ xs) (y ∷ ys)) (nothing_shared (x ∷ xs) (y ∷ ys) is)
          | s ∷ ss ↦ λ _. let one = at_most_one (s ∷ ss) h in omega arith
        ] refl

    -- halves that begin with a combined value cost at most the combined cost
    combined_free : (x y : X) (xs ys : List X) (w : X) → is_member eq (combined_values eq cmp (x ∷ xs) (y ∷ ys)) w ≡ true
        → opening_cost eq (x ∷ xs) (Some w) + opening_cost eq (y ∷ ys) (Some w) ≤ combined_cost eq (x ∷ xs) (y ∷ ys)
    unfolding combined_values
    combined_free x y xs ys w in_combined = elim (shared_values eq (x ∷ xs) (y ∷ ys)) as (λ s. shared_values eq (x ∷ xs) (y ∷ ys) ≡ s
        → is_member eq (or_list s (sorted_merge cmp true (x ∷ xs) (y ∷ ys))) w ≡ true → opening_cost eq (x ∷ xs) (Some w) + opening_cost eq (y ∷ ys) (Some w) ≤ one_if_none s) [
          | [] ↦ λ is at. one_free (is_member eq (x ∷ xs) w) (is_member eq (y ∷ ys) w) (sym (merged_member eq laws cmp ties (x ∷ xs) (y ∷ ys) w) ∙ at)
          | s ∷ ss ↦ λ is at. both_free (is_member eq (x ∷ xs) w) (is_member eq (y ∷ ys) w) (sym (shared_are (x ∷ xs) (y ∷ ys) (s ∷ ss) is w) ∙ at)
        ] refl in_combined
      where
        one_free : (a b : Bool) → (a || b) ≡ true → cond a 0 1 + cond b 0 1 ≤ 1
        one_free true true _ = omega arith
        one_free true false _ = omega arith
        one_free false true _ = omega arith
        one_free false false bad = absurd (true≢false (sym bad))

        both_free : (a b : Bool) → (a && b) ≡ true → cond a 0 1 + cond b 0 1 ≤ 0
        both_free true true _ = omega arith
        both_free true false bad = absurd (true≢false (sym bad))
        both_free false b bad = absurd (true≢false (sym bad))

    -- a part that begins with its best value costs no more
    pub with_best : (xs ys : List X) (h : Option X) → (combined_values eq cmp xs ys ≡ [] → h ≡ None)
        → stored eq h (best_value eq (combined_values eq cmp xs ys) h) + (opening_cost eq xs (best_value eq (combined_values eq cmp xs ys) h) + opening_cost eq ys (best_value eq (combined_values eq cmp xs ys) h))
        ≤ combined_cost eq xs ys + opening_cost eq (combined_values eq cmp xs ys) h
    unfolding combined_values
    with_best [] ys h none = omega arith
    with_best (x ∷ xs) [] h none = omega arith
    with_best (x ∷ xs) (y ∷ ys) h none = elim (combined_values eq cmp (x ∷ xs) (y ∷ ys)) as (λ j. combined_values eq cmp (x ∷ xs) (y ∷ ys) ≡ j
        → stored eq h (best_value eq j h) + (opening_cost eq (x ∷ xs) (best_value eq j h) + opening_cost eq (y ∷ ys) (best_value eq j h)) ≤ combined_cost eq (x ∷ xs) (y ∷ ys) + opening_cost eq j h) [
          | [] ↦ λ is. absurd (combined_some eq laws cmp ties x y xs ys is)
          | z ∷ zs ↦ λ is.
              let b = best laws z zs h in
              let w = b.0 in
              let f = combined_free x y xs ys w (ap (λ j. is_member eq j w) is ∙ b.2) in
              let s = b.3 in
              subst (λ o. stored eq h o + (opening_cost eq (x ∷ xs) o + opening_cost eq (y ∷ ys) o) ≤ combined_cost eq (x ∷ xs) (y ∷ ys) + opening_cost eq (z ∷ zs) h) (sym b.1) (omega arith)
        ] refl
