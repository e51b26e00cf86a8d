-- Which values the combined values of two lists are: for the smallest table.
use Rattle.std.proofs.Common.{◌≡◌, ◌∙◌, ◌&&◌, ◌||◌, Bool, true, false, true≢false, cond, List, [], ◌∷◌, Option, Some, None, Less, Equal, Greater, is_eq, ap, sym, refl}
use Rattle.std.specs.Cmp.{IsEquivalence}
use Rattle.std.specs.declared.cmp.Ordering.{Ordering}
use Rattle.std.specs.Ordering.{match_ordering}
use Rattle.std.specs.Set.{is_member, sorted_merge, merge_step}
use Rattle.std.proofs.lemmas.Map.Made.{is_member-filter}
use Rattle.prefix_trie_ops.specs.Parts.{as_list, combined_values, or_list, shared_values}

or_none : (a : Bool) → a ≡ (a || false)
or_none true = refl
or_none false = refl

or_left : (a b c : Bool) → (a || (b || c)) ≡ ((a || b) || c)
or_left true b c = refl
or_left false b c = refl

or_tied : (a b c : Bool) → (a || (b || c)) ≡ ((a || b) || (a || c))
or_tied true b c = refl
or_tied false b c = refl

or_inside : (a b c : Bool) → (b || (a || c)) ≡ (a || (b || c))
or_inside true true c = refl
or_inside true false c = refl
or_inside false true c = refl
or_inside false false c = refl

module _ {X : Type 0} (eq : X → X → Bool) where
  -- a list with a member is not empty
  pub has_member : (xs : List X) (v : X) → is_member eq xs v ≡ true → xs ≡ [] → ⊥
  has_member [] v is none = true≢false (sym is)
  has_member (x ∷ xs) v is none = true≢false (sym is ∙ ap (λ es. is_member eq es v) none)

  module _ (laws : IsEquivalence eq) where
    -- a list has both of two equal values, or neither
    member_alike : (xs : List X) (v w : X) → eq v w ≡ true → is_member eq xs v ≡ is_member eq xs w
    member_alike [] v w e = refl
    member_alike (x ∷ xs) v w e = ap (λ b. b || is_member eq xs v) (laws.congr v w x e) ∙ ap (λ b. eq w x || b) (member_alike xs v w e)

    -- the shared values are those that both lists have
    pub shared_member : (xs ys : List X) (v : X) → is_member eq (shared_values eq xs ys) v ≡ (is_member eq xs v && is_member eq ys v)
    shared_member xs ys v = is_member-filter laws (is_member eq ys) v (λ x e. member_alike ys v x e) xs

    module _ (cmp : X → X → Ordering) (ties : (x y : X) → eq x y ≡ is_eq (cmp x y)) where
      step_member : (x : X) (xs : List X) (v : X) → ((zs : List X) → is_member eq (sorted_merge cmp true xs zs) v ≡ (is_member eq xs v || is_member eq zs v))
          → (zs : List X) → is_member eq (merge_step cmp true x xs (sorted_merge cmp true xs) zs) v ≡ ((eq v x || is_member eq xs v) || is_member eq zs v)
      step_member x xs v rest [] = or_none (eq v x || is_member eq xs v)
      step_member x xs v rest (z ∷ zs) = elim (cmp x z) as (λ o. cmp x z ≡ o
          → is_member eq (match_ordering o (x ∷ sorted_merge cmp true xs (z ∷ zs)) (x ∷ sorted_merge cmp true xs zs) (z ∷ merge_step cmp true x xs (sorted_merge cmp true xs) zs)) v
          ≡ ((eq v x || is_member eq xs v) || (eq v z || is_member eq zs v))) [
            | Less ↦ λ _. ap (λ b. eq v x || b) (rest (z ∷ zs)) ∙ or_left (eq v x) (is_member eq xs v) (eq v z || is_member eq zs v)
            | Equal ↦ λ l.
                let same : eq v x ≡ eq v z = laws.symm v x ∙ laws.congr x z v (ties x z ∙ ap is_eq l) ∙ laws.symm z v in
                ap (λ b. eq v x || b) (rest zs) ∙ or_tied (eq v x) (is_member eq xs v) (is_member eq zs v)
                ∙ ap (λ b. (eq v x || is_member eq xs v) || (b || is_member eq zs v)) same
            | Greater ↦ λ _. ap (λ b. eq v z || b) (step_member x xs v rest zs) ∙ or_inside (eq v x || is_member eq xs v) (eq v z) (is_member eq zs v)
          ] refl

      -- two lists merged have the values that one of them has
      pub merged_member : (xs ys : List X) (v : X) → is_member eq (sorted_merge cmp true xs ys) v ≡ (is_member eq xs v || is_member eq ys v)
      merged_member [] ys v = refl
      merged_member (x ∷ xs) ys v = step_member x xs v (λ zs. merged_member xs zs v) ys

      -- two lists with values have combined values
      pub combined_some : (x y : X) (xs ys : List X) → combined_values eq cmp (x ∷ xs) (y ∷ ys) ≡ [] → ⊥
      unfolding combined_values
      combined_some x y xs ys none = elim (shared_values eq (x ∷ xs) (y ∷ ys)) as (λ s. or_list s (sorted_merge cmp true (x ∷ xs) (y ∷ ys)) ≡ [] → ⊥) [
        | [] ↦ λ bad. has_member (sorted_merge cmp true (x ∷ xs) (y ∷ ys)) x (merged_member (x ∷ xs) (y ∷ ys) x ∙ ap (λ b. (b || is_member eq xs x) || is_member eq (y ∷ ys) x) (laws.refl x)) bad
        | s ∷ ss ↦ λ bad. has_member (s ∷ ss) s (ap (λ b. b || is_member eq ss s) (laws.refl s)) bad
      ] none

      pub combined_not_none : (xs ys : List X) → (xs ≡ [] → ⊥) → (ys ≡ [] → ⊥) → combined_values eq cmp xs ys ≡ [] → ⊥
      combined_not_none [] ys some some' none = some refl
      combined_not_none (x ∷ xs) [] some some' none = some' refl
      combined_not_none (x ∷ xs) (y ∷ ys) some some' none = combined_some x y xs ys none

      -- what a value alone begins, both halves of a part begin with it
      pub combined_alone : (o : Option X) → combined_values eq cmp (as_list o) (as_list o) ≡ as_list o
      unfolding combined_values
      combined_alone None = refl
      combined_alone (Some v) =
          ap (λ s. or_list s (sorted_merge cmp true (v ∷ []) (v ∷ []))) (ap (λ b. cond (b || false) (v ∷ []) []) (laws.refl v))
