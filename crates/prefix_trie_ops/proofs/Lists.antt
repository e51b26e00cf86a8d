-- Small facts on members of lists, filters, and the last item of a list.
use Rattle.std.proofs.Common.{◌≡◌, ◌∙◌, ◌⊎◌, ◌++◌, ◌&&◌, zero, suc, Bool, true, false, cond, List, [], ◌∷◌, map, filter, Some, inl, inr, ap, sym, subst, refl, arith}
use Rattle.std.specs.List.{Contains}
use Rattle.prefix_trie.specs.Terms.{last_item}

module _ {X : Type 0} where
  pub contains_cases : (y x : X) (xs : List X) → Contains (y ∷ xs) x → (y ≡ x) ⊎ Contains xs x
  contains_cases y x xs (zero, l, e) = inl e
  contains_cases y x xs (suc k, l, e) = inr (k, omega arith, e)

  pub contains_later : (y x : X) (xs : List X) → Contains xs x → Contains (y ∷ xs) x
  contains_later y x xs (k, l, e) = (suc k, omega arith, e)

  pub contains_here : (x : X) (xs : List X) → Contains (x ∷ xs) x
  contains_here x xs = (0, omega arith, refl)

  pub contains_none : (x : X) → Contains [] x → ⊥
  contains_none x (k, l, e) = omega arith

  pub contains_parts : (xs ys : List X) (x : X) → Contains (xs ++ ys) x → Contains xs x ⊎ Contains ys x
  contains_parts [] ys x h = inr h
  contains_parts (z ∷ xs) ys x h = elim (contains_cases z x (xs ++ ys) h) [
    | inl e ↦ inl (subst (Contains (z ∷ xs)) e (contains_here z xs))
    | inr l ↦ elim (contains_parts xs ys x l) [ inl a ↦ inl (contains_later z x xs a) | inr b ↦ inr b ]
  ]

  -- two tests that agree on the items of a list keep the same items
  pub filter_agrees : (p q : X → Bool) (xs : List X) → ((x : X) → Contains xs x → p x ≡ q x) → filter p xs ≡ filter q xs
  filter_agrees p q [] h = refl
  filter_agrees p q (x ∷ xs) h =
      ap (λ b. cond b (x ∷ filter p xs) (filter p xs)) (h x (contains_here x xs))
      ∙ ap (λ ys. cond (q x) (x ∷ ys) ys) (filter_agrees p q xs (λ y at. h y (contains_later x y xs at)))

  pub filter_both : (p q : X → Bool) (xs : List X) → filter q (filter p xs) ≡ filter (λ x. p x && q x) xs
  filter_both p q [] = refl
  filter_both p q (x ∷ xs) = elim (p x) as (λ b. filter q (cond b (x ∷ filter p xs) (filter p xs)) ≡ cond (b && q x) (x ∷ filter (λ x. p x && q x) xs) (filter (λ x. p x && q x) xs)) [
    | true ↦ ap (λ ys. cond (q x) (x ∷ ys) ys) (filter_both p q xs)
    | false ↦ filter_both p q xs
  ]

  pub filter_none : (xs : List X) → filter (λ _. false) xs ≡ []
  filter_none [] = refl
  filter_none (x ∷ xs) = filter_none xs

  pub last_pushed : (xs : List X) (x : X) → last_item (xs ++ x ∷ []) ≡ Some x
  last_pushed [] x = refl
  last_pushed (y ∷ []) x = refl
  last_pushed (y ∷ z ∷ xs) x = last_pushed (z ∷ xs) x

  pub contains_middle : (front rest : List X) (d : X) → Contains (front ++ d ∷ rest) d
  contains_middle [] rest d = contains_here d rest
  contains_middle (x ∷ front) rest d = contains_later x d (front ++ d ∷ rest) (contains_middle front rest d)

abbrev pub head_of : {X : Type 0} → X → List X → X
head_of d [] = d
head_of d (x ∷ xs) = x

abbrev pub tail_of : {X : Type 0} → List X → List X
tail_of [] = []
tail_of (x ∷ xs) = xs

pub map_push : {X Y : Type 0} (f : X → Y) (xs : List X) (x : X) → map f xs ++ f x ∷ [] ≡ map f (xs ++ x ∷ [])
map_push f [] x = refl
map_push f (y ∷ xs) x = ap (λ zs. f y ∷ zs) (map_push f xs x)

-- an item that does not pass does not change what a filter keeps
pub filter_skips : {X : Type 0} (p : X → Bool) (xs rest : List X) (x : X) → xs ≡ x ∷ rest → p x ≡ false → filter p rest ≡ filter p xs
filter_skips p xs rest x is bad = sym (ap (filter p) is ∙ ap (λ b. cond b (x ∷ filter p rest) (filter p rest)) bad)
