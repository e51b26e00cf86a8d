-- Small facts on elements of lists that are mapped or filtered.
use Rattle.std.proofs.Common.{◌≡◌, ◌⊎◌, ◌==◌, ◌+◌, length, zero, suc, Bool, true, false, eqb-true, cond, List, [], ◌∷◌, ◌++◌, get_or, map, filter, refl, sym, ap, subst, take, ◌∙◌, inl, inr, arith}
use Rattle.std.specs.List.{Any, Contains}

module _ {X : Type 0} where
  -- a list without elements
  pub none_of : (xs : List X) → (length xs == 0) ≡ true → xs ≡ []
  none_of [] e = refl
  none_of (x ∷ xs) e = absurd (let z = eqb-true (length (x ∷ xs)) 0 e in omega (arith, z))

  -- an element of a list is the first one or one of the others
  pub in_cons : (y : X) (ys : List X) (x : X) → Contains (y ∷ ys) x → (y ≡ x) ⊎ Contains ys x
  in_cons y ys x (zero, less, is) = inl is
  in_cons y ys x (suc k, less, is) = inr (k, omega arith, is)

  pub in_here : (y : X) (ys : List X) (x : X) → y ≡ x → Contains (y ∷ ys) x
  in_here y ys x is = (zero, omega arith, is)

  pub in_later : (y : X) (ys : List X) (x : X) → Contains ys x → Contains (y ∷ ys) x
  in_later y ys x (k, less, is) = (suc k, omega arith, is)

  -- an element that passes is in the filtered list
  pub in_filter : (p : X → Bool) (xs : List X) (x : X) → p x ≡ true → Contains xs x → Contains (filter p xs) x
  in_filter p [] x passes (k, less, is) = absurd (omega arith)
  in_filter p (y ∷ ys) x passes at = elim (in_cons y ys x at) [
    | inl is ↦ subst (λ b. Contains (cond b (y ∷ filter p ys) (filter p ys)) x) (sym (ap p is ∙ passes)) (in_here y (filter p ys) x is)
    | inr later ↦ elim (p y) as (λ b. Contains (cond b (y ∷ filter p ys) (filter p ys)) x) [
      | true ↦ in_later y (filter p ys) x (in_filter p ys x passes later)
      | false ↦ in_filter p ys x passes later
    ]
  ]

  pub from_filter : (p : X → Bool) (xs : List X) (x : X) → Contains (filter p xs) x → Contains xs x × (p x ≡ true)
  from_filter p [] x (k, less, is) = absurd (omega arith)
  from_filter p (y ∷ ys) x at =
      elim (p y) as (λ b. p y ≡ b → Contains (cond b (y ∷ filter p ys) (filter p ys)) x → Contains (y ∷ ys) x × (p x ≡ true)) [
        | true ↦ λ e here. elim (in_cons y (filter p ys) x here) [
          | inl is ↦ (in_here y ys x is, sym (ap p is) ∙ e)
          | inr later ↦ let w = from_filter p ys x later in (in_later y ys x w.0, w.1)
        ]
        | false ↦ λ e here. let w = from_filter p ys x here in (in_later y ys x w.0, w.1)
      ] refl at

  -- the element after some others
  pub at_done : (done later : List X) (x d : X) → get_or (done ++ x ∷ later) (length done) d ≡ x
  at_done [] later x d = refl
  at_done (first ∷ done) later x d = at_done done later x d

  -- the elements up to it
  pub up_to : (done later : List X) (x : X) → take (length done + 1) (done ++ x ∷ later) ≡ done ++ x ∷ []
  up_to [] later x = refl
  up_to (first ∷ done) later x = let e : suc (length done) + 1 ≡ suc (length done + 1) = omega arith in rw e (ap (λ xs. first ∷ xs) (up_to done later x))

  -- some element passes if the first or a later one does
  pub some_cons : (P : X → Type 0) (x : X) (xs : List X) → Any P (x ∷ xs) → P x ⊎ Any P xs
  some_cons P x xs (zero, y, less, at, p) = inl (subst P (sym at) p)
  some_cons P x xs (suc k, y, less, at, p) = inr (k, y, omega arith, at, p)

  pub some_here : (P : X → Type 0) (x : X) (xs : List X) → P x → Any P (x ∷ xs)
  some_here P x xs p = (zero, x, omega arith, refl, p)

  pub some_later : (P : X → Type 0) (x : X) (xs : List X) → Any P xs → Any P (x ∷ xs)
  some_later P x xs (k, y, less, at, p) = (suc k, y, omega arith, at, p)

module _ {X Y : Type 0} (f : X → Y) where
  -- the image of an element is in the mapped list
  pub in_map : (xs : List X) (x : X) → Contains xs x → Contains (map f xs) (f x)
  in_map [] x (k, less, is) = absurd (omega arith)
  in_map (y ∷ ys) x at = elim (in_cons y ys x at) [
    | inl is ↦ in_here (f y) (map f ys) (f x) (ap f is)
    | inr later ↦ in_later (f y) (map f ys) (f x) (in_map ys x later)
  ]

  pub from_map : (xs : List X) (z : Y) → Contains (map f xs) z → (x : X) × Contains xs x × (f x ≡ z)
  from_map [] z (k, less, is) = absurd (omega arith)
  from_map (y ∷ ys) z at = elim (in_cons (f y) (map f ys) z at) [
    | inl is ↦ (y, in_here y ys y refl, is)
    | inr later ↦ let w = from_map ys z later in (w.0, in_later y ys w.0 w.1, w.2)
  ]

  -- filtering a mapped list is mapping a filtered one
  pub filter_of_map : (p : Y → Bool) (xs : List X) → filter p (map f xs) ≡ map f (filter (λ x. p (f x)) xs)
  filter_of_map p [] = refl
  filter_of_map p (y ∷ ys) =
      elim (p (f y)) as (λ b. cond b (f y ∷ filter p (map f ys)) (filter p (map f ys)) ≡ map f (cond b (y ∷ filter (λ x. p (f x)) ys) (filter (λ x. p (f x)) ys))) [
        | true ↦ ap (λ zs. f y ∷ zs) (filter_of_map p ys)
        | false ↦ filter_of_map p ys
      ]
