-- A list that copies the items of a walk has all of them, if it can be allocated: for the listings of `replay`.
use Rattle.prefix_trie.proofs.Prelude.{◌≡◌, refl, List, [], ◌∷◌, ◌++◌, map, sym, ap, subst, ◌∙◌, Option, Result, Ok, Err, IfOk, All, All-map, Yields, Drains, HoldsAlong, map_source, map_steps, Map, Mut, Called, TakesFirst}
use Rattle.std.proofs.lemmas.List.{append-nil}

module _ {S X A F : Type 0} (steps : S → Option A → S → Type 0) (shows : A → X) (g : Mut F (A × Unit {0}) X) (each : (f : F) (x : A) (y : X) (later : F) → Called g f (x, tt) y later → y ≡ shows x) where
  -- the copies so far are of the items that the walk gave
  pub come_copied : (xs : List X) (s t : Map S F) → Yields (map_steps steps g) s xs t → (lent : List A) × Yields steps (map_source s) lent (map_source t) × (xs ≡ map shows lent)
  come_copied [] s t same = ([], ap map_source same, refl)
  come_copied (y ∷ ys) s t (next, (x, takes, called), later) =
      let rest = come_copied ys next t later in
      (x ∷ rest.0, (map_source next, takes, rest.1), ap (λ z. z ∷ ys) (each _ x y _ called) ∙ ap (λ zs. shows x ∷ zs) rest.2)

  -- at the end of the walk they are the copies of all items
  pub all_copied : (xs : List X) (s : Map S F) → Drains (map_steps steps g) s xs → (lent : List A) × Drains steps (map_source s) lent × (xs ≡ map shows lent)
  all_copied xs s (u, (t, yields, none)) =
      let come = come_copied xs s t yields in
      (come.0, (map_source u, (map_source t, come.1, none.0)), come.2)

  -- what holds of the copy of each item that the walk gives holds of each copy
  pub copies_hold : (Fits : X → Type 0) (s : Map S F) → HoldsAlong steps (map_source s) (All (λ a. Fits (shows a))) → HoldsAlong (map_steps steps g) s (All Fits)
  copies_hold Fits s h = λ xs t given.
      let come = come_copied xs s t given in
      subst (All Fits) (sym come.2) (All-map Fits shows come.0 (h come.0 (map_source t) come.1))

  -- an empty list that is extended by all copies has the copies of all items of the walk
  pub takes_copies : {walk : S} {before after : List X} (xs : List X) (s : Map S F) → Drains (map_steps steps g) s xs → map_source s ≡ walk → before ≡ [] → after ≡ before ++ xs
      → (lent : List A) × Drains steps walk lent × (after ≡ map shows lent)
  takes_copies xs s drains source empty added =
      let all = all_copied xs s drains in
      (all.0, subst (λ z. Drains steps z all.0) source all.1, added ∙ ap (λ zs. zs ++ xs) empty ∙ all.2)

module _ {X A : Type 0} (shows : A → X) where
  come_first : (lent : List A) (s t : List X) → Yields (TakesFirst shows) s lent t → s ≡ map shows lent ++ t
  come_first [] s t same = same
  come_first (x ∷ xs) s t (next, takes, later) = takes ∙ ap (λ zs. shows x ∷ zs) (come_first xs next t later)

  -- if they can be allocated, the copies are of all items that the walk had left
  pub has_walk : {V E : Type 0} (items : V → List X) {walk listed : List X} (made : Result V E)
      → IfOk made (λ v. (lent : List A) × Drains (TakesFirst shows) walk lent × (items v ≡ map shows lent)) → walk ≡ listed → IfOk made (λ v. items v ≡ listed)
  has_walk items (Ok v) (lent, (u, (t, yields, none)), are) is =
      are ∙ sym (come_first lent _ t yields ∙ ap (λ zs. map shows lent ++ zs) none.0 ∙ append-nil (map shows lent)) ∙ is
  has_walk items (Err e) none is = tt
