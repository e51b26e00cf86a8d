-- A walk that gives each network with a unit gives as many items as the walk over the networks: for `from_iter` of sets.
use Rattle.std.proofs.Common.{◌≡◌, List, [], ◌∷◌, Option, map, ap, refl, ◌∙◌}
use Rattle.std.specs.Fn.{Called, Mut}
use Rattle.std.specs.Iterator.{Drains, Yields}
use Rattle.std.specs.Iterator.Adapters.{map_source, map_steps}
use Rattle.std.specs.declared.iter.Map.{Map}

module _ {S X A F : Type 0} (steps : S → Option A → S → Type 0) (shows : A → X) (g : Mut F (A × Unit {0}) X) (each : (f : F) (x : A) (y : X) (later : F) → Called g f (x, tt) y later → y ≡ shows x) where
  -- the items so far are made of those that the walk gave
  pub come_from : (xs : List X) (s t : Map S F) → Yields (map_steps steps g) s xs t → (lent : List A) × Yields steps (map_source s) lent (map_source t) × (xs ≡ map shows lent)
  come_from [] s t same = ([], ap map_source same, refl)
  come_from (y ∷ ys) s t (next, (x, takes, called), later) =
      let rest = come_from ys next t later in
      (x ∷ rest.0, (map_source next, takes, rest.1), ap (λ z. z ∷ ys) (each _ x y _ called) ∙ ap (λ zs. shows x ∷ zs) rest.2)

  -- at the end of the walk they are made of all items
  pub all_from : (xs : List X) (s : Map S F) → Drains (map_steps steps g) s xs → (lent : List A) × Drains steps (map_source s) lent × (xs ≡ map shows lent)
  all_from xs s (u, (t, yields, none)) =
      let come = come_from xs s t yields in
      (come.0, (map_source u, (map_source t, come.1, none.0)), come.2)
