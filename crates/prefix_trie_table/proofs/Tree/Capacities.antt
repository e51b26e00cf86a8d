-- Contracts see the same table if its arrays have other capacities: for `shrink_to_fit`.
use Rattle.prefix_trie_table.proofs.Prelude.{◌≡◌, ℕ, Option, sym, ap₂, subst, State, Node, Store, IsTable, Shaped, same_shape, Sized, Sized-prop}
use Rattle.prefix_trie_table.proofs.Blocks.Capacity.{IsTable-capacities}
use Rattle.prefix_trie_table.proofs.Lookup.Lending.{seen_of}

module _ {T : Type 0} (v v2 : Store Node) (w w2 : Store (Option T)) (count : ℕ) (s : Shaped v.slots w.slots) (is : IsTable v w count s.0) (z : Sized v.slots)
    (nodes : v2 ≡ record v { capacities = v2.capacities }) (cells : w2 ≡ record w { capacities = w2.capacities }) where
  pub shape_stays : Shaped v2.slots w2.slots
  shape_stays = subst (λ (x : Store Node). Shaped x.slots w2.slots) (sym nodes) (subst (λ (y : Store (Option T)). Shaped v.slots y.slots) (sym cells) s)

  pub sizes_stay : Sized v2.slots
  sizes_stay = subst (λ (x : Store Node). Sized x.slots) (sym nodes) z

  abbrev Stays : Store Node → Store (Option T) → Type 0
  Stays x y = (t : Shaped x.slots y.slots) → IsTable x y count t.0 × ((k : Sized x.slots) → seen_of x y t.0 k ≡ seen_of v w s.0 z)

  pub table_stays : Stays v2 w2
  table_stays =
      subst (λ (x : Store Node). Stays x w2) (sym nodes)
      (subst (λ (y : Store (Option T)). Stays (record v { capacities = v2.capacities }) y) (sym cells) (λ t.
      let same : s.0 ≡ t.0 = same_shape v.slots w.slots s.0 t.0 s.1 t.1 in (
        subst (λ (x : State T). IsTable (record v { capacities = v2.capacities }) (record w { capacities = w2.capacities }) count x) same (IsTable-capacities v w v2.capacities w2.capacities count s.0 is),
        λ k. ap₂ (λ (x : State T) (y : Sized v.slots). seen_of v w x y) (sym same) (Sized-prop v.slots k z),
      )))
