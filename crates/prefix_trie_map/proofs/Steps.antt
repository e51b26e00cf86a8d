-- What holds of the table at a key's bits holds of the map at the prefix's path, and steps lead from maps to maps: for
-- all calls of maps.
use Rattle.prefix_trie_map.proofs.Prelude.{◌≡◌, ◌≤◌, ℕ, Bool, List, length, Option, subst, IsMap, State, Call, CallFits, Reply, Value, Storage, StepByPath, stays_map, Contents, state, stored_state}

module _ {T : Type 0} where
  -- what holds of the table at the bits of a key holds of the map at the path of the prefix
  pub by_key : (F : Contents T → List Bool → Type 0) {inside old : Contents T} {key path : List Bool} → inside ≡ old → key ≡ path → F inside key → F old path
  by_key F {inside} {old} {key} {path} same is fact = subst (λ m. F m path) same (subst (F inside) is fact)

  -- two equal replies have the same value
  pub one_value : (o p : Option T) → ◌≡◌ {A = Reply (List Bool) T} (Value o) (Value p) → o ≡ p
  one_value o p e = cc

  -- the table inside a map is a map
  pub is_map : {width : ℕ} {inside old : Contents T} → inside ≡ old → IsMap width (state inside) → IsMap width (state old)
  is_map {width} same good = subst (λ m. IsMap width (state m)) same good

  -- a step from a map leads to a map
  pub stays : {width : ℕ} {inside old : Contents T} {call : Call (List Bool) T} {r : Reply (List Bool) T} {t : State T × Storage} →
      inside ≡ old → IsMap width (state inside) → CallFits (λ q. length q ≤ width) call → StepByPath width (stored_state old) call r t → IsMap width t.0
  stays {width} {inside} {old} {call} {r} {t} same good fits h = stays_map (λ q. q) (λ q. q) width (state old) call r t.0 fits h.step (is_map same good)
