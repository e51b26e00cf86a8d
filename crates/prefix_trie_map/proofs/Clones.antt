-- A copy of a map has clones of its values: for `clone`.
use Rattle.prefix_trie_map.proofs.Prelude.{◌≡◌, ◌↔◌, ℕ, true, List, Bool, sym, ◌∙◌, subst, get, contains_key, Entries, Nodes, AreNodes, IsTidy, needed, State, IsMap, same_nodes, needed_fewer, AreCloned, cloned_there, CopyLaws, [], ◌∷◌, map, refl, ap, ap₂, AllZip, prefix_pairs, IsPairCloned, Option, None, Some, IsSomeAnd, IsCloned, same_entries, none-some, same_Some}

-- a copy with the keys and nodes of a map is a map
pub IsMap-copied : {T : Type 0} (C : T → T → Type 0) (width : ℕ) (s copy : State T) → AreCloned C s.entries copy.entries → copy.nodes ≡ s.nodes →
    IsMap width s → IsMap width copy
IsMap-copied C width s copy cloned nodes good = record {
  keys_within = λ k h. good.keys_within k (stored k h);
  are_nodes = subst (λ (n : Nodes). AreNodes width copy.entries n) (sym nodes) (record {
    within = good.are_nodes.within;
    depths = good.are_nodes.depths;
    rooted = good.are_nodes.rooted;
    closed = good.are_nodes.closed;
    hold_needed = λ q h. good.are_nodes.hold_needed q (needed_fewer s.entries copy.entries stored q h);
  });
}
  where
    stored : (k : List Bool) → contains_key copy.entries k ≡ true → contains_key s.entries k ≡ true
    stored k h = sym (cloned_there C (get s.entries k) (get copy.entries k) (cloned k)) ∙ h

module _ {T : Type 0} (C : T → T → Type 0) where
  -- a copy has the keys of its source, so it needs the same nodes
  same_needed : (m copy : Entries T) → AreCloned C m copy → needed copy ≡ needed m
  same_needed m copy cloned =
      same_nodes (needed copy) (needed m) (λ q. needed_fewer m copy (λ k h. sym (there k) ∙ h) q) (λ q. needed_fewer copy m (λ k h. there k ∙ h) q)
    where
      there : (k : List Bool) → contains_key copy k ≡ contains_key m k
      there k = cloned_there C (get m k) (get copy k) (cloned k)

  as_tidy : (m copy : Entries T) (n : Nodes) → AreCloned C m copy → IsTidy m n ↔ IsTidy copy n
  as_tidy m copy n cloned = (λ tidy. tidy ∙ sym (same_needed m copy cloned), λ tidy. tidy ∙ same_needed m copy cloned)

  has_clone : (m copy : Entries T) → AreCloned C m copy → (k : List Bool) (v : T) → get m k ≡ Some v → IsSomeAnd (get copy k) (C v)
  has_clone m copy cloned k v e = at (get m k) e (cloned k)
    where
      at : (x : Option T) → x ≡ Some v → IsCloned C x (get copy k) → IsSomeAnd (get copy k) (C v)
      at None h c = absurd (none-some v h)
      at (Some u) h c = subst (λ w. IsSomeAnd (get copy k) (C w)) (same_Some u v h) c

  is_same : ((v w : T) → C v w → w ≡ v) → (m copy : Entries T) → AreCloned C m copy → copy ≡ m
  is_same exact m copy cloned = same_entries copy m (λ k. at (get m k) (get copy k) (cloned k))
    where
      at : (x y : Option T) → IsCloned C x y → y ≡ x
      at None y c = c
      at (Some v) None c = absurd c
      at (Some v) (Some w) c = ap Some (exact v w c)

  pub copy_laws : CopyLaws C
  copy_laws = record { same_needed = same_needed; as_tidy = as_tidy; has_clone = has_clone; is_same = is_same }

module _ {T : Type 0} (C : T → T → Type 0) where
  -- if the pairs are clones, so are the pairs that users see
  pub shown_cloned : {P : Type 0} (back : List Bool → P) (xs ys : List (List Bool × T)) → AllZip (IsPairCloned C) xs ys →
      AllZip (IsPairCloned C) (prefix_pairs back xs) (prefix_pairs back ys)
  shown_cloned back [] [] z = tt
  shown_cloned back [] (y ∷ ys) z = absurd z
  shown_cloned back (x ∷ xs) [] z = absurd z
  shown_cloned back (x ∷ xs) (y ∷ ys) z = ((ap back z.0.0, z.0.1), shown_cloned back xs ys z.1)

  -- the keys of the pairs are the same
  pub keys_cloned : {P : Type 0} (xs ys : List (P × T)) → AllZip (IsPairCloned C) xs ys → map (λ e. e.0) ys ≡ map (λ e. e.0) xs
  keys_cloned [] [] z = refl
  keys_cloned [] (y ∷ ys) z = absurd z
  keys_cloned (x ∷ xs) [] z = absurd z
  keys_cloned (x ∷ xs) (y ∷ ys) z = ap₂ (λ k ks. k ∷ ks) z.0.0 (keys_cloned xs ys z.1)

  -- the values of the pairs are clones
  pub values_cloned : {P : Type 0} (xs ys : List (P × T)) → AllZip (IsPairCloned C) xs ys → AllZip C (map (λ e. e.1) xs) (map (λ e. e.1) ys)
  values_cloned [] [] z = tt
  values_cloned [] (y ∷ ys) z = absurd z
  values_cloned (x ∷ xs) [] z = absurd z
  values_cloned (x ∷ xs) (y ∷ ys) z = (z.0.1, values_cloned xs ys z.1)
