-- The strings of entries as a set, and those to come of a walk.
use Rattle.prefix_trie_table.proofs.Prelude.{◌≡◌, Bool, true, false, cond, ◌&&◌, ◌||◌, nat_lt, List, [], ◌∷◌, ◌++◌, length, take, map, filter, Option, None, Some, is_some, is_lt, refl, sym, ap, ap₂, ◌∙◌, subst, false≢true, map-append, map-map, eq_by_cmp, list_any, get, contains_key, entries, entries_sorted, from_sorted, entries-from_sorted, contains_key-keys, is_sorted, below_all, begins, listing_cmp, same_string, Entries, with_entry, Nodes, has_node, pair_of, listing_at_place, listing_at_places, to_come, same_members, same_string-is, has-inserted, Spot, still, pending}
use lib.Dec.{T as IsT}

-- pairs that keep their keys keep their order
module _ {X Y : Type 0} (f : List Bool × X → List Bool × Y) (keeps : (e : List Bool × X) → (f e).0 ≡ e.0) where
  below_mapped : (k : List Bool) (es : List (List Bool × X)) → below_all listing_cmp k (map f es) ≡ below_all listing_cmp k es
  below_mapped k [] = refl
  below_mapped k (e ∷ es) = ap₂ (λ s b. is_lt (listing_cmp k s) && b) (keeps e) (below_mapped k es)

  pub sorted_mapped : (es : List (List Bool × X)) → is_sorted listing_cmp (map f es) ≡ is_sorted listing_cmp es
  sorted_mapped [] = refl
  sorted_mapped (e ∷ es) = ap₂ (λ a b. a && b) (ap (λ k. below_all listing_cmp k (map f es)) (keeps e) ∙ below_mapped e.0 es) (sorted_mapped es)

module _ {T : Type 0} where
  -- a pair without its value
  abbrev pub bare : List Bool × T → List Bool × Unit {0}
  bare e = (e.0, tt)

  -- the strings of entries
  abbrev pub strings_of : Entries T → Nodes
  strings_of m = from_sorted (map bare (entries m))

  sorted_bare : (m : Entries T) → IsT (is_sorted listing_cmp (map bare (entries m)))
  sorted_bare m = subst (λ b. IsT b) (sym (sorted_mapped bare (λ e. refl) (entries m))) (entries_sorted m)

  pub has-strings_of : (m : Entries T) (q : List Bool) → has_node (strings_of m) q ≡ contains_key m q
  has-strings_of m q =
      contains_key-keys (strings_of m) q
      ∙ ap (λ es. list_any (eq_by_cmp listing_cmp q) (map (λ e. e.0) es)) (entries-from_sorted listing_cmp (map bare (entries m)) (sorted_bare m))
      ∙ ap (list_any (eq_by_cmp listing_cmp q)) (map-map (λ e. e.0) bare (entries m)) ∙ sym (contains_key-keys m q)

  filter_bare : (p : List Bool → Bool) (es : List (List Bool × T)) → filter (λ e. p e.0) (map bare es) ≡ map bare (filter (λ e. p e.0) es)
  filter_bare p [] = refl
  filter_bare p (e ∷ es) = at (p e.0) (filter_bare p es)
    where
      at : (b : Bool) → filter (λ e. p e.0) (map bare es) ≡ map bare (filter (λ e. p e.0) es) →
          cond b (bare e ∷ filter (λ e. p e.0) (map bare es)) (filter (λ e. p e.0) (map bare es)) ≡ map bare (cond b (e ∷ filter (λ e. p e.0) es) (filter (λ e. p e.0) es))
      at true rest = ap (λ ks. bare e ∷ ks) rest
      at false rest = rest

  pair_bare : (s : List Bool) (o : Option (Unit {0})) (x : Option T) → is_some o ≡ is_some x → pair_of s o ≡ map bare (pair_of s x)
  pair_bare s None None h = refl
  pair_bare s None (Some x) h = absurd (false≢true h)
  pair_bare s (Some u) None h = absurd (false≢true (sym h))
  pair_bare s (Some u) (Some x) h = refl

  -- if a set is that of the strings of entries
  module _ (m : Entries T) (keys : Nodes) (same : (q : List Bool) → has_node keys q ≡ contains_key m q) where
    keys_listed : entries keys ≡ map bare (entries m)
    keys_listed =
        ap entries (same_members keys (strings_of m) (λ q. same q ∙ sym (has-strings_of m q)))
        ∙ entries-from_sorted listing_cmp (map bare (entries m)) (sorted_bare m)

    place_bare : (s t : List Bool) → listing_at_place keys s t ≡ map bare (listing_at_place m s t)
    place_bare s t = at (nat_lt (length t) 5)
      where
        at : (b : Bool) → cond b (pair_of (s ++ t) (get keys (s ++ t))) (filter (λ e. begins (s ++ t) e.0) (entries keys))
            ≡ map bare (cond b (pair_of (s ++ t) (get m (s ++ t))) (filter (λ e. begins (s ++ t) e.0) (entries m)))
        at true = pair_bare (s ++ t) (get keys (s ++ t)) (get m (s ++ t)) (same (s ++ t))
        at false = ap (filter (λ e. begins (s ++ t) e.0)) keys_listed ∙ filter_bare (begins (s ++ t)) (entries m)

    places_bare : (s : List Bool) (ts : List (List Bool)) → listing_at_places keys s ts ≡ map bare (listing_at_places m s ts)
    places_bare s [] = refl
    places_bare s (t ∷ ts) =
        ap₂ (λ xs ys. xs ++ ys) (place_bare s t) (places_bare s ts) ∙ sym (map-append bare (listing_at_place m s t) (listing_at_places m s ts))

    -- the strings to come are those of the entries
    pub pending_bare : (search_path : List Bool) (ps : List Spot) → pending keys search_path ps ≡ map bare (pending m search_path ps)
    pending_bare search_path [] = refl
    pending_bare search_path (p ∷ ps) =
        ap₂ (λ xs ys. xs ++ ys) (pending_bare search_path ps) (places_bare (take p.depth search_path) (to_come p.places))
        ∙ sym (map-append bare (pending m search_path ps) (still m search_path p))

-- writing a value that is stored leaves the keys still to come
module _ {X : Type 0} (m : Entries X) (k : List Bool) (v : X) (stored : contains_key m k ≡ true) where
  stored_again : (q : List Bool) → contains_key m q ≡ contains_key (with_entry m k v) q
  stored_again q = sym (has-inserted m k v q ∙ at (same_string q k) refl)
    where
      at : (b : Bool) → same_string q k ≡ b → (b || contains_key m q) ≡ contains_key m q
      at true is = sym (ap (contains_key m) (same_string-is q k is) ∙ stored)
      at false is = refl

  pub pending_again : (search_path : List Bool) (ps : List Spot) →
      map (λ e. e.0) (pending (with_entry m k v) search_path ps) ≡ map (λ e. e.0) (pending m search_path ps)
  pending_again search_path ps =
      sym (map-map (λ e. e.0) bare (pending (with_entry m k v) search_path ps))
      ∙ ap (map (λ e. e.0)) (sym (pending_bare (with_entry m k v) (strings_of m) (λ q. has-strings_of m q ∙ stored_again q) search_path ps)
      ∙ pending_bare m (strings_of m) (has-strings_of m) search_path ps)
      ∙ map-map (λ e. e.0) bare (pending m search_path ps)
