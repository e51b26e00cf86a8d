-- The prefixes that walks give fit, and no walk gives more items than the map has: for `listed_laws`.
use Rattle.prefix_trie_map.proofs.Prelude.{◌≡◌, ℕ, Bool, true, List, [], ◌∷◌, is_some, ap, All, Contains, contains_key, All-head, All-tail, All-contains_itself, All-weaker, All-map, All-filter, begins, PrefixLaws, fits_back, path_back, CallableOnEachEntry, Entries, AreWithin, covers, listing, prefix_pairs, listing_laws, ListedLaws, ◌≤◌, false, cond, length, filter, arith, length-map, length-filter, count_by-le-length, len, len-entries, listing_from, listing_after}

module _ {T : Type 0} where
  -- what holds of each stored key holds of each pair of the listing
  pub each_listed : (F : List Bool → Type 0) (m : Entries T) → ((k : List Bool) → contains_key m k ≡ true → F k) → All (λ e. F e.0) (listing m)
  each_listed F m holds = All-weaker (λ e. Contains (listing m) e) (λ e. F e.0) (λ e has. holds e.0 (ap is_some (((listing_laws T).has_each m e.0 e.1).1 has))) (listing m) (All-contains_itself (listing m))

module _ {K P : Type 0} {w : ℕ} {IsKey : K → Type 0} {bits : K → List Bool} {key_of : List Bool → K} {repr_of : P → K} {len_of : P → ℕ} {path : P → List Bool} {IsFitting : P → Type 0} {from_parts : K → ℕ → P} {back : List Bool → P} (laws : PrefixLaws w IsKey bits key_of repr_of len_of path IsFitting from_parts back) {T : Type 0} (m : Entries T) (within : AreWithin w m) where
  -- each prefix of the listing fits
  pub listed_fit : All (λ e. IsFitting e.0) (prefix_pairs back (listing m))
  listed_fit = All-map (λ e. IsFitting e.0) (λ e. (back e.0, e.1)) (listing m) (each_listed (λ k. IsFitting (back k)) m (λ k has. fits_back laws k (within k has)))

  -- each cover of a bit string fits
  pub covers_fit : (q : List Bool) → All (λ e. IsFitting e.0) (prefix_pairs back (covers m q))
  covers_fit q =
      All-map (λ e. IsFitting e.0) (λ e. (back e.0, e.1)) (covers m q)
      (All-filter (λ e. begins e.0 q) (λ e. IsFitting (back e.0)) (listing m) (each_listed (λ k. IsFitting (back k)) m (λ k has. fits_back laws k (within k has))))

  -- the path of each prefix of the listing is its key
  pub listed_paths : All (λ e. path (back e.0) ≡ e.0) (listing m)
  listed_paths = each_listed (λ k. path (back k) ≡ k) m (λ k has. path_back laws k (within k has))

module _ {K P : Type 0} {w : ℕ} {IsKey : K → Type 0} {bits : K → List Bool} {key_of : List Bool → K} {repr_of : P → K} {len_of : P → ℕ} {path : P → List Bool} {IsFitting : P → Type 0} {from_parts : K → ℕ → P} {back : List Bool → P} (laws : PrefixLaws w IsKey bits key_of repr_of len_of path IsFitting from_parts back) where
  pub listed_laws : (T : Type 0) → ListedLaws T w path IsFitting back
  listed_laws T = record {
    key_fits = λ m within k has. fits_back laws k (within k has);
    key_is = λ m within k has. path_back laws k (within k has);
    listed_fit = λ m within. listed_fit laws m within;
    covers_fit = λ m within q. covers_fit laws m within q;
  }

-- a test that may be called on each stored key, in any state, may be called on each entry in order
module _ {F T : Type 0} (may_return : F → List Bool → T → Bool → F → Type 0) (accepts : F → List Bool → T → Type 0) where
  may_ask_each : (f : F) (es : List (List Bool × T)) → All (λ e. (f' : F) → accepts f' e.0 e.1) es → CallableOnEachEntry may_return accepts f es
  may_ask_each f [] all = tt
  may_ask_each f (e ∷ es) all =
      (All-head (λ e. (f' : F) → accepts f' e.0 e.1) e es all f, λ b f' called. may_ask_each f' es (All-tail (λ e. (f' : F) → accepts f' e.0 e.1) e es all))

  pub may_ask_stored : (f : F) (m : Entries T) → ((f' : F) (k : List Bool) (v : T) → contains_key m k ≡ true → accepts f' k v) → CallableOnEachEntry may_return accepts f (listing m)
  may_ask_stored f m always =
      may_ask_each f (listing m)
      (All-weaker (λ e. (v : T) (f' : F) → accepts f' e.0 v) (λ e. (f' : F) → accepts f' e.0 e.1) (λ e h. h e.1) (listing m)
      (each_listed (λ k. (v : T) (f' : F) → accepts f' k v) m (λ k has v f'. always f' k v has)))

module _ {P T : Type 0} (back : List Bool → P) (m : Entries T) where
  pub few_shown : (p : List Bool × T → Bool) → length (prefix_pairs back (filter p (listing m))) ≤ len m
  few_shown p = omega (arith, length-map {B = P × T} (filter p (listing m)) (λ e. (back e.0, e.1)), length-filter p (listing m), count_by-le-length p (listing m), len-entries m)

  pub few_from : (inclusive : Bool) (q : List Bool) → length (prefix_pairs back (cond inclusive (listing_from m q) (listing_after m q))) ≤ len m
  few_from true q = few_shown _
  few_from false q = few_shown _
