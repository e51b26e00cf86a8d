-- A map with its values renamed: its listing, its size, and its values at keys and at questions.
use Rattle.std.proofs.Common.{◌≡◌, Bool, true, false, cond, ◌&&◌, List, [], ◌∷◌, length, filter, Option, Some, refl, sym, ap, ◌∙◌, map, T as IsT}
use Rattle.std.proofs.lemmas.List.{length-map}
use Rattle.std.specs.Ordering.{eq_by_cmp}
use Rattle.std.specs.Option.{option_map}
use Rattle.std.specs.FinMap.{entries_sorted, entries-from_sorted, from_sorted, get, get-entries, is_sorted, find, len, len-entries, same_map}
use Rattle.std.specs.FinMap.Entries.{below_all}
use Rattle.prefix_trie.specs.Terms.{begins, covers, last_item, listing, listing_cmp, Entries}
use Rattle.prefix_trie_bits.specs.Order.{listing_same, listing_total}
use Rattle.prefix_trie_ops.specs.Values.{value_of}
use Rattle.route_tables.proofs.Lists.{filter_of_map}

all : (a b : Bool) → IsT a → IsT b → IsT (a && b)
all true b p q = q
all false b p q = p

first : (a b : Bool) → IsT (a && b) → IsT a
first true b p = tt
first false b p = p

second : (a b : Bool) → IsT (a && b) → IsT b
second true b p = p
second false b p = absurd p

-- two maps with the same value at each key are the same
pub same_maps : {T : Type 0} (m n : Entries T) → ((s : List Bool) → get m s ≡ get n s) → m ≡ n
same_maps m n each = same_map listing_total listing_same m n each

module _ {X Y : Type 0} (f : X → Y) where
  abbrev pub renamed : List (List Bool × X) → List (List Bool × Y)
  renamed es = map (λ e. (e.0, f e.1)) es

  below : (k : List Bool) (es : List (List Bool × X)) → IsT (below_all listing_cmp k es) → IsT (below_all listing_cmp k (renamed es))
  below k [] h = tt
  below k (e ∷ es) h = all _ _ (first _ _ h) (below k es (second _ _ h))

  sorted : (es : List (List Bool × X)) → IsT (is_sorted listing_cmp es) → IsT (is_sorted listing_cmp (renamed es))
  sorted [] h = tt
  sorted (e ∷ es) h = all _ _ (below e.0 es (first _ _ h)) (sorted es (second _ _ h))

  -- the map with each value renamed
  pub mapped : Entries X → Entries Y
  mapped m = from_sorted (renamed (listing m))

  pub listing_mapped : (m : Entries X) → listing (mapped m) ≡ renamed (listing m)
  unfolding mapped
  listing_mapped m = entries-from_sorted listing_cmp _ (sorted (listing m) (entries_sorted m))

  pub len_mapped : (m : Entries X) → len (mapped m) ≡ len m
  len_mapped m = len-entries (mapped m) ∙ ap length (listing_mapped m) ∙ length-map (listing m) (λ e. (e.0, f e.1)) ∙ sym (len-entries m)

  find_renamed : (s : List Bool) (es : List (List Bool × X)) → find listing_cmp s (renamed es) ≡ option_map f (find listing_cmp s es)
  find_renamed s [] = refl
  find_renamed s (e ∷ es) = more (eq_by_cmp listing_cmp s e.0) _ _ (find_renamed s es)
    where
      more : (b : Bool) (o : Option Y) (p : Option X) → o ≡ option_map f p → cond b (Some (f e.1)) o ≡ option_map f (cond b (Some e.1) p)
      more true o p h = refl
      more false o p h = h

  pub get_mapped : (m : Entries X) (s : List Bool) → get (mapped m) s ≡ option_map f (get m s)
  get_mapped m s = get-entries (mapped m) s ∙ ap (find listing_cmp s) (listing_mapped m) ∙ find_renamed s (listing m) ∙ ap (option_map f) (sym (get-entries m s))

  last_renamed : (es : List (List Bool × X)) → option_map (λ e. e.1) (last_item (renamed es)) ≡ option_map f (option_map (λ e. e.1) (last_item es))
  last_renamed [] = refl
  last_renamed (e ∷ []) = refl
  last_renamed (e ∷ d ∷ es) = last_renamed (d ∷ es)

  -- each question has the renamed value
  pub value_mapped : (m : Entries X) (q : List Bool) → value_of (mapped m) q ≡ option_map f (value_of m q)
  value_mapped m q =
      ap (λ es. option_map (λ e. e.1) (last_item es)) (ap (filter (λ e. begins e.0 q)) (listing_mapped m) ∙ filter_of_map (λ e. (e.0, f e.1)) (λ e. begins e.0 q) (listing m))
      ∙ last_renamed (covers m q)
