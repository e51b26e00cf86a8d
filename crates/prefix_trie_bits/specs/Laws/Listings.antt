-- The listing order, the listing, and what walks select of it: for `listing_laws`.
use Rattle.std.specs.Prelude.{◌≡◌, ◌≢◌, ◌↔◌, ◌⊎◌, ℕ, ◌-◌, ◌≤◌, Bool, true, not, List, ◌∷◌, ◌++◌, length, filter, Some, Contains, All}
use Rattle.std.proofs.Common.{Less, is_le}
use Rattle.std.specs.FinMap.{get, retain_keys}
use Rattle.std.specs.Ordering.{nat_cmp, ordering_then}
use Rattle.prefix_trie_bits.specs.Model.Bits.{begins, number, zeros}
use Rattle.prefix_trie_bits.specs.Model.Order.{listing_cmp}
use Rattle.prefix_trie_bits.specs.Order.{IsBefore}
use Rattle.prefix_trie_bits.specs.Model.Entries.{Entries, without_below}
use Rattle.prefix_trie_bits.specs.Calls.Entries.{part_below}
use Rattle.prefix_trie_bits.specs.Model.Selections.{listing, listing_from, listing_after, listing_below}
use Rattle.prefix_trie_bits.specs.Places.{strings}
use Rattle.prefix_trie_bits.specs.Calls.NodeListings.{listing_at_places}

module _ {T : Type 0} where
  -- a walk that has read `read` and then `last` has `rest` still to come
  pub record Resumes (m : Entries T) (last : List Bool × T) (rest : List (List Bool × T)) : Type 0 where
    -- a walk that starts after the last item read gives the rest
    pub behind : listing_after m last.0 ≡ rest
    -- a walk that starts at the last item read gives it once more
    pub at : listing_from m last.0 ≡ last ∷ rest

  -- the key of one entry is before that of another in listing order
  abbrev pub IsListedBefore : List Bool × T → List Bool × T → Type 0
  IsListedBefore d e = listing_cmp d.0 e.0 ≡ Less

pub record ListingLaws (T : Type 0) : Type 0 where
  -- the listing order in words
  pub order : (s t : List Bool) → (listing_cmp s t ≡ Less) ↔ IsBefore s t
  pub order_or_same : (s t : List Bool) → (is_le (listing_cmp s t) ≡ true) ↔ ((s ≡ t) ⊎ IsBefore s t)
  -- no two strings are each before the other, and none is before itself
  pub one_way : (s t : List Bool) → listing_cmp s t ≡ Less → listing_cmp t s ≡ Less → ⊥
  pub not_itself : (s t : List Bool) → listing_cmp s t ≡ Less → s ≢ t
  -- Strings of the same length are ordered as their numbers. Others are ordered as the numbers that they are when
  -- filled with zeros to one length; if those are equal, the shorter is first.
  pub by_numbers : (s t : List Bool) → length s ≡ length t → listing_cmp s t ≡ nat_cmp (number s) (number t)
  pub by_filled : (width : ℕ) (s t : List Bool) → length s ≤ width → length t ≤ width
      → listing_cmp s t ≡ ordering_then (listing_cmp (s ++ zeros (width - length s)) (t ++ zeros (width - length t))) (nat_cmp (length s) (length t))
  -- the listing has exactly the pairs of the map
  pub has_each : (m : Entries T) (s : List Bool) (v : T) → (get m s ≡ Some v) ↔ Contains (listing m) (s, v)
  -- each item is before the next, so each pair is listed once
  pub in_order : (m : Entries T) (front back : List (List Bool × T)) (d e : List Bool × T)
      → listing m ≡ front ++ d ∷ e ∷ back → IsBefore d.0 e.0
  -- all items before an item have smaller keys, and all after it greater ones
  pub all_before : (m : Entries T) (front back : List (List Bool × T)) (e : List Bool × T)
      → listing m ≡ front ++ e ∷ back → All (λ d. IsListedBefore d e) front
  pub all_after : (m : Entries T) (front back : List (List Bool × T)) (e : List Bool × T)
      → listing m ≡ front ++ e ∷ back → All (λ d. IsListedBefore e d) back
  -- keeping the entries whose keys pass a test does not change their order in the listing
  pub retained : (m : Entries T) (test : List Bool → Bool) → listing (retain_keys m test) ≡ filter (λ e. test e.0) (listing m)
  -- a walk can be resumed after the last item read
  pub resumes : (m : Entries T) (read : List (List Bool × T)) (last : List Bool × T) (rest : List (List Bool × T))
      → listing m ≡ read ++ last ∷ rest → Resumes m last rest
  -- `remove_children` removes exactly what `children` lists, and returns it
  pub removed : (m : Entries T) (q : List Bool) → listing (without_below m q) ≡ filter (λ e. not (begins q e.0)) (listing m)
  pub split_off : (m : Entries T) (q : List Bool) → listing (part_below m q) ≡ listing_below m q
  -- the pairs under a string are those at the places of a node there, in the order of the places
  pub by_places : (m : Entries T) (s : List Bool) → listing_below m s ≡ listing_at_places m s (strings 5)
