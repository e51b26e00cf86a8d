-- The listing of a map, and the parts of it that walks give. Each part is a filter of the listing,
-- so it keeps the order.
-- From the Rust crate's documentation of `iter`, `iter_from`, `children` and `cover`.
use Rattle.std.specs.Prelude.{Bool, List, map, filter}
use Rattle.std.proofs.Common.{is_lt, is_le}
use Rattle.std.specs.FinMap.{entries}
use Rattle.prefix_trie_bits.specs.Model.Bits.{begins}
use Rattle.prefix_trie_bits.specs.Model.Order.{listing_cmp}
use Rattle.prefix_trie_bits.specs.Model.Entries.{Entries}

module _ {T : Type 0} where
  -- all entries in listing order
  abbrev pub listing : Entries T → List (List Bool × T)
  listing m = entries m

  -- the entries whose keys are q or come after it
  abbrev pub listing_from : Entries T → List Bool → List (List Bool × T)
  listing_from m q = filter (λ e. is_le (listing_cmp q e.0)) (listing m)

  -- the entries whose keys come after q, including longer keys that begin with q
  abbrev pub listing_after : Entries T → List Bool → List (List Bool × T)
  listing_after m q = filter (λ e. is_lt (listing_cmp q e.0)) (listing m)

  -- the entries whose keys begin with q
  abbrev pub listing_below : Entries T → List Bool → List (List Bool × T)
  listing_below m q = filter (λ e. begins q e.0) (listing m)

  -- entries with the prefixes of their keys
  abbrev pub prefix_pairs : {P : Type 0} → (List Bool → P) → List (List Bool × T) → List (P × T)
  prefix_pairs back es = map (λ e. (back e.0, e.1)) es
