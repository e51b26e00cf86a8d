-- A loop that inserts the entries of one map into another: its invariant and its result. This project's own.
use Rattle.std.specs.Prelude.{◌≡◌, ℕ, Bool, List, ◌∷◌, All}
use Rattle.std.specs.Option.{option_or}
use Rattle.std.specs.FinMap.{get}
use Rattle.prefix_trie_bits.specs.Model.Entries.{Entries, no_entries, with_entry}
use Rattle.prefix_trie_bits.specs.Calls.Entries.{AreWithin, put_all}
use Rattle.prefix_trie_bits.specs.Model.Selections.{listing, prefix_pairs}

module _ {P T : Type 0} (path : P → List Bool) (IsFitting : P → Type 0) where
  -- the invariant: each prefix still to come fits, and inserting all of them gives the whole map
  abbrev pub Leads : List (P × T) → Entries T → Entries T → Type 0
  Leads left now whole = All (λ e. IsFitting e.0) left × (put_all path left now ≡ whole)

-- no key is longer than the width, as in every map
pub record PutLaws {P : Type 0} (T : Type 0) (width : ℕ) (path : P → List Bool) (IsFitting : P → Type 0) (back : List Bool → P) : Type 0 where
  -- a walk over a whole map leads to the map with all its entries inserted
  pub starts : (from to : Entries T) → AreWithin width from → (walk : List (P × T)) → walk ≡ prefix_pairs back (listing from)
      → Leads path IsFitting walk to (put_all path (prefix_pairs back (listing from)) to)
  -- from an empty map, a walk over a whole map leads to a map with the same entries
  pub starts_empty : (from to : Entries T) → AreWithin width from → to ≡ no_entries → (walk : List (P × T)) → walk ≡ prefix_pairs back (listing from) → Leads path IsFitting walk to from
  -- if a walk leads to a map, its next prefix fits, and after it is inserted, the rest leads to the same map
  pub next_fits : (now whole : Entries T) (item : P × T) (rest left : List (P × T)) → left ≡ item ∷ rest → Leads path IsFitting left now whole → IsFitting item.0
  pub goes_on : (now next whole : Entries T) (item : P × T) (rest left : List (P × T)) → left ≡ item ∷ rest → next ≡ with_entry now (path item.0) item.1
      → Leads path IsFitting left now whole → Leads path IsFitting rest next whole
  -- each key has its value from the map that was inserted, or the value that it had before
  pub put : (from to : Entries T) → AreWithin width from → (s : List Bool) → get (put_all path (prefix_pairs back (listing from)) to) s ≡ option_or (get from s) (get to s)
  -- inserting the prefixes of a listing is inserting the strings of that listing
  pub listed : (from to : Entries T) → AreWithin width from → put_all path (prefix_pairs back (listing from)) to ≡ put_all (λ s. s) (listing from) to
  -- inserting a map into an empty one gives that map
  pub copied : (from : Entries T) → AreWithin width from → put_all path (prefix_pairs back (listing from)) no_entries ≡ from
