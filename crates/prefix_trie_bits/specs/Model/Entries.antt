-- The entries of a map, and how calls change them.
-- From the Rust crate's documentation of `PrefixMap`. A key is the path of a prefix, so two
-- prefixes with the same path are one key.
use Rattle.std.specs.Prelude.{ℕ, Bool, not, List, length, nat_le}
use Rattle.std.specs.FinMap.{FinMap, empty, insert, remove, retain_keys}
use Rattle.prefix_trie_bits.specs.Model.Bits.{begins}
use Rattle.prefix_trie_bits.specs.Model.Order.{listing_cmp}

-- a finite map from bit strings to values, in listing order
abbrev pub Entries : Type 0 → Type 0
Entries T = FinMap listing_cmp T

module _ {T : Type 0} where
  -- no entries
  abbrev pub no_entries : Entries T
  no_entries = empty

  -- the entries with the value of s set to v
  abbrev pub with_entry : Entries T → List Bool → T → Entries T
  with_entry m s v = insert m s v

  -- the entries without s
  abbrev pub without_entry : Entries T → List Bool → Entries T
  without_entry m s = remove m s

  -- the entries without the keys that begin with q
  abbrev pub without_below : Entries T → List Bool → Entries T
  without_below m q = retain_keys m (λ s. not (begins q s))

  -- the entries whose keys have at least n bits
  abbrev pub part_at_least : Entries T → ℕ → Entries T
  part_at_least m n = retain_keys m (λ s. nat_le n (length s))
