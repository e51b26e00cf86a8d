-- How many addresses a map covers: for `address_laws`.
use Rattle.std.specs.Prelude.{◌≡◌, ℕ, ◌+◌, ◌-◌, ◌^◌, ◌≤◌, Bool, true, List, [], None, length}
use Rattle.std.specs.FinMap.{contains_key}
use Rattle.prefix_trie_bits.specs.Model.Bits.{begins}
use Rattle.prefix_trie_bits.specs.Model.Entries.{Entries, no_entries, without_below}
use Rattle.prefix_trie_bits.specs.Model.Addresses.{addresses, address_total}

pub record AddressLaws (T : Type 0) : Type 0 where
  -- no map covers more than all addresses
  pub at_most : (width : ℕ) (m : Entries T) → addresses width m ≤ 2 ^ width
  -- a map without entries covers none
  pub of_no_entries : (width : ℕ) → addresses width (no_entries {T = T}) ≡ 0
  -- a stored prefix of length 0 covers all addresses, and `address_count` then returns None
  pub of_root : (width : ℕ) (m : Entries T) → contains_key m [] ≡ true → address_total width m ≡ None
  -- a stored key that begins with no other one covers 2^(width - length) addresses, and the keys
  -- that do not begin with it cover others
  pub of_outermost : (width : ℕ) (m : Entries T) (k : List Bool) → length k ≤ width → contains_key m k ≡ true
      → ((s : List Bool) → contains_key m s ≡ true → begins s k ≡ true → s ≡ k)
      → addresses width m ≡ 2 ^ (width - length k) + addresses width (without_below m k)
