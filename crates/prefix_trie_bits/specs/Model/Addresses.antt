-- The number of addresses that a map covers.
-- From the Rust crate's documentation of `address_count`.
use Rattle.std.specs.Prelude.{ℕ, zero, suc, ◌^◌, ◌==◌, cond, Bool, true, false, List, [], ◌∷◌, ◌++◌, map, length, filter, Option, Some, None}
use Rattle.std.specs.List.{list_any}
use Rattle.std.specs.FinMap.{keys}
use Rattle.prefix_trie_bits.specs.Model.Bits.{begins}
use Rattle.prefix_trie_bits.specs.Model.Entries.{Entries}

-- all bit strings of a length, in listing order
unfoldable pub full_strings : ℕ → List (List Bool)
full_strings zero = [] ∷ []
full_strings (suc w) = map (λ s. false ∷ s) (full_strings w) ++ map (λ s. true ∷ s) (full_strings w)

-- the number of strings of length `width` that begin with at least one string of the list
unfoldable pub covered : ℕ → List (List Bool) → ℕ
covered width ks = length (filter (λ s. list_any (λ k. begins k s) ks) (full_strings width))

module _ {T : Type 0} where
  -- the number of addresses that are covered: strings of length `width` that begin with at least
  -- one key
  abbrev pub addresses : ℕ → Entries T → ℕ
  addresses width m = covered width (keys m)

  -- the result of `address_count`: the number of covered addresses, or None if all are covered
  abbrev pub address_total : ℕ → Entries T → Option ℕ
  address_total width m = cond (addresses width m == 2 ^ width) None (Some (addresses width m))
