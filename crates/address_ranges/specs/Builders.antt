-- Addresses that are gathered: those of a set, and those of ranges that are kept for later. This project's own.
use Rattle.std.specs.Prelude.{ℕ, ◌<◌, ◌||◌, Bool, List, map, All, Option}
use Rattle.std.specs.List.{list_any}
use Rattle.prefix_trie_bits.specs.Model.Bits.{number}
use Rattle.address_ranges.specs.Appends.{end_of, is_inside}
use Rattle.address_ranges.specs.Breaks.{has_address}
use Rattle.address_ranges.specs.Networks.{first_address, is_between, past_address}

-- whether an address is in one of the ranges, each given by its first address and the one after its last
abbrev pub is_in_one : List (ℕ × ℕ) → ℕ → Bool
is_in_one ranges n = list_any (λ r. is_inside r.0 r.1 n) ranges

-- no range is empty
abbrev pub AreSome : List (ℕ × ℕ) → Type 0
AreSome ranges = All (λ r. r.0 < r.1) ranges

-- the ends of a range as numbers
abbrev pub range_as_numbers : {K : Type 0} → ℕ → (K → List Bool) → K × Option K → ℕ × ℕ
range_as_numbers width bits r = (number (bits r.0), end_of width bits r.1)

abbrev pub ranges_as_numbers : {K : Type 0} → ℕ → (K → List Bool) → List (K × Option K) → List (ℕ × ℕ)
ranges_as_numbers width bits ranges = map (range_as_numbers width bits) ranges

-- whether an address is gathered: by the set, or by one of the ranges
abbrev pub gathered : List ℕ × List (ℕ × ℕ) → ℕ → Bool
gathered builder n = has_address builder.0 n || is_in_one builder.1 n

-- whether an address is in a range, which is given by its first and its last address
abbrev pub is_in_range : {K : Type 0} → (K → List Bool) → ℕ → K × K → Bool
is_in_range bits n r = is_between (number (bits r.0)) (number (bits r.1)) n

-- whether an address is in a network
abbrev pub is_in_network : {P : Type 0} → ℕ → (P → List Bool) → ℕ → P → Bool
is_in_network width path n network = is_inside (first_address width (path network)) (past_address width (path network)) n
