-- What an operation on two sets keeps, and how two sets compare: for each family. This project's own.
use Rattle.std.specs.Prelude.{◌≡◌, ℕ, ◌^◌, ◌<◌, ◌&&◌, ◌||◌, Bool, true, false, not, List}
use Rattle.address_ranges.specs.Breaks.{has_address}

-- a set has just the addresses that an operation keeps, by whether each of two sets has them
abbrev pub Keeps : (Bool → Bool → Bool) → List ℕ → List ℕ → List ℕ → Type 0
Keeps keeps left right out = (n : ℕ) → has_address out n ≡ keeps (has_address left n) (has_address right n)

-- exactly one of the two is true
abbrev pub keeps_one : Bool → Bool → Bool
keeps_one a b = (a && not b) || (not a && b)

-- the right set has each address of the left one
abbrev pub IsSubset : ℕ → List ℕ → List ℕ → Type 0
IsSubset width left right = (n : ℕ) → n < 2 ^ width → has_address left n ≡ true → has_address right n ≡ true

-- no address is in both sets
abbrev pub IsDisjoint : ℕ → List ℕ → List ℕ → Type 0
IsDisjoint width left right = (n : ℕ) → n < 2 ^ width → has_address left n ≡ true → has_address right n ≡ false
