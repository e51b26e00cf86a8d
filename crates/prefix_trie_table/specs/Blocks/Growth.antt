-- How the capacity of an array grows. An array of slots is kept in one vector, or in one for each part of a slot. This
-- project's own.
use Rattle.std.specs.Prelude.{◌≡◌, ℕ, ◌+◌, ◌*◌, ◌/◌, ◌≤◌, ◌⊎◌, All, List, max}
use Rattle.std.specs.List.{AllZip}

-- the capacity of a vector changes from `before` to `after` when `needed` slots are reserved, in one step or in several
-- The capacity is unchanged if the slots fit. If it grows, it grows by at least half, so appending n slots one by one
-- copies O(n) of them. It grows to at most twice the needed slots plus 4.
pub record Reserves (before needed after : ℕ) : Type 0 where
  pub kept : needed ≤ before → after ≡ before
  pub least : (after ≡ before) ⊎ (before + before / 2 ≤ after)
  pub most : after ≤ max before (2 * needed + 4)

-- the same for each vector that the slots are kept in
abbrev pub EachReserves : List ℕ → ℕ → List ℕ → Type 0
EachReserves before needed after = AllZip (λ b a. Reserves b needed a) before after

-- each vector has capacity for n slots
abbrev pub EachHolds : ℕ → List ℕ → Type 0
EachHolds n capacities = All (λ c. n ≤ c) capacities

-- no vector has capacity for more than n slots
abbrev pub NoneExceeds : List ℕ → ℕ → Type 0
NoneExceeds capacities n = All (λ c. c ≤ n) capacities

-- the capacity of no vector grows
abbrev pub NoneGrows : List ℕ → List ℕ → Type 0
NoneGrows before after = AllZip (λ b a. a ≤ b) before after
