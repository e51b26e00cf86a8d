-- What follows from the definitions of sets, as statements for contracts.
use Rattle.std.specs.Prelude.{◌≡◌, ℕ, ◌^◌, ◌<◌, ◌≤◌, Bool, List, map, All}
use Rattle.std.specs.Iterator.{Drains}
use Rattle.std.specs.List.{list_any}
use Rattle.address_ranges.specs.Breaks.{AreBreaks, has_address}
use Rattle.address_ranges.specs.Networks.{AreAllOfLength, AreFewest, is_between}
use Rattle.address_ranges.specs.Ranges.{ranges_of}
use Rattle.address_ranges.specs.Walks.{ReturnsNetwork, ReturnsNetworkOfLength}

pub record BreakLaws : Type 0 where
  -- sets with the same addresses have the same breakpoints
  pub unique : (width : ℕ) (ms ns : List ℕ) → AreBreaks width ms → AreBreaks width ns → ((n : ℕ) → n < 2 ^ width → has_address ms n ≡ has_address ns n) → ms ≡ ns
  -- an address is in the set if it is in one of the ranges
  pub in_ranges : (width : ℕ) (ns : List ℕ) (n : ℕ) → AreBreaks width ns → n < 2 ^ width → has_address ns n ≡ list_any (λ r. is_between r.0 r.1 n) (ranges_of width ns)

pub record NetworkLaws {P : Type 0} (width : ℕ) (IsFitting : P → Type 0) (path : P → List Bool) : Type 0 where
  -- all networks of a walk are the fewest that cover the addresses that it began with
  pub fewest : (ns : List ℕ) (networks : List P) → Drains (ReturnsNetwork width IsFitting path) ns networks → All IsFitting networks × AreFewest width (has_address ns) (map path networks)
  -- all networks of a walk over the networks of a length are those that have only addresses that it began with
  pub of_length : (len : ℕ) (ns : List ℕ) (networks : List P) → len ≤ width → Drains (ReturnsNetworkOfLength width IsFitting path) (len, ns) networks → All IsFitting networks × AreAllOfLength width len (has_address ns) (map path networks)
