-- The invariant: the builder has the addresses of the ranges so far.
use Rattle.std.proofs.Common.{◌≡◌, ℕ, ◌^◌, ◌<◌, ◌||◌}
use Rattle.std.specs.List.{list_any}
use Rattle.address_ranges.specs.Builders.{gathered, is_in_range}
use Rattle.address_ranges.proofs.set.collecting.add_ranges.Given as goal

abbrev pub invariant-loop-first : goal.invariant-loop-first
invariant-loop-first g l = (n : ℕ) → n < 2 ^ g.P.R.Key.bit_width → gathered l.builder n ≡ (gathered l.fn.builder n || list_any (is_in_range g.P.R.Key.bits n) l.yielded)
