-- The invariant: the builder has the addresses of the networks so far.
use Rattle.std.proofs.Common.{◌≡◌, ℕ, ◌^◌, ◌<◌, ◌||◌}
use Rattle.std.specs.List.{list_any}
use Rattle.address_ranges.specs.Builders.{gathered, is_in_network}
use Rattle.address_ranges.proofs.set.collecting.add_networks.Given as goal

abbrev pub invariant-loop-network : goal.invariant-loop-network
invariant-loop-network g l = (n : ℕ) → n < 2 ^ g.P.R.Key.bit_width → gathered l.builder n ≡ (gathered l.fn.builder n || list_any (is_in_network g.P.R.Key.bit_width g.P.Prefix.path n) l.yielded)
