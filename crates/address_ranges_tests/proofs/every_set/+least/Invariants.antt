-- The measure: the bits that are left after the path of the network.
use Rattle.std.proofs.Common.{◌-◌}
use Rattle.address_ranges_tests.proofs.every_set.+least.Given as goal

abbrev pub decreases-least : goal.decreases-least
decreases-least l = 3 - l.len
