-- There were at most five colons.
use Rattle.std.proofs.Common.{◌≤◌}
use Rattle.route_tables.proofs.matching.addresses.can_be_ipv6.Given as goal

abbrev pub invariant-loop-byte : goal.invariant-loop-byte
invariant-loop-byte l = l.colons ≤ 5
