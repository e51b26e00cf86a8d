-- The weight is not enough yet.
use Rattle.std.proofs.Common.{◌<◌}
use Rattle.route_tables.proofs.matching.addresses.next_run.Given as goal

abbrev pub invariant-loop-at : goal.invariant-loop-at
invariant-loop-at l = l.weight < 6
