-- The parts before `start` are no addresses.
use Rattle.std.proofs.Common.{◌≤◌, ◌-◌}
use Rattle.route_tables.proofs.matching.addresses.first_ipv4.Given as goal

abbrev pub invariant-loop-start : goal.invariant-loop-start
invariant-loop-start l = (l.run.start ≤ l.start) × (l.start ≤ l.run.end)

abbrev pub decreases-loop-start : goal.decreases-loop-start
decreases-loop-start l = l.run.end - l.start
