-- What is before the part or run has no address after `at`.
use Rattle.std.proofs.Common.{◌≤◌, ◌-◌, length}
use Rattle.route_tables.proofs.matching.addresses.next_address.Given as goal

abbrev pub invariant-loop-found : goal.invariant-loop-found
invariant-loop-found l = (l.at ≤ l.part.start) × (l.part.start ≤ l.part.end) × (l.part.end ≤ length l.line)

abbrev pub decreases-loop-found : goal.decreases-loop-found
decreases-loop-found l = length l.line - l.part.end
