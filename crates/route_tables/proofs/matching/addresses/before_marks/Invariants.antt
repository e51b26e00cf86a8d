-- Only dots and colons follow.
use Rattle.std.proofs.Common.{◌≤◌, ◌-◌}
use Rattle.route_tables.specs.LineAddresses.{AreMarks}
use Rattle.route_tables.proofs.matching.addresses.before_marks.Given as goal

abbrev pub invariant-loop-stop : goal.invariant-loop-stop
invariant-loop-stop l = (l.run.start ≤ l.stop) × (l.stop ≤ l.run.end) × AreMarks l.line l.stop l.run.end

abbrev pub decreases-loop-stop : goal.decreases-loop-stop
decreases-loop-stop l = l.stop - l.run.start
