-- The invariant of `find_bad_lines`: the bad lines so far are found, and the line number does not overflow.
use Rattle.std.proofs.Common.{◌+◌, ◌≤◌, length}
use Rattle.route_tables.specs.Lines.{lines, table_lines}
use Rattle.route_tables.proofs.Reading.FoundLines.{FindsSoFar}
use Rattle.route_tables.proofs.messages.bad_lines.find_bad_lines.Given as goal

abbrev pub invariant-loop-rest : goal.invariant-loop-rest
invariant-loop-rest l =
    record { few : l.number + length l.rest ≤ length l.text; finds : FindsSoFar l.reading (table_lines l.text) (lines l.rest) l.number l.found }

abbrev pub decreases-loop-rest : goal.decreases-loop-rest
decreases-loop-rest l = length l.rest
