-- The invariant of `add_vrps`: the VRPs and the bad lines of the lines so far, and the line number does not overflow.
use Rattle.std.proofs.Common.{◌+◌, ◌≤◌, length}
use Rattle.route_tables.specs.Lines.{lines, table_lines}
use Rattle.route_tables.proofs.VrpSteps.{VrpsSoFar}
use Rattle.route_tables.proofs.vrp_lines.add_vrps.Given as goal

abbrev pub invariant-loop-rest : goal.invariant-loop-rest
invariant-loop-rest l =
    record { few : l.number + length l.rest ≤ length l.text; have : VrpsSoFar l.host_bits (table_lines l.text) (lines l.rest) l.number l.fn.vrps.items l.vrps.items l.bad.items }

abbrev pub decreases-loop-rest : goal.decreases-loop-rest
decreases-loop-rest l = length l.rest
