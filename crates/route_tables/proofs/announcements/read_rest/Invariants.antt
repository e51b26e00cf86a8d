-- The invariant of `read_rest`: what is left ends the path. It takes a field off at each turn.
use Rattle.std.proofs.Common.{length}
use Rattle.route_tables.specs.Lines.{fields}
use Rattle.route_tables.proofs.RouteLines.{PathSoFar}
use Rattle.route_tables.proofs.announcements.read_rest.Given as goal

abbrev pub invariant-loop-field : goal.invariant-loop-field
invariant-loop-field l = PathSoFar l.fn.hop (fields l.fn.path) (fields l.rest) l.last

abbrev pub decreases-loop-field : goal.decreases-loop-field
decreases-loop-field l = length (fields l.rest)
