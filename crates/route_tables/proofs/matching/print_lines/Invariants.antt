-- The measure of `print_lines`: the text that is left gets shorter.
use Rattle.std.proofs.Common.{length}
use Rattle.route_tables.proofs.matching.print_lines.Given as goal

abbrev pub decreases-loop-rest : goal.decreases-loop-rest
decreases-loop-rest g l = length l.rest
