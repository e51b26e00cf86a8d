-- The invariant of `validate_lines`: the lines so far are validated.
use Rattle.std.proofs.Common.{length}
use Rattle.route_tables.specs.Lines.{lines}
use Rattle.route_tables.proofs.ValidationSteps.{ValidatesSoFar}
use Rattle.route_tables.proofs.commands.validations.validate_lines.Given as goal

abbrev pub invariant-loop-rest : goal.invariant-loop-rest
invariant-loop-rest g l = ValidatesSoFar l.validating l.vrps (lines l.text) (lines l.rest) l.fn.validated l.validated l.fn.out l.out

abbrev pub decreases-loop-rest : goal.decreases-loop-rest
decreases-loop-rest g l = length l.rest
