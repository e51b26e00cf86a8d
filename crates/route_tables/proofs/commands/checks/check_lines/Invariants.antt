-- The invariant of `check_lines`: the lines so far are checked, and what the list says of them is printed.
use Rattle.std.proofs.Common.{length}
use Rattle.route_tables.specs.Checks.{IsAllowedLine, IsGoodLine, asking_of}
use Rattle.route_tables.specs.Lines.{lines}
use Rattle.route_tables.specs.Printed.{decision_text}
use Rattle.route_tables.specs.Questions.{IsQuestionLine}
use Rattle.route_tables.proofs.Answering.{AnswersSoFar}
use Rattle.route_tables.proofs.CheckSteps.{ChecksSoFar}
use Rattle.route_tables.proofs.commands.checks.check_lines.Given as goal

abbrev pub invariant-loop-rest : goal.invariant-loop-rest
invariant-loop-rest g l =
    ChecksSoFar (IsGoodLine l.checking) (IsAllowedLine l.checking l.list) l.checking (lines l.text) (lines l.rest) l.fn.checked l.checked
    × AnswersSoFar (IsQuestionLine (asking_of l.checking)) (decision_text l.checking.precedence l.list) (lines l.text) (lines l.rest) l.fn.out l.out

abbrev pub decreases-loop-rest : goal.decreases-loop-rest
decreases-loop-rest g l = length l.rest
