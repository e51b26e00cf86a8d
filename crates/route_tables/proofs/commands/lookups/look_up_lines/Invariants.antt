-- The invariant of `look_up_lines`: what the table has for the lines so far is printed, and each turn takes lines off.
use Rattle.std.proofs.Common.{length}
use Rattle.prefix_trie_joint.specs.Joined.{entries_of}
use Rattle.route_tables.specs.Lines.{lines}
use Rattle.route_tables.specs.Printed.{lookup_text}
use Rattle.route_tables.specs.Questions.{IsQuestionLine}
use Rattle.route_tables.proofs.Answering.{AnswersSoFar}
use Rattle.route_tables.proofs.commands.lookups.look_up_lines.Given as goal

abbrev pub invariant-loop-rest : goal.invariant-loop-rest
invariant-loop-rest g l = AnswersSoFar (IsQuestionLine l.looking.asking) (lookup_text l.looking.relation (entries_of l.table)) (lines l.text) (lines l.rest) l.fn.out l.out

abbrev pub decreases-loop-rest : goal.decreases-loop-rest
decreases-loop-rest g l = length l.rest
