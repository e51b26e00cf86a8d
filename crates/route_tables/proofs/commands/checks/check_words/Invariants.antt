-- The invariant of `check_words`: the words so far are checked, and what the list says of them is printed.
use Rattle.std.proofs.Common.{drop, map}
use Rattle.route_tables.specs.Checks.{IsAllowedWord, IsGoodWord, asking_of}
use Rattle.route_tables.specs.Printed.{decision_text}
use Rattle.route_tables.specs.Questions.{IsQuestionWord}
use Rattle.route_tables.proofs.Answering.{AnswersSoFar}
use Rattle.route_tables.proofs.CheckSteps.{ChecksSoFar}
use Rattle.route_tables.proofs.commands.checks.check_words.Given as goal

abbrev pub invariant-loop-word : goal.invariant-loop-word
invariant-loop-word g l =
    ChecksSoFar (IsGoodWord l.checking) (IsAllowedWord l.checking l.list) l.checking (map (λ word. word.now) l.words) (drop l.word-index (map (λ word. word.now) l.words)) l.fn.checked l.checked
    × AnswersSoFar (IsQuestionWord (asking_of l.checking)) (decision_text l.checking.precedence l.list) (map (λ word. word.now) l.words) (drop l.word-index (map (λ word. word.now) l.words)) l.fn.out l.out
