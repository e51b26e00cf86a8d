-- The invariant of `look_up_words`: what the table has for the words so far is printed.
use Rattle.std.proofs.Common.{drop, map}
use Rattle.prefix_trie_joint.specs.Joined.{entries_of}
use Rattle.route_tables.specs.Printed.{lookup_text}
use Rattle.route_tables.specs.Questions.{IsQuestionWord}
use Rattle.route_tables.proofs.Answering.{AnswersSoFar}
use Rattle.route_tables.proofs.commands.lookups.look_up_words.Given as goal

abbrev pub invariant-loop-word : goal.invariant-loop-word
invariant-loop-word g l =
    AnswersSoFar (IsQuestionWord l.looking.asking) (lookup_text l.looking.relation (entries_of l.table)) (map (λ word. word.now) l.words) (drop l.word-index (map (λ word. word.now) l.words)) l.fn.out l.out
