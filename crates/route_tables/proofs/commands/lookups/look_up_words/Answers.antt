-- The loop over words: what the table has for each is printed after what is printed for those before.
use Rattle.std.proofs.Common.{◌+◌, ◌<◌, ◌≤◌, [], ◌∷◌, arith, drop, length, map}
use Rattle.prefix_trie_joint.specs.Joined.{entries_of}
use Rattle.route_tables.specs.Printed.{lookup_text}
use Rattle.route_tables.specs.Questions.{IsQuestionWord}
use Rattle.route_tables.proofs.Answering.{answers_end, answers_on, answers_start}
use Rattle.route_tables.proofs.CheckSteps.{words_end, words_split}
use Rattle.route_tables.proofs.commands.lookups.look_up_words.Goals as goal

pub loop-word-init : goal.loop-word-init
loop-word-init g c = answers_start (IsQuestionWord c.args.looking.asking) (lookup_text c.args.looking.relation (entries_of c.args.table.now)) (map (λ word. word.now) c.args.words.now) c.args.out.now

pub loop-word-preserved : goal.loop-word-preserved
loop-word-preserved g c =
    let less : c.loop-word.word-index < length c.args.words.now = omega arith in
    answers_on (IsQuestionWord c.args.looking.asking) (lookup_text c.args.looking.relation (entries_of c.args.table.now)) (map (λ word. word.now) c.args.words.now) (drop c.loop-word.word-index (map (λ word. word.now) c.args.words.now))
    (drop (c.loop-word.word-index + 1) (map (λ word. word.now) c.args.words.now)) (_ ∷ []) c.args.out.now c.loop-word.out c.look_up_word.new.out (words_split c.args.words.now c.loop-word.word-index _ less)
    c.in_ok-look_up_word.ensures c.loop-word.invariant

pub returns : goal.returns
returns g c =
    let most : length c.args.words.now ≤ c.loop-word.word-index = omega arith in
    answers_end (IsQuestionWord c.args.looking.asking) (lookup_text c.args.looking.relation (entries_of c.args.table.now)) (map (λ word. word.now) c.args.words.now) (drop c.loop-word.word-index (map (λ word. word.now) c.args.words.now)) c.args.out.now
    c.loop-word.out (words_end c.args.words.now c.loop-word.word-index most) c.loop-word.invariant
