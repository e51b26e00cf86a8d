-- The loop over words: the words so far are checked, and what the list says of them is printed.
use Rattle.std.proofs.Common.{rules, ◌+◌, ◌<◌, ◌≤◌, [], ◌∷◌, arith, drop, length, map}
use Rattle.std.proofs.lemmas.Result.{err_from_is_err_and}
use Rattle.route_tables.specs.Checks.{IsAllowedWord, IsGoodWord, asking_of}
use Rattle.route_tables.specs.Printed.{decision_text}
use Rattle.route_tables.specs.Questions.{IsQuestionWord}
use Rattle.route_tables.proofs.Answering.{answers_end, answers_on, answers_start}
use Rattle.route_tables.proofs.CheckSteps.{check_end, check_error, check_on, check_start, words_end, words_split}
use Rattle.route_tables.proofs.commands.checks.check_words.Goals as goal

pub loop-word-init : goal.loop-word-init
loop-word-init g c = (
  check_start (IsGoodWord c.args.checking) (IsAllowedWord c.args.checking c.args.list.now) c.args.checking (map (λ word. word.now) c.args.words.now) c.args.checked.now (search rules),
  answers_start (IsQuestionWord (asking_of c.args.checking)) (decision_text c.args.checking.precedence c.args.list.now) (map (λ word. word.now) c.args.words.now) c.args.out.now,
)

pub loop-word-preserved : goal.loop-word-preserved
loop-word-preserved g c =
    let less : c.loop-word.word-index < length c.args.words.now = omega arith in (
      check_on (IsGoodWord c.args.checking) (IsAllowedWord c.args.checking c.args.list.now) c.args.checking (map (λ word. word.now) c.args.words.now)
          (drop c.loop-word.word-index (map (λ word. word.now) c.args.words.now)) (drop (c.loop-word.word-index + 1) (map (λ word. word.now) c.args.words.now)) _ c.args.checked.now c.loop-word.checked
          c.check_word.new.checked (words_split c.args.words.now c.loop-word.word-index _ less) c.in_ok-check_word.ensures.checked c.in_ok-check_word.ensures.good c.loop-word.invariant.0,
      answers_on (IsQuestionWord (asking_of c.args.checking)) (decision_text c.args.checking.precedence c.args.list.now) (map (λ word. word.now) c.args.words.now) (drop c.loop-word.word-index (map (λ word. word.now) c.args.words.now))
          (drop (c.loop-word.word-index + 1) (map (λ word. word.now) c.args.words.now)) (_ ∷ []) c.args.out.now c.loop-word.out c.check_word.new.out (words_split c.args.words.now c.loop-word.word-index _ less)
          c.in_ok-check_word.ensures.printed c.loop-word.invariant.1,
    )

pub returns-clause-all : goal.returns-clause-all
returns-clause-all g c =
    let most : length c.args.words.now ≤ c.loop-word.word-index = omega arith in
    (check_end (IsGoodWord c.args.checking) (IsAllowedWord c.args.checking c.args.list.now) c.args.checking (map (λ word. word.now) c.args.words.now) (drop c.loop-word.word-index (map (λ word. word.now) c.args.words.now)) c.args.checked.now
    c.loop-word.checked (words_end c.args.words.now c.loop-word.word-index most) c.loop-word.invariant.0).0

pub returns-clause-good : goal.returns-clause-good
returns-clause-good g c =
    let most : length c.args.words.now ≤ c.loop-word.word-index = omega arith in
    (check_end (IsGoodWord c.args.checking) (IsAllowedWord c.args.checking c.args.list.now) c.args.checking (map (λ word. word.now) c.args.words.now) (drop c.loop-word.word-index (map (λ word. word.now) c.args.words.now)) c.args.checked.now
    c.loop-word.checked (words_end c.args.words.now c.loop-word.word-index most) c.loop-word.invariant.0).1

pub returns-clause-printed : goal.returns-clause-printed
returns-clause-printed g c =
    let most : length c.args.words.now ≤ c.loop-word.word-index = omega arith in
    answers_end (IsQuestionWord (asking_of c.args.checking)) (decision_text c.args.checking.precedence c.args.list.now) (map (λ word. word.now) c.args.words.now) (drop c.loop-word.word-index (map (λ word. word.now) c.args.words.now)) c.args.out.now
    c.loop-word.out (words_end c.args.words.now c.loop-word.word-index most) c.loop-word.invariant.1

pub returns-in_err-check_word-clause-ends : goal.returns-in_err-check_word-clause-ends
returns-in_err-check_word-clause-ends g c =
    let p = err_from_is_err_and c.from_residual.result c.from_residual.ensures.1 in
    let less : c.loop-word.word-index < length c.args.words.now = omega arith in
    rw (p.1, p.2)
    (check_error (IsGoodWord c.args.checking) (IsAllowedWord c.args.checking c.args.list.now) c.args.checking (map (λ word. word.now) c.args.words.now) (drop c.loop-word.word-index (map (λ word. word.now) c.args.words.now))
    (drop (c.loop-word.word-index + 1) (map (λ word. word.now) c.args.words.now)) _ c.args.checked.now c.loop-word.checked c.check_word.new.checked c.in_err-check_word.field-0.0
    (words_split c.args.words.now c.loop-word.word-index _ less) c.in_err-check_word.ensures.checked c.in_err-check_word.ensures.named c.loop-word.invariant.0)
