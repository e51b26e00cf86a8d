-- The loop over the lines of a text: the lines so far are checked, and what the list says of them is printed.
use Rattle.std.proofs.Common.{rules, ◌≡◌, ◌∙◌, true, [], ◌∷◌, ap, sym}
use Rattle.std.proofs.lemmas.Result.{err_from_is_err_and}
use Rattle.route_tables.specs.Checks.{IsAllowedLine, IsGoodLine, asking_of}
use Rattle.route_tables.specs.Lines.{lines}
use Rattle.route_tables.specs.Printed.{decision_text}
use Rattle.route_tables.specs.Questions.{IsQuestionLine}
use Rattle.route_tables.proofs.Answering.{answers_end, answers_on, answers_start}
use Rattle.route_tables.proofs.CheckSteps.{check_end, check_error, check_on, check_start}
use Rattle.route_tables.proofs.Lists.{none_of}
use Rattle.route_tables.proofs.commands.checks.check_lines.Goals as goal

pub loop-rest-init : goal.loop-rest-init
loop-rest-init g c = (
  check_start (IsGoodLine c.args.checking) (IsAllowedLine c.args.checking c.args.list.now) c.args.checking (lines c.args.text.now) c.args.checked.now (search rules),
  answers_start (IsQuestionLine (asking_of c.args.checking)) (decision_text c.args.checking.precedence c.args.list.now) (lines c.args.text.now) c.args.out.now,
)

pub loop-rest-preserved : goal.loop-rest-preserved
loop-rest-preserved g c = (
  check_on (IsGoodLine c.args.checking) (IsAllowedLine c.args.checking c.args.list.now) c.args.checking (lines c.args.text.now) (lines c.loop-rest.rest.now) (lines c.split_line.result.1.now)
      c.split_line.result.0.now c.args.checked.now c.loop-rest.checked c.check_line.new.checked c.split_line.ensures.first c.in_ok-check_line.ensures.checked c.in_ok-check_line.ensures.good
      c.loop-rest.invariant.0,
  answers_on (IsQuestionLine (asking_of c.args.checking)) (decision_text c.args.checking.precedence c.args.list.now) (lines c.args.text.now) (lines c.loop-rest.rest.now) (lines c.split_line.result.1.now) (c.split_line.result.0.now ∷ [])
      c.args.out.now c.loop-rest.out c.check_line.new.out c.split_line.ensures.first c.in_ok-check_line.ensures.printed c.loop-rest.invariant.1,
)

pub returns-clause-all : goal.returns-clause-all
returns-clause-all g c =
    let test : c.is_empty.result ≡ true = search rules in
    let none : lines c.loop-rest.rest.now ≡ [] = ap lines (none_of c.loop-rest.rest.now (sym c.is_empty.ensures ∙ test)) in
    (check_end (IsGoodLine c.args.checking) (IsAllowedLine c.args.checking c.args.list.now) c.args.checking (lines c.args.text.now) (lines c.loop-rest.rest.now) c.args.checked.now c.loop-rest.checked none
    c.loop-rest.invariant.0).0

pub returns-clause-good : goal.returns-clause-good
returns-clause-good g c =
    let test : c.is_empty.result ≡ true = search rules in
    let none : lines c.loop-rest.rest.now ≡ [] = ap lines (none_of c.loop-rest.rest.now (sym c.is_empty.ensures ∙ test)) in
    (check_end (IsGoodLine c.args.checking) (IsAllowedLine c.args.checking c.args.list.now) c.args.checking (lines c.args.text.now) (lines c.loop-rest.rest.now) c.args.checked.now c.loop-rest.checked none
    c.loop-rest.invariant.0).1

pub returns-clause-printed : goal.returns-clause-printed
returns-clause-printed g c =
    let test : c.is_empty.result ≡ true = search rules in
    let none : lines c.loop-rest.rest.now ≡ [] = ap lines (none_of c.loop-rest.rest.now (sym c.is_empty.ensures ∙ test)) in
    answers_end (IsQuestionLine (asking_of c.args.checking)) (decision_text c.args.checking.precedence c.args.list.now) (lines c.args.text.now) (lines c.loop-rest.rest.now) c.args.out.now c.loop-rest.out none c.loop-rest.invariant.1

pub returns-in_err-check_line-clause-ends : goal.returns-in_err-check_line-clause-ends
returns-in_err-check_line-clause-ends g c =
    let p = err_from_is_err_and c.from_residual.result c.from_residual.ensures.1 in
    rw (p.1, p.2)
    (check_error (IsGoodLine c.args.checking) (IsAllowedLine c.args.checking c.args.list.now) c.args.checking (lines c.args.text.now) (lines c.loop-rest.rest.now) (lines c.split_line.result.1.now)
    c.split_line.result.0.now c.args.checked.now c.loop-rest.checked c.check_line.new.checked c.in_err-check_line.field-0.0 c.split_line.ensures.first c.in_err-check_line.ensures.checked
    c.in_err-check_line.ensures.named c.loop-rest.invariant.0)
