-- The loop over the lines of a text: the lines so far are validated.
use Rattle.std.proofs.Common.{rules, ◌≡◌, ◌∙◌, true, [], ap, sym}
use Rattle.std.proofs.lemmas.Result.{err_from_is_err_and}
use Rattle.route_tables.specs.Lines.{lines}
use Rattle.route_tables.proofs.Lists.{none_of}
use Rattle.route_tables.proofs.ValidationSteps.{counts_all, validates_end, validates_error, validates_on, validates_start}
use Rattle.route_tables.proofs.commands.validations.validate_lines.Goals as goal

pub loop-rest-init : goal.loop-rest-init
loop-rest-init g c = validates_start c.args.validating c.args.vrps.now (lines c.args.text.now) c.args.validated.now c.args.out.now (search rules)

pub loop-rest-preserved : goal.loop-rest-preserved
loop-rest-preserved g c =
    validates_on c.args.validating c.args.vrps.now (lines c.args.text.now) (lines c.loop-rest.rest.now) (lines c.split_line.result.1.now) c.split_line.result.0.now c.args.validated.now
    c.loop-rest.validated c.validate_line.new.validated c.args.out.now c.loop-rest.out c.validate_line.new.out _ c.split_line.ensures.first c.in_ok-validate_line.ensures.validates c.in_ok-validate_line.ensures.good
    c.loop-rest.invariant

pub returns-clause-validates : goal.returns-clause-validates
returns-clause-validates g c =
    let test : c.is_empty.result ≡ true = search rules in
    let none : lines c.loop-rest.rest.now ≡ [] = ap lines (none_of c.loop-rest.rest.now (sym c.is_empty.ensures ∙ test)) in
    (validates_end c.args.validating c.args.vrps.now (lines c.args.text.now) (lines c.loop-rest.rest.now) c.args.validated.now c.loop-rest.validated c.args.out.now c.loop-rest.out _ none
    c.loop-rest.invariant).0

pub returns-clause-good : goal.returns-clause-good
returns-clause-good g c =
    let test : c.is_empty.result ≡ true = search rules in
    let none : lines c.loop-rest.rest.now ≡ [] = ap lines (none_of c.loop-rest.rest.now (sym c.is_empty.ensures ∙ test)) in
    (validates_end c.args.validating c.args.vrps.now (lines c.args.text.now) (lines c.loop-rest.rest.now) c.args.validated.now c.loop-rest.validated c.args.out.now c.loop-rest.out (tt {0}) none
    c.loop-rest.invariant).1

pub returns-clause-invalid : goal.returns-clause-invalid
returns-clause-invalid g c =
    let test : c.is_empty.result ≡ true = search rules in
    let none : lines c.loop-rest.rest.now ≡ [] = ap lines (none_of c.loop-rest.rest.now (sym c.is_empty.ensures ∙ test)) in
    counts_all c.args.validating c.args.vrps.now (lines c.args.text.now) (lines c.loop-rest.rest.now) c.args.validated.now c.loop-rest.validated c.args.out.now c.loop-rest.out c.ip_text_laws.ensures none
    c.loop-rest.invariant

pub returns-in_err-validate_line-clause-ends : goal.returns-in_err-validate_line-clause-ends
returns-in_err-validate_line-clause-ends g c =
    let p = err_from_is_err_and c.from_residual.result c.from_residual.ensures.1 in
    rw (p.1, p.2)
    (validates_error c.args.validating c.args.vrps.now (lines c.args.text.now) (lines c.loop-rest.rest.now) (lines c.split_line.result.1.now) c.split_line.result.0.now c.args.validated.now
    c.loop-rest.validated c.validate_line.new.validated c.args.out.now c.loop-rest.out c.validate_line.new.out _ c.in_err-validate_line.field-0.0 c.split_line.ensures.first
    c.in_err-validate_line.ensures.validates c.in_err-validate_line.ensures.named c.loop-rest.invariant)
