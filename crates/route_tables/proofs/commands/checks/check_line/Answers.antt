-- What one line shows is what is read from it.
use Rattle.std.proofs.Common.{◌∙◌, Err, Ok, Some, inl, inr, refl, subst}
use Rattle.std.proofs.lemmas.Result.{IfErr-weaker, on_ok_weaker}
use Rattle.prefix_trie_joint.specs.Networks.{ip_path}
use Rattle.route_tables.specs.Access.{IsAllowed}
use Rattle.route_tables.specs.Checks.{IsAllowedLine, IsGoodLine, asking_of}
use Rattle.route_tables.specs.Printed.{decision_text}
use Rattle.route_tables.specs.Questions.{IsQuestionLine, ReadsLine}
use Rattle.route_tables.specs.Routes.{IsBlank}
use Rattle.route_tables.specs.declared.commands.checks.Checked.{Checked}
use Rattle.route_tables.proofs.Answering.{blank_asks_nothing, prints_nothing, prints_question}
use Rattle.route_tables.proofs.CheckSteps.{allowed_line, checked_answer, checked_blank, checked_skip, names_other, no_good_line, on_ok}
use Rattle.route_tables.proofs.commands.checks.check_line.Goals as goal

pub returns-in-Ok-Some-clause-checked : goal.returns-in-Ok-Some-clause-checked
returns-in-Ok-Some-clause-checked g c =
    let mid : Checked = record { seen = c.count_one.new.self; are_all_allowed = c.args.checked.now.are_all_allowed } in
    let read : ReadsLine c.asking.result c.args.line.now (Ok (Some c.in-Ok-Some.question)) = rw c.in-Ok-Some.field-0-is at c.in-Ok-Some.ensures in
    checked_answer (IsAllowedLine c.args.checking c.args.list.now) (IsAllowed c.args.checking.precedence c.args.list.now (ip_path c.in-Ok-Some.question.network)) c.args.line.now c.args.checked.now mid
    c.answer.new.checked
    (allowed_line c.args.checking c.args.list.now c.args.line.now (Ok (Some c.in-Ok-Some.question)) (subst (λ asking. ReadsLine asking c.args.line.now (Ok (Some c.in-Ok-Some.question))) c.asking.ensures read))
    refl c.count_one.ensures c.answer.ensures.all c.answer.ensures.count

pub returns-in-Ok-Some-clause-good : goal.returns-in-Ok-Some-clause-good
returns-in-Ok-Some-clause-good g c =
    let read : ReadsLine c.asking.result c.args.line.now (Ok (Some c.in-Ok-Some.question)) = rw c.in-Ok-Some.field-0-is at c.in-Ok-Some.ensures in
    on_ok c.answer.result _ (λ _.
    inr (c.in-Ok-Some.question.text.now, c.in-Ok-Some.question.network, subst (λ asking. ReadsLine asking c.args.line.now (Ok (Some c.in-Ok-Some.question))) c.asking.ensures read))

pub returns-in-Ok-None-clause-checked : goal.returns-in-Ok-None-clause-checked
returns-in-Ok-None-clause-checked g c =
    let after : Checked = record { seen = c.count_one.new.self; are_all_allowed = c.args.checked.now.are_all_allowed } in
    let blank : IsBlank c.args.line.now = rw c.in-Ok-None.field-0-is at c.in-Ok-None.ensures in
    checked_blank (IsAllowedLine c.args.checking c.args.list.now) c.args.line.now c.args.checked.now after (inl blank) refl c.count_one.ensures

pub returns-in-Err-clause-checked : goal.returns-in-Err-clause-checked
returns-in-Err-clause-checked g c =
    checked_skip (IsAllowedLine c.args.checking c.args.list.now) c.args.line.now c.args.checked.now c.skip_or_refuse.new.checked
    (allowed_line c.args.checking c.args.list.now c.args.line.now (Err c.in-Err.error) (subst (λ asking. ReadsLine asking c.args.line.now (Err c.in-Err.error)) c.asking.ensures c.in-Err.ensures))
    c.skip_or_refuse.ensures.none (c.skip_or_refuse.ensures.count ∙ c.count_one.ensures)

pub returns-in-Err-clause-named : goal.returns-in-Err-clause-named
returns-in-Err-clause-named g c =
    IfErr-weaker c.skip_or_refuse.result _ _
    (names_other ⊥ (IsGoodLine c.args.checking c.args.line.now) c.args.checking.bad_questions c.args.line.now c.skip_or_refuse.new.checked.seen.count
    (no_good_line c.args.checking c.args.line.now c.in-Err.error (subst (λ asking. ReadsLine asking c.args.line.now (Err c.in-Err.error)) c.asking.ensures c.in-Err.ensures)))
    c.skip_or_refuse.ensures.named

pub returns-in-Ok-Some-clause-printed : goal.returns-in-Ok-Some-clause-printed
returns-in-Ok-Some-clause-printed g c =
    let read : ReadsLine c.asking.result c.args.line.now (Ok (Some c.in-Ok-Some.question)) = rw c.in-Ok-Some.field-0-is at c.in-Ok-Some.ensures in
    on_ok_weaker c.answer.result
    (prints_question (IsQuestionLine (asking_of c.args.checking)) (decision_text c.args.checking.precedence c.args.list.now) c.args.line.now c.in-Ok-Some.question.text.now c.in-Ok-Some.question.network c.args.out.now c.answer.new.out
    (subst (λ asking. ReadsLine asking c.args.line.now (Ok (Some c.in-Ok-Some.question))) c.asking.ensures read)) c.answer.ensures.printed

pub returns-in-Ok-None-clause-printed : goal.returns-in-Ok-None-clause-printed
returns-in-Ok-None-clause-printed g c =
    let blank : IsBlank c.args.line.now = rw c.in-Ok-None.field-0-is at c.in-Ok-None.ensures in
    prints_nothing (IsQuestionLine (asking_of c.args.checking)) (decision_text c.args.checking.precedence c.args.list.now) c.args.line.now c.args.out.now (blank_asks_nothing (asking_of c.args.checking) c.args.line.now blank)

pub returns-in-Err-clause-printed : goal.returns-in-Err-clause-printed
returns-in-Err-clause-printed g c =
    let read : ReadsLine (asking_of c.args.checking) c.args.line.now (Err c.in-Err.error) =
    subst (λ asking. ReadsLine asking c.args.line.now (Err c.in-Err.error)) c.asking.ensures c.in-Err.ensures in
    on_ok c.skip_or_refuse.result _ (prints_nothing (IsQuestionLine (asking_of c.args.checking)) (decision_text c.args.checking.precedence c.args.list.now) c.args.line.now c.args.out.now read.1)
