-- What one word shows is what is read from it.
use Rattle.std.proofs.Common.{◌∙◌, IfErr, refl, subst}
use Rattle.std.proofs.lemmas.Result.{IfErr-weaker, on_ok_weaker}
use Rattle.prefix_trie_joint.specs.Networks.{ip_path}
use Rattle.prefix_trie_joint.specs.declared.prefix.IpPrefix.{IpPrefix}
use Rattle.route_tables.specs.Access.{IsAllowed}
use Rattle.route_tables.specs.Checks.{IsAllowedWord, IsGoodWord, NamesText, asking_of}
use Rattle.route_tables.specs.Printed.{decision_text}
use Rattle.route_tables.specs.Questions.{IsQuestion, IsQuestionWord}
use Rattle.route_tables.specs.declared.commands.checks.Checked.{Checked}
use Rattle.route_tables.proofs.Answering.{prints_nothing, prints_question}
use Rattle.route_tables.proofs.CheckSteps.{allowed_word, checked_answer, checked_skip, names_other, no_allowed_word, on_ok}
use Rattle.route_tables.proofs.commands.checks.check_word.Goals as goal

pub returns-in-Ok-clause-checked : goal.returns-in-Ok-clause-checked
returns-in-Ok-clause-checked g c =
    let mid : Checked = record { seen = c.count_one.new.self; are_all_allowed = c.args.checked.now.are_all_allowed } in
    checked_answer (IsAllowedWord c.args.checking c.args.list.now) (IsAllowed c.args.checking.precedence c.args.list.now (ip_path c.in-Ok.question.network)) c.args.word.now c.args.checked.now mid
    c.answer.new.checked
    (allowed_word c.args.checking c.args.list.now c.args.word.now c.in-Ok.question.network (subst (λ asking. IsQuestion asking c.args.word.now c.in-Ok.question.network) c.asking.ensures c.in-Ok.ensures.1))
    refl c.count_one.ensures c.answer.ensures.all c.answer.ensures.count

pub returns-in-Ok-clause-good : goal.returns-in-Ok-clause-good
returns-in-Ok-clause-good g c =
    on_ok c.answer.result _ (λ _. (c.in-Ok.question.network, subst (λ asking. IsQuestion asking c.args.word.now c.in-Ok.question.network) c.asking.ensures c.in-Ok.ensures.1))

pub returns-in-Err-clause-checked : goal.returns-in-Err-clause-checked
returns-in-Err-clause-checked g c =
    checked_skip (IsAllowedWord c.args.checking c.args.list.now) c.args.word.now c.args.checked.now c.skip_or_refuse.new.checked
    (no_allowed_word c.args.checking c.args.list.now c.args.word.now (subst (λ asking. (network : IpPrefix) → ¬ (IsQuestion asking c.args.word.now network)) c.asking.ensures c.in-Err.ensures))
    c.skip_or_refuse.ensures.none (c.skip_or_refuse.ensures.count ∙ c.count_one.ensures)

pub returns-in-Err-clause-named : goal.returns-in-Err-clause-named
returns-in-Err-clause-named g c =
    let none = subst (λ asking. (network : IpPrefix) → ¬ (IsQuestion asking c.args.word.now network)) c.asking.ensures c.in-Err.ensures in
    IfErr-weaker c.skip_or_refuse.result _ _
    (names_other ⊥ (IsGoodWord c.args.checking c.args.word.now) c.args.checking.bad_questions c.args.word.now c.skip_or_refuse.new.checked.seen.count (λ good. none good.0 good.1))
    (subst (λ text. IfErr c.skip_or_refuse.result (NamesText ⊥ c.args.checking.bad_questions text c.skip_or_refuse.new.checked.seen.count)) c.as_bytes-text.ensures.value c.skip_or_refuse.ensures.named)

pub returns-in-Ok-clause-printed : goal.returns-in-Ok-clause-printed
returns-in-Ok-clause-printed g c =
    on_ok_weaker c.answer.result
    (prints_question (IsQuestionWord (asking_of c.args.checking)) (decision_text c.args.checking.precedence c.args.list.now) c.args.word.now c.in-Ok.question.text.now c.in-Ok.question.network c.args.out.now c.answer.new.out
    (c.in-Ok.ensures.0, subst (λ asking. IsQuestion asking c.args.word.now c.in-Ok.question.network) c.asking.ensures c.in-Ok.ensures.1)) c.answer.ensures.printed

pub returns-in-Err-clause-printed : goal.returns-in-Err-clause-printed
returns-in-Err-clause-printed g c =
    let none = subst (λ asking. (network : IpPrefix) → ¬ (IsQuestion asking c.args.word.now network)) c.asking.ensures c.in-Err.ensures in
    on_ok c.skip_or_refuse.result _ (prints_nothing (IsQuestionWord (asking_of c.args.checking)) (decision_text c.args.checking.precedence c.args.list.now) c.args.word.now c.args.out.now (λ text network asks. none network asks.1))
