-- A value is UTF-8, hides nothing, is no address, and is one of its kind of table.
use Rattle.std.proofs.Common.{◌≡◌, ◌∙◌, ◌⊎◌, false, true, true≢false, subst, sym}
use Rattle.std.proofs.lemmas.Result.{IfErr-weaker, MatchResult-weaker}
use Rattle.std.specs.Net.Grammar.{IsIpText}
use Rattle.route_tables.specs.Lines.{has_hidden}
use Rattle.route_tables.specs.Reasons.{IsRuleInOtherCase}
use Rattle.route_tables.specs.Routes.{IsOfKind, IsRule}
use Rattle.route_tables.specs.declared.line.LineError.TheVariants.{CapitalLetters, OtherValue}
use Rattle.route_tables.proofs.Reading.LineFields.{rule_reason}
use Rattle.route_tables.proofs.line.read_value.Goals as goal

pub returns-in_default-clause-value : goal.returns-in_default-clause-value
returns-in_default-clause-value c is = c.in_default.ensures.cases.0 is.utf8

pub returns-then-has_hidden-clause-value : goal.returns-then-has_hidden-clause-value
returns-then-has_hidden-clause-value c is =
    let shown : has_hidden c.in-Ok.text.now ≡ false = subst (λ text. has_hidden text ≡ false) (sym c.in-Ok.ensures.cases.0) is.plain in
    true≢false (sym c.if-has_hidden.true ∙ c.has_hidden.ensures ∙ shown)

pub returns-then-is_address-clause-value : goal.returns-then-is_address-clause-value
returns-then-is_address-clause-value c is =
    let found = c.is_address.ensures.0 c.if-is_address.true in
    is.no_address found.0 (subst (λ text. IsIpText text found.0) c.in-Ok.ensures.cases.0 found.1)

pub returns-in-AnyValues-clause-value : goal.returns-in-AnyValues-clause-value
returns-in-AnyValues-clause-value c = (
  c.in-Ok.ensures.cases.0,
  record {
    utf8 = c.in-Ok.ensures.cases.1;
    plain = subst (λ text. has_hidden text ≡ false) c.in-Ok.ensures.cases.0 (sym c.has_hidden.ensures ∙ c.if-has_hidden.false);
    no_address = λ address is. true≢false (sym (c.is_address.ensures.1 (address, subst (λ text. IsIpText text address) (sym c.in-Ok.ensures.cases.0) is)) ∙ c.if-is_address.false);
    of_kind = subst (λ kind. IsOfKind kind c.args.field.now) (sym c.in-AnyValues.is) tt;
  },
)

pub returns-in-AccessList-clause-value : goal.returns-in-AccessList-clause-value
returns-in-AccessList-clause-value c =
    MatchResult-weaker c.read_rule.result c.read_rule.ensures.rule
    (λ value rule. (
      rule.0 ∙ c.in-Ok.ensures.cases.0,
      record {
        utf8 = c.in-Ok.ensures.cases.1;
        plain = subst (λ text. has_hidden text ≡ false) c.in-Ok.ensures.cases.0 (sym c.has_hidden.ensures ∙ c.if-has_hidden.false);
        no_address = λ address is. true≢false (sym (c.is_address.ensures.1 (address, subst (λ text. IsIpText text address) (sym c.in-Ok.ensures.cases.0) is)) ∙ c.if-is_address.false);
        of_kind = subst (λ kind. IsOfKind kind c.args.field.now) (sym c.in-AccessList.is) (subst IsRule c.in-Ok.ensures.cases.0 rule.1);
      },
    ))
    (λ error other is. other (subst IsRule (sym c.in-Ok.ensures.cases.0) (subst (λ kind. IsOfKind kind c.args.field.now) c.in-AccessList.is is.of_kind)))

pub returns-then-has_hidden-clause-reason : goal.returns-then-has_hidden-clause-reason
returns-then-has_hidden-clause-reason c =
    (c.in-Ok.ensures.cases.1, subst (λ text. has_hidden text ≡ true) c.in-Ok.ensures.cases.0 (sym c.has_hidden.ensures ∙ c.if-has_hidden.true))

pub returns-then-is_address-clause-reason : goal.returns-then-is_address-clause-reason
returns-then-is_address-clause-reason c =
    let found = c.is_address.ensures.0 c.if-is_address.true in (
      c.in-Ok.ensures.cases.1,
      subst (λ text. has_hidden text ≡ false) c.in-Ok.ensures.cases.0 (sym c.has_hidden.ensures ∙ c.if-has_hidden.false),
      (found.0, subst (λ text. IsIpText text found.0) c.in-Ok.ensures.cases.0 found.1),
    )

pub returns-in-AccessList-clause-reason : goal.returns-in-AccessList-clause-reason
returns-in-AccessList-clause-reason c =
    IfErr-weaker c.read_rule.result _ _
    (λ error reason. rule_reason c.args.kind c.args.field.now c.in-AccessList.is (record {
      utf8 = c.in-Ok.ensures.cases.1;
      plain = subst (λ text. has_hidden text ≡ false) c.in-Ok.ensures.cases.0 (sym c.has_hidden.ensures ∙ c.if-has_hidden.false);
      no_address = λ address is. true≢false (sym (c.is_address.ensures.1 (address, subst (λ text. IsIpText text address) (sym c.in-Ok.ensures.cases.0) is)) ∙ c.if-is_address.false);
    }) error
    (subst (λ text. ((error ≡ CapitalLetters) × ¬ (IsRule text) × IsRuleInOtherCase text) ⊎ ((error ≡ OtherValue) × ¬ (IsRule text) × ¬ (IsRuleInOtherCase text))) c.in-Ok.ensures.cases.0 reason))
    c.read_rule.ensures.reason
