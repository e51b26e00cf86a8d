-- The value is what the field that is left says, or it is empty.
use Rattle.std.proofs.Common.{ℕ, IfErr, List, MatchResult, subst, sym}
use Rattle.route_tables.specs.Reasons.{IsValueReason}
use Rattle.route_tables.specs.Routes.{IsValue}
use Rattle.route_tables.proofs.line.read_rest.Goals as goal

pub returns-in-None-clause-value : goal.returns-in-None-clause-value
returns-in-None-clause-value c =
    subst (λ later. MatchResult c.no_value.result (λ value. IsValue c.args.kind later value.now) (λ _. (value : List ℕ) → ¬ (IsValue c.args.kind later value)))
    (sym c.in-None.ensures) c.no_value.ensures.value

pub returns-in-Some-clause-value : goal.returns-in-Some-clause-value
returns-in-Some-clause-value c =
    subst (λ later. MatchResult c.read_last.result (λ value. IsValue c.args.kind later value.now) (λ _. (value : List ℕ) → ¬ (IsValue c.args.kind later value)))
    (sym c.in-Some.ensures) c.read_last.ensures.value

pub returns-in-None-clause-reason : goal.returns-in-None-clause-reason
returns-in-None-clause-reason c = subst (λ later. IfErr c.no_value.result (IsValueReason c.args.kind later)) (sym c.in-None.ensures) c.no_value.ensures.reason

pub returns-in-Some-clause-reason : goal.returns-in-Some-clause-reason
returns-in-Some-clause-reason c = subst (λ later. IfErr c.read_last.result (IsValueReason c.args.kind later)) (sym c.in-Some.ensures) c.read_last.ensures.reason
