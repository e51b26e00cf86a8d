-- A field that is no value has none after it either.
use Rattle.std.proofs.Common.{inl, subst}
use Rattle.std.proofs.lemmas.Result.{err_from_is_err_and}
use Rattle.route_tables.specs.Routes.{IsValueText}
use Rattle.route_tables.proofs.line.read_last.Goals as goal

pub returns-in_err-value-clause-value : goal.returns-in_err-value-clause-value
returns-in_err-value-clause-value c =
    let p = err_from_is_err_and c.from_residual.result c.from_residual.ensures.1 in
    rw (p.1) (λ value is. c.in_err-value.ensures.value (subst (IsValueText c.args.kind) is.1 is.2))

pub returns-in_err-value-clause-reason : goal.returns-in_err-value-clause-reason
returns-in_err-value-clause-reason c =
    let p = err_from_is_err_and c.from_residual.result c.from_residual.ensures.1 in
    rw (p.1, p.2) (inl c.in_err-value.ensures.reason)
