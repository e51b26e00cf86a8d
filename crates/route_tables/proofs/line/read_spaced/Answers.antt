-- A line whose first and third field denote no range, or whose other fields are no value, is none of a range.
use Rattle.std.proofs.Common.{inl, inr, refl}
use Rattle.std.proofs.lemmas.Result.{err_from_is_err_and}
use Rattle.route_tables.specs.Networks.{all_networks}
use Rattle.route_tables.proofs.Reading.LineFields.{if_line}
use Rattle.route_tables.proofs.line.read_spaced.Goals as goal

pub returns-in_err-networks-clause-none : goal.returns-in_err-networks-clause-none
returns-in_err-networks-clause-none c =
    let p = err_from_is_err_and c.from_residual.result c.from_residual.ensures.1 in
    rw (p.1, p.2)
    (if_line _ _ (λ none networks value are. none are.first_utf8 are.last_utf8 networks are.denote) c.in_err-networks.field-0.0 c.in_err-networks.ensures.none)

pub returns-in_err-value-clause-none : goal.returns-in_err-value-clause-none
returns-in_err-value-clause-none c =
    let p = err_from_is_err_and c.from_residual-in_err-value.result c.from_residual-in_err-value.ensures.1 in
    rw (p.1, p.2) (λ networks value are. c.in_err-value.ensures.value value are.is_value)

pub returns-in_err-networks-clause-reason : goal.returns-in_err-networks-clause-reason
returns-in_err-networks-clause-reason c =
    let p = err_from_is_err_and c.from_residual.result c.from_residual.ensures.1 in
    rw (p.1, p.2) (inl c.in_err-networks.ensures.reason)

pub returns-in_err-value-clause-reason : goal.returns-in_err-value-clause-reason
returns-in_err-value-clause-reason c =
    let p = err_from_is_err_and c.from_residual-in_err-value.result c.from_residual-in_err-value.ensures.1 in
    rw (p.1, p.2) (inr ((all_networks c.in_ok-networks.networks, c.in_ok-networks.ensures.read.2), (c.in_err-value.field-0.0, refl, c.in_err-value.ensures.reason)))
