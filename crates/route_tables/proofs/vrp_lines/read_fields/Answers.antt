-- The fields are those of a VRP, or the first of them that is wrong says why not.
use Rattle.std.proofs.lemmas.Result.{err_from_is_err_and}
use Rattle.route_tables.proofs.VrpSteps.{fields_read, wrong_origin, wrong_prefix}
use Rattle.route_tables.proofs.vrp_lines.read_fields.Goals as goal

pub returns-in_err-origin : goal.returns-in_err-origin
returns-in_err-origin c =
    let p = err_from_is_err_and c.from_residual.result c.from_residual.ensures.1 in
    rw (p.1, p.2) (wrong_origin c.args.host_bits c.args.first.now c.args.second.now c.args.third.now c.in_err-origin.field-0.0 c.in_err-origin.ensures.0 c.in_err-origin.ensures.1)

pub returns-in_err-prefix : goal.returns-in_err-prefix
returns-in_err-prefix c =
    let p = err_from_is_err_and c.from_residual-in_err-prefix.result c.from_residual-in_err-prefix.ensures.1 in
    rw (p.1, p.2)
    (wrong_prefix c.args.host_bits c.args.first.now c.args.second.now c.args.third.now c.in_err-prefix.field-0.0 (c.in_ok-origin.origin, c.in_ok-origin.ensures) c.in_err-prefix.ensures)

pub returns : goal.returns
returns c =
    fields_read c.ip_text_laws.ensures c.args.host_bits c.args.first.now c.args.second.now c.args.third.now c.in_ok-origin.origin c.in_ok-prefix.prefix c.read_max_len.result c.in_ok-origin.ensures
    c.in_ok-prefix.ensures.0 c.in_ok-prefix.ensures.1 c.read_max_len.ensures
