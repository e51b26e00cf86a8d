-- The fields are those of a route if the first is a prefix and the others are a path.
use Rattle.std.proofs.lemmas.Result.{err_from_is_err_and}
use Rattle.route_tables.specs.Lines.{fields}
use Rattle.route_tables.proofs.RouteLines.{wrong_path, wrong_prefix}
use Rattle.route_tables.proofs.announcements.read_fields.Goals as goal

pub returns-in_err-prefix : goal.returns-in_err-prefix
returns-in_err-prefix c =
    let p = err_from_is_err_and c.from_residual.result c.from_residual.ensures.1 in
    rw (p.1, p.2) (wrong_prefix c.args.host_bits c.args.first.now (fields c.args.rest.now) c.in_err-prefix.field-0.0 c.in_err-prefix.ensures)

pub returns-in_err-origin : goal.returns-in_err-origin
returns-in_err-origin c =
    let p = err_from_is_err_and c.from_residual-in_err-origin.result c.from_residual-in_err-origin.ensures.1 in
    rw (p.1, p.2)
    (wrong_path c.args.host_bits c.args.first.now (fields c.args.rest.now) c.in_err-origin.field-0.0 c.in_ok-prefix.prefix c.in_ok-prefix.ensures.1 c.in_err-origin.ensures.0 c.in_err-origin.ensures.1)

pub returns : goal.returns
returns c = record { utf8 = c.in_ok-prefix.ensures.0; prefix = c.in_ok-prefix.ensures.1; path = c.in_ok-origin.ensures }
