-- The first field is a hop, and the others end the path.
use Rattle.std.proofs.lemmas.Result.{err_from_is_err_and}
use Rattle.route_tables.specs.Lines.{fields}
use Rattle.route_tables.proofs.RouteLines.{path_rest}
use Rattle.route_tables.proofs.announcements.read_hops.Goals as goal

pub returns-in_err-hop : goal.returns-in_err-hop
returns-in_err-hop c =
    let p = err_from_is_err_and c.from_residual.result c.from_residual.ensures.1 in rw (p.1, p.2) (c.in_err-hop.ensures.0, λ origin path. c.in_err-hop.ensures.1 path.0 path.1)

pub returns : goal.returns
returns c = path_rest c.args.first.now (fields c.args.rest.now) c.in_ok-hop.hop c.read_rest.result c.in_ok-hop.ensures c.read_rest.ensures
