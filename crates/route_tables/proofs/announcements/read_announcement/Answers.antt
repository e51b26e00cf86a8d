-- A line is blank, or its fields are those of a route, or it is bad.
use Rattle.std.proofs.Common.{◌∙◌, sym, true≢false}
use Rattle.route_tables.specs.Lines.{fields}
use Rattle.route_tables.proofs.RouteLines.{bad_route}
use Rattle.route_tables.proofs.announcements.read_announcement.Goals as goal

pub returns-then-has_bare_return : goal.returns-then-has_bare_return
returns-then-has_bare_return c = record {
  is_some = λ blank. true≢false (sym c.if-has_bare_return.true ∙ c.has_bare_return.ensures ∙ blank.1);
  is_none = λ route is. true≢false (sym c.if-has_bare_return.true ∙ c.has_bare_return.ensures ∙ is.no_return);
  reason = sym c.has_bare_return.ensures ∙ c.if-has_bare_return.true;
}

pub returns-in-Ok : goal.returns-in-Ok
returns-in-Ok c = record {
  first = c.in-Some.first.now;
  later = fields c.in-Some.rest.now;
  has_fields = c.in-Some.ensures;
  are_fields = c.in-Ok.ensures;
  no_return = sym c.has_bare_return.ensures ∙ c.if-has_bare_return.false;
}

pub returns-in-Err : goal.returns-in-Err
returns-in-Err c = bad_route c.args.host_bits c.args.line.now c.in-Some.first.now (fields c.in-Some.rest.now) c.in-Err.error c.in-Some.ensures c.in-Err.ensures
