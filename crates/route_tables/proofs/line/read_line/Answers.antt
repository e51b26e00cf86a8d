-- A line whose fields are not those of networks and their value is bad.
use Rattle.std.proofs.Common.{◌∙◌, inr, sym}
use Rattle.route_tables.specs.Lines.{fields}
use Rattle.route_tables.proofs.Reading.LineFields.{if_line, is_bad}
use Rattle.route_tables.proofs.line.read_line.Goals as goal

pub returns-in-Err-clause-bad : goal.returns-in-Err-clause-bad
returns-in-Err-clause-bad c =
    if_line _ _ (is_bad c.args.reading c.args.line.now c.in-Some.first.now (fields c.in-Some.rest.now) c.in-Some.ensures) c.in-Err.error c.in-Err.ensures.none

pub returns-in-Err-clause-reason : goal.returns-in-Err-clause-reason
returns-in-Err-clause-reason c =
    inr (sym c.has_bare_return.ensures ∙ c.if-has_bare_return.false, (c.in-Some.first.now, fields c.in-Some.rest.now, c.in-Some.ensures, c.in-Err.ensures.reason))
