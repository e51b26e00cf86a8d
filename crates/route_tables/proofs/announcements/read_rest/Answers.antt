-- The loop over the fields of a path: what is left ends it.
use Rattle.std.proofs.Common.{◌≡◌, ap, arith, length, suc}
use Rattle.std.proofs.lemmas.Result.{err_from_is_err_and}
use Rattle.route_tables.specs.Lines.{fields}
use Rattle.route_tables.proofs.RouteLines.{no_path, path_end, path_on}
use Rattle.route_tables.proofs.announcements.read_rest.Goals as goal

pub loop-field-init : goal.loop-field-init
loop-field-init c = λ origin. (λ ends. ends, λ ends. ends)

pub loop-field-preserved : goal.loop-field-preserved
loop-field-preserved c = path_on c.args.hop (fields c.args.path.now) (fields c.loop-field.rest.now) (fields c.in-Some.later.now) c.in-Some.field.now c.loop-field.last _ c.in-Some.ensures c.in_ok-last.ensures c.loop-field.invariant

pub loop-field-smaller : goal.loop-field-smaller
loop-field-smaller c =
    let e : length (fields c.loop-field.rest.now) ≡ suc (length (fields c.in-Some.later.now)) = ap length c.in-Some.ensures in omega arith

pub returns : goal.returns
returns c = path_end c.args.hop (fields c.args.path.now) (fields c.loop-field.rest.now) c.loop-field.last c.in_default.ensures c.loop-field.invariant

pub returns-in_err-last : goal.returns-in_err-last
returns-in_err-last c =
    let p = err_from_is_err_and c.from_residual.result c.from_residual.ensures.1 in
    rw (p.1, p.2) (
      c.in_err-last.ensures.0,
      no_path c.args.hop (fields c.args.path.now) (fields c.loop-field.rest.now) (fields c.in-Some.later.now) c.in-Some.field.now c.loop-field.last c.in-Some.ensures c.in_err-last.ensures.1 c.loop-field.invariant,
    )
