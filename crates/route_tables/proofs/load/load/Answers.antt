-- No line is skipped, since bad lines are refused, and a new table has few slots.
use Rattle.std.proofs.Common.{length, refl}
use Rattle.std.proofs.lemmas.Result.{err_from_is_err_and}
use Rattle.route_tables.specs.Lines.{table_lines}
use Rattle.route_tables.specs.Loads.{strict}
use Rattle.route_tables.proofs.LoadedTables.{new_exceed}
use Rattle.route_tables.proofs.Loads.{none_bad}
use Rattle.route_tables.proofs.load.load.Goals as goal

pub returns-clause-skipped : goal.returns-clause-skipped
returns-clause-skipped c =
    let has = c.in_ok-warnings.ensures.added in
    none_bad strict 0 (table_lines c.args.text.now) has.0 c.in_ok-warnings.warnings.skipped.items refl has.1 c.in_ok-warnings.ensures.skipped

pub returns-in_err-warnings-clause-full : goal.returns-in_err-warnings-clause-full
returns-in_err-warnings-clause-full c =
    let p = err_from_is_err_and c.from_residual-in_err-warnings.result c.from_residual-in_err-warnings.ensures.1 in
    rw (p.1, p.2)
    (λ full. let (index, routes, has, exceed) = c.in_err-warnings.ensures.full full in
    (index, routes, has, new_exceed c.in_ok-table.table (length routes) c.in_ok-table.ensures.new exceed))
