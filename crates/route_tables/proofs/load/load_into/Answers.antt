-- The loop over the lines of a text: the routes of the lines so far are added.
use Rattle.std.proofs.Common.{arith, rules, subst, sym}
use Rattle.std.proofs.lemmas.Result.{err_from_is_err_and}
use Rattle.prefix_trie_joint.specs.Joined.{entries_of}
use Rattle.route_tables.specs.Lines.{lines, table_lines}
use Rattle.route_tables.proofs.LoadedTables.{LoadsTable, table_full, table_on, table_start}
use Rattle.route_tables.proofs.Loads.{loads_error, loads_memory}
use Rattle.route_tables.proofs.load.load_into.Goals as goal

pub loop-rest-init : goal.loop-rest-init
loop-rest-init c = record {
  few = search rules;
  loads =
      subst (λ rest. LoadsTable c.args.reading (table_lines c.args.text.now) (lines rest) 0 c.args.table.now c.args.table.now c.new-2.result.items c.new.result.items)
      (sym c.skip_mark-rest.ensures)
      (table_start c.args.reading (table_lines c.args.text.now) c.args.table.now c.new-2.result.items c.new.result.items c.new-2.ensures.items c.new.ensures.items);
}

pub loop-rest-preserved : goal.loop-rest-preserved
loop-rest-preserved c = record {
  few = omega (arith, c.split_line.ensures.shorter, c.loop-rest.invariant.few);
  loads =
      table_on c.args.reading (table_lines c.args.text.now) (lines c.loop-rest.rest.now) (lines c.split_line.result.1.now) c.split_line.result.0.now c.loop-rest.number
      c.args.table.now c.loop-rest.table c.add_line.new.table c.loop-rest.warnings.skipped.items c.add_line.new.warnings.skipped.items
      c.loop-rest.warnings.replaced.items c.add_line.new.warnings.replaced.items
      c.split_line.ensures.first c.in_ok-add_line.ensures.added c.in_ok-add_line.ensures.listed c.loop-rest.invariant.loads;
}

pub returns-in_err-add_line-clause-ends : goal.returns-in_err-add_line-clause-ends
returns-in_err-add_line-clause-ends c =
    let p = err_from_is_err_and c.from_residual.result c.from_residual.ensures.1 in
    rw (p.1, p.2)
    (loads_error c.args.reading (table_lines c.args.text.now) (lines c.loop-rest.rest.now) (lines c.split_line.result.1.now) c.split_line.result.0.now c.loop-rest.number
    (entries_of c.args.table.now) (entries_of c.loop-rest.table) (entries_of c.add_line.new.table) c.loop-rest.warnings.skipped.items c.in_err-add_line.field-0.0
    c.split_line.ensures.first c.in_err-add_line.ensures.ends c.loop-rest.invariant.loads.loads)

pub returns-in_err-add_line-clause-full : goal.returns-in_err-add_line-clause-full
returns-in_err-add_line-clause-full c =
    let p = err_from_is_err_and c.from_residual.result c.from_residual.ensures.1 in
    rw (p.1, p.2)
    (λ full. table_full c.args.reading (table_lines c.args.text.now) (lines c.loop-rest.rest.now) (lines c.split_line.result.1.now) c.split_line.result.0.now c.loop-rest.number
    c.args.table.now c.loop-rest.table c.loop-rest.warnings.skipped.items c.loop-rest.warnings.replaced.items
    c.split_line.ensures.first (c.in_err-add_line.ensures.full full) c.loop-rest.invariant.loads)

pub returns-in_err-add_line-clause-memory : goal.returns-in_err-add_line-clause-memory
returns-in_err-add_line-clause-memory c =
    let p = err_from_is_err_and c.from_residual.result c.from_residual.ensures.1 in
    rw (p.1, p.2)
    (λ memory. loads_memory c.args.reading (table_lines c.args.text.now) (lines c.loop-rest.rest.now) (lines c.split_line.result.1.now) c.split_line.result.0.now c.loop-rest.number
    (entries_of c.args.table.now) (entries_of c.loop-rest.table) c.loop-rest.warnings.skipped.items
    c.split_line.ensures.first (c.in_err-add_line.ensures.memory memory) c.loop-rest.invariant.loads.loads)
