-- The invariant of `load_into`: the routes of the lines so far are added, and the line number does not overflow.
use Rattle.std.proofs.Common.{◌+◌, ◌≤◌, length}
use Rattle.route_tables.specs.Lines.{lines, table_lines}
use Rattle.route_tables.proofs.LoadedTables.{LoadsTable}
use Rattle.route_tables.proofs.load.load_into.Given as goal

abbrev pub invariant-loop-rest : goal.invariant-loop-rest
invariant-loop-rest l = record {
  few : l.number + length l.rest ≤ length l.text;
  loads : LoadsTable l.reading (table_lines l.text) (lines l.rest) l.number l.fn.table l.table l.warnings.skipped.items l.warnings.replaced.items;
}

abbrev pub decreases-loop-rest : goal.decreases-loop-rest
decreases-loop-rest l = length l.rest
