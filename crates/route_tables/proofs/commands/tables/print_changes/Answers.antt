-- The line of each change is printed after those before.
use Rattle.std.proofs.Common.{◌<◌, ◌≤◌, arith, length, subst, sym}
use Rattle.std.specs.Io.KnownBytes.{Appends}
use Rattle.prefix_trie_ops.specs.Merging.{lent_values}
use Rattle.route_tables.specs.Printed.{change_line}
use Rattle.route_tables.proofs.Printing.{difference_line, differences_lines, lines_end, lines_more}
use Rattle.route_tables.proofs.commands.tables.print_changes.Goals as goal

pub loop-entry-preserved : goal.loop-entry-preserved
loop-entry-preserved g c = λ ip computes.
    let less : c.loop-entry.entry-index < length c.args.changes.now = omega arith in
    lines_more (difference_line ip) c.args.changes.now c.loop-entry.entry-index c.entry-item.result less (sym c.entry-item.is) c.args.out.now c.loop-entry.out c.change.new.self (c.loop-entry.invariant ip computes)
    (subst (λ network. Appends c.loop-entry.out c.change.new.self (change_line network (lent_values c.entry-item.result.1))) (computes _ _ c.into.ensures) c.in_ok-change.ensures)

pub returns : goal.returns
returns g c = λ ip computes.
    let all : length c.args.changes.now ≤ c.loop-entry.entry-index = omega arith in
    subst (Appends c.args.out.now c.loop-entry.out) (differences_lines ip c.args.changes.now)
    (lines_end (difference_line ip) c.args.changes.now c.loop-entry.entry-index all c.args.out.now c.loop-entry.out (c.loop-entry.invariant ip computes))
