-- The line of each entry is printed after those before.
use Rattle.std.proofs.Common.{◌<◌, ◌≤◌, arith, length, subst, sym}
use Rattle.std.specs.Io.KnownBytes.{Appends}
use Rattle.route_tables.specs.Printed.{route_line}
use Rattle.route_tables.proofs.Printing.{entries_lines, entry_line, lines_end, lines_more}
use Rattle.route_tables.proofs.commands.sets.print_entries.Goals as goal

pub loop-entry-preserved : goal.loop-entry-preserved
loop-entry-preserved g c = λ ip computes.
    let less : c.loop-entry.entry-index < length c.args.entries.now = omega arith in
    lines_more (entry_line ip) c.args.entries.now c.loop-entry.entry-index c.entry-item.result less (sym c.entry-item.is) c.args.out.now c.loop-entry.out c.route.new.self (c.loop-entry.invariant ip computes)
    (subst (λ network. Appends c.loop-entry.out c.route.new.self (route_line network c.entry-item.result.1.now)) (computes _ _ c.into.ensures) (rw c.as_str.ensures at c.in_ok-route.ensures))

pub returns : goal.returns
returns g c = λ ip computes.
    let all : length c.args.entries.now ≤ c.loop-entry.entry-index = omega arith in
    subst (Appends c.args.out.now c.loop-entry.out) (entries_lines ip c.args.entries.now)
    (lines_end (entry_line ip) c.args.entries.now c.loop-entry.entry-index all c.args.out.now c.loop-entry.out (c.loop-entry.invariant ip computes))
