-- The mark and the line of the network and its value are printed one after another.
use Rattle.route_tables.proofs.Printing.{appends_then}
use Rattle.route_tables.proofs.commands.printer.print_change.Goals as goal

pub returns-in_ok-write_all-in-Left : goal.returns-in_ok-write_all-in-Left
returns-in_ok-write_all-in-Left g c =
    rw c.in-Left.is (appends_then _ _ _ _ _ c.in_ok-write_all-in-Left.ensures.bytes _ (rw c.as_str.ensures at c.print_route.ensures))

pub returns-in_ok-write_all-in-Right : goal.returns-in_ok-write_all-in-Right
returns-in_ok-write_all-in-Right g c =
    rw c.in-Right.is (appends_then _ _ _ _ _ c.in_ok-write_all-in-Right.ensures.bytes _ (rw c.as_str-in-Right.ensures at c.print_route-in-Right.ensures))
