-- The network, the old value, the arrow and the new value are printed one after another.
use Rattle.route_tables.proofs.Printing.{appends_both, appends_then}
use Rattle.route_tables.proofs.commands.printer.print_changed.Goals as goal

pub returns : goal.returns
returns g c =
    let old = appends_both _ _ _ _ _ c.in_ok-write.ensures.bytes c.in_ok-print_spaced.ensures in
    let arrow = appends_both _ _ _ _ _ old c.in_ok-write_all.ensures.bytes in
    appends_then _ _ _ _ _ (appends_both _ _ _ _ _ arrow c.in_ok-print_spaced-2.ensures) _ c.write_all-2.ensures.bytes
