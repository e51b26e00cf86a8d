-- The text of the network and the byte after it are printed one after another.
use Rattle.route_tables.proofs.Printing.{appends_then}
use Rattle.route_tables.proofs.commands.text.print_network.Goals as goal

pub returns : goal.returns
returns g c = appends_then _ _ _ _ _ c.in_ok-write.ensures.bytes _ c.write_all.ensures.bytes
