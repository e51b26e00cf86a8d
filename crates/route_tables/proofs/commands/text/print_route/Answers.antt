-- The network, its value and the end of the line are printed one after another.
use Rattle.std.proofs.Common.{◌∙◌, sym}
use Rattle.route_tables.proofs.Printing.{route_printed}
use Rattle.route_tables.proofs.commands.text.print_route.Goals as goal

pub returns-in_ok-write_all : goal.returns-in_ok-write_all
returns-in_ok-write_all g c =
    route_printed c.args.network.now c.args.value.now c.as_bytes.result.now (sym c.is_empty.ensures ∙ c.if-is_empty.false) c.as_bytes.ensures.value _ _ _ _
    c.in_ok-print_network.ensures c.in_ok-write_all.ensures.bytes _ c.write_all-else-is_empty.ensures.bytes
