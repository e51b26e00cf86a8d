-- The ranges of IPv4 and then those of IPv6 are printed.
use Rattle.std.proofs.lemmas.Result.{on_ok_weaker}
use Rattle.route_tables.proofs.Printing.{appends_both}
use Rattle.route_tables.proofs.commands.sets.print_ranges.Goals as goal

pub returns : goal.returns
returns g c = on_ok_weaker c.print_ipv6_ranges.result (appends_both _ _ _ _ _ c.in_ok-print_ipv4_ranges.ensures) c.print_ipv6_ranges.ensures
