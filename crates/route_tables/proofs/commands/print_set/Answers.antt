-- The networks of both families are printed.
use Rattle.std.proofs.lemmas.Result.{on_ok_weaker}
use Rattle.route_tables.proofs.Printing.{prints_fewest}
use Rattle.route_tables.proofs.commands.print_set.Goals as goal

pub returns : goal.returns
returns g c =
    on_ok_weaker c.print_fewest_of-2.result
    (prints_fewest c.args.set.now.ipv4 c.args.set.now.ipv6 c.args.out.now c.print_fewest_of.new.out c.print_fewest_of-2.new.out c.in_ok-print_fewest_of.ensures) c.print_fewest_of-2.ensures
