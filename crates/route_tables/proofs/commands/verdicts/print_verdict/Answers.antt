-- The prefix, the origin and the state are printed one after another.
use Rattle.route_tables.proofs.PrintedVerdicts.{verdict_printed}
use Rattle.route_tables.proofs.commands.verdicts.print_verdict.Goals as goal

pub returns : goal.returns
returns g c = verdict_printed c.args.route.now c.args.validity _ _ _ _ c.in_ok-print_network.ensures c.in_ok-print_origin.ensures c.print_state.result c.print_state.ensures
