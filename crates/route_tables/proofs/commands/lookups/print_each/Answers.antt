-- The line of each network is printed after those before.
use Rattle.route_tables.proofs.Lookups.{found_more, found_start}
use Rattle.route_tables.proofs.commands.lookups.print_each.Goals as goal

pub loop-network-init : goal.loop-network-init
loop-network-init g c = found_start c.args.question.now c.args.out.now

pub loop-network-preserved : goal.loop-network-preserved
loop-network-preserved g c =
    found_more c.args.question.now c.loop-network.yielded (c.in-Some.network, c.in-Some.value) c.loop-network.is_any c.args.out.now c.loop-network.out c.answer.new.self c.loop-network.invariant c.in_ok-answer.ensures
