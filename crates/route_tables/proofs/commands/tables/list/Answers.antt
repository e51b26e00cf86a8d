-- Each network of the walk is printed with its value.
use Rattle.std.proofs.Common.{ap}
use Rattle.route_tables.specs.Printed.{route_line, routes_text}
use Rattle.route_tables.proofs.Printing.{so_far_end, so_far_more, so_far_start}
use Rattle.route_tables.proofs.commands.tables.list.Goals as goal

pub loop-network-init : goal.loop-network-init
loop-network-init g c = (tt, tt, so_far_start c.args.out.now _ _ (ap routes_text (c.into_iter-network-iterator.ensures.into_iter_gives.0)))

pub loop-network-preserved : goal.loop-network-preserved
loop-network-preserved g c = (
  tt,
  tt,
  so_far_more c.args.out.now c.loop-network.out c.route.new.self (route_line c.in-Some.network c.in-Some.value.now) (routes_text c.next.new.self) (routes_text c.loop-network.network-iterator) _
      (ap routes_text c.in-Some.ensures.steps) (rw c.as_str.ensures at c.in_ok-route.ensures) c.loop-network.invariant.2,
)

pub returns : goal.returns
returns g c = so_far_end c.args.out.now c.loop-network.out (routes_text c.loop-network.network-iterator) _ (ap routes_text c.in-None.ensures.steps.0) c.loop-network.invariant.2
