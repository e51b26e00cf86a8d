-- What is kept of both families is printed.
use Rattle.route_tables.proofs.CheckSteps.{on_ok}
use Rattle.route_tables.proofs.commands.tables.minimise.Goals as goal

pub returns-clause-ipv4 : goal.returns-clause-ipv4
returns-clause-ipv4 g c = on_ok c.list.result _ (record {
  same = c.in_ok-remove_redundant.ensures.same;
  least = c.in_ok-remove_redundant.ensures.least;
  part = c.in_ok-remove_redundant.ensures.part;
})

pub returns-clause-ipv6 : goal.returns-clause-ipv6
returns-clause-ipv6 g c = on_ok c.list.result _ (record {
  same = c.in_ok-remove_redundant-2.ensures.same;
  least = c.in_ok-remove_redundant-2.ensures.least;
  part = c.in_ok-remove_redundant-2.ensures.part;
})
