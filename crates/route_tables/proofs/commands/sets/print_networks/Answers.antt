-- The line of each network is printed after those before.
use Rattle.std.proofs.Common.{◌<◌, ◌≤◌, arith, length, subst, sym}
use Rattle.std.specs.Io.KnownBytes.{Appends}
use Rattle.route_tables.specs.Printed.{network_line}
use Rattle.route_tables.proofs.Printing.{lines_end, lines_more, networks_lines}
use Rattle.route_tables.proofs.commands.sets.print_networks.Goals as goal

pub loop-network-preserved : goal.loop-network-preserved
loop-network-preserved g c = λ ip computes.
    let less : c.loop-network.network-index < length c.args.networks.now = omega arith in
    lines_more (λ network. network_line (ip network)) c.args.networks.now c.loop-network.network-index c.network-item.result less (sym c.network-item.is) c.args.out.now c.loop-network.out c.network.new.self
    (c.loop-network.invariant ip computes)
    (subst (λ network. Appends c.loop-network.out c.network.new.self (network_line network)) (computes _ _ c.into.ensures) c.in_ok-network.ensures)

pub returns : goal.returns
returns g c = λ ip computes.
    let all : length c.args.networks.now ≤ c.loop-network.network-index = omega arith in
    subst (Appends c.args.out.now c.loop-network.out) (networks_lines ip c.args.networks.now)
    (lines_end (λ network. network_line (ip network)) c.args.networks.now c.loop-network.network-index all c.args.out.now c.loop-network.out (c.loop-network.invariant ip computes))
