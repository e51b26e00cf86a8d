-- The loop over networks: the addresses of those so far are added.
use Rattle.std.proofs.Common.{◌∙◌, ◌<◌, length, subst, arith}
use Rattle.std.proofs.lemmas.List.{length-map, take_all}
use Rattle.route_tables.specs.AddressLists.{Covers}
use Rattle.route_tables.specs.Loads.{with_routes}
use Rattle.route_tables.specs.Routes.{Route, routes_to}
use Rattle.route_tables.proofs.Reading.ReadLists.{covers_one}
use Rattle.route_tables.proofs.address_list.AddressList.add_networks.Goals as goal

pub loop-network-preserved : goal.loop-network-preserved
loop-network-preserved c =
    let less : c.loop-network.network-index < length c.args.networks.now = omega arith in record {
      covers = λ m value old.
          covers_one value c.args.networks.now c.loop-network.network-index c.network-item.result m c.loop-network.self c.add_network.new.self less c.network-item.is
          (c.loop-network.invariant.covers m value old) c.in_ok-add_network.ensures.covers;
      values = c.in_ok-add_network.ensures.values ∙ c.loop-network.invariant.values;
    }

pub returns-clause-covers : goal.returns-clause-covers
returns-clause-covers c m value old =
    let l = length-map {B = Route} c.args.networks.now (λ network. (network, value)) in
    let end = c.loop-network-test.false in
    subst (λ routes. Covers (with_routes routes m) c.loop-network.self)
    (take_all c.loop-network.network-index (routes_to value c.args.networks.now) (omega (arith, l, end))) (c.loop-network.invariant.covers m value old)
