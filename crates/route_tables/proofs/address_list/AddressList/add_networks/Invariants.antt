-- The invariant of `add_networks`: the addresses of the networks so far are added.
use Rattle.std.proofs.Common.{◌≡◌, ℕ, List, take}
use Rattle.route_tables.specs.AddressLists.{Covers}
use Rattle.route_tables.specs.Loads.{with_routes}
use Rattle.route_tables.specs.Routes.{routes_to}
use Rattle.route_tables.specs.Tables.{Values}
use Rattle.route_tables.proofs.address_list.AddressList.add_networks.Given as goal

abbrev pub invariant-loop-network : goal.invariant-loop-network
invariant-loop-network l = record {
  covers : (m : Values) (value : List ℕ) → Covers m l.fn.self → Covers (with_routes (take l.network-index (routes_to value l.networks)) m) l.self;
  values : l.self.has_values ≡ l.fn.self.has_values;
}
