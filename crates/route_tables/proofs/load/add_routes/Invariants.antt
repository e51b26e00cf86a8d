-- The invariant of `add_routes`: the routes of the networks so far are added, and the values that they replace are listed.
use Rattle.std.proofs.Common.{◌≡◌, ◌++◌, take}
use Rattle.prefix_trie_joint.specs.Changes.{maps_of}
use Rattle.prefix_trie_joint.specs.Joined.{entries_of}
use Rattle.route_tables.specs.Loads.{AddsSlots, with_routes}
use Rattle.route_tables.specs.Replaced.{replaced_by}
use Rattle.route_tables.specs.Routes.{routes_to}
use Rattle.route_tables.proofs.load.add_routes.Given as goal

abbrev pub invariant-loop-network : goal.invariant-loop-network
invariant-loop-network l = record {
  entries : entries_of l.table ≡ with_routes (take l.network-index (routes_to l.value l.networks)) (entries_of l.fn.table);
  replaced : l.replaced.items ≡ l.fn.replaced.items ++ replaced_by l.number (take l.network-index (routes_to l.value l.networks)) (entries_of l.fn.table);
  slots : AddsSlots l.network-index (maps_of l.fn.table) (maps_of l.table);
}
