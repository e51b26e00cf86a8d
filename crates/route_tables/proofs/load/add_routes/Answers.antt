-- The loop over networks: the routes of those so far are added.
use Rattle.std.proofs.Common.{◌≡◌, ◌+◌, ◌<◌, ◌≤◌, length, arith, refl, subst}
use Rattle.std.proofs.lemmas.Result.{err_from_is_err_and}
use Rattle.prefix_trie_joint.specs.Changes.{maps_of}
use Rattle.prefix_trie_joint.specs.Joined.{entries_of}
use Rattle.route_tables.specs.Loads.{AddsFirst, AddsSlots}
use Rattle.route_tables.specs.Routes.{routes_to}
use Rattle.route_tables.proofs.LoadedTables.{more_exceed, more_slots, one_replaced}
use Rattle.route_tables.proofs.NeededMemory.{some_may}
use Rattle.route_tables.proofs.Loads.{on_err, one_added, one_tried}
use Rattle.route_tables.proofs.load.add_routes.Goals as goal

pub returns-in_err-add_route-clause-some : goal.returns-in_err-add_route-clause-some
returns-in_err-add_route-clause-some c =
    let less : c.loop-network.network-index < length c.args.networks.now = omega arith in
    on_err c.from_residual.result (AddsFirst (routes_to c.args.value.now c.args.networks.now) (entries_of c.args.table.now) (entries_of c.add_route.new.table))
    (one_tried c.args.value.now c.args.networks.now c.loop-network.network-index c.network-item.result (entries_of c.args.table.now) (entries_of c.loop-network.table)
    (entries_of c.add_route.new.table) less c.network-item.is c.loop-network.invariant.entries c.in_err-add_route.ensures.some)

pub returns-in_err-add_route-clause-full : goal.returns-in_err-add_route-clause-full
returns-in_err-add_route-clause-full c =
    let p = err_from_is_err_and c.from_residual.result c.from_residual.ensures.1 in
    let within : c.loop-network.network-index + 1 ≤ length c.args.networks.now = omega arith in
    rw (p.1, p.2)
    (λ full. more_exceed c.args.table.now c.loop-network.table c.loop-network.table c.loop-network.network-index 1 (length c.args.networks.now) within
    c.loop-network.invariant.slots (c.in_err-add_route.ensures.full full))

pub loop-network-preserved : goal.loop-network-preserved
loop-network-preserved c =
    let less : c.loop-network.network-index < length c.args.networks.now = omega arith in
    let next = c.in_ok-add_route.ensures in record {
      entries =
          one_added c.args.value.now c.args.networks.now c.loop-network.network-index c.network-item.result (entries_of c.args.table.now) (entries_of c.loop-network.table)
          (entries_of c.add_route.new.table) less c.network-item.is c.loop-network.invariant.entries next.added;
      replaced =
          one_replaced c.args.number c.args.value.now c.args.networks.now c.loop-network.network-index c.network-item.result (entries_of c.args.table.now)
          (entries_of c.loop-network.table) c.args.replaced.now.items c.loop-network.replaced.items c.add_route.new.replaced.items less c.network-item.is
          c.loop-network.invariant.entries c.loop-network.invariant.replaced next.replaced;
      slots =
          more_slots c.args.table.now c.loop-network.table c.add_route.new.table c.loop-network.network-index 1 (c.loop-network.network-index + 1) refl
          c.loop-network.invariant.slots next.slots;
    }

pub returns-clause-slots : goal.returns-clause-slots
returns-clause-slots c =
    let all : c.loop-network.network-index ≡ length c.args.networks.now = omega arith in
    subst (λ n. AddsSlots n (maps_of c.args.table.now) (maps_of c.loop-network.table)) all c.loop-network.invariant.slots

pub returns-in_err-add_route-clause-memory : goal.returns-in_err-add_route-clause-memory
returns-in_err-add_route-clause-memory c =
    let p = err_from_is_err_and c.from_residual.result c.from_residual.ensures.1 in
    let less : c.loop-network.network-index < length c.args.networks.now = omega arith in
    rw (p.1, p.2)
    (λ memory. some_may c.args.value.now c.args.networks.now c.loop-network.network-index c.network-item.result (entries_of c.args.table.now) (entries_of c.loop-network.table)
    less c.network-item.is c.loop-network.invariant.entries (c.in_err-add_route.ensures.memory memory))
