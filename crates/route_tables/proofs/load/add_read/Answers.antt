-- The networks of a route are those of the slice.
use Rattle.std.proofs.Common.{◌≡◌, IfErr, OnOk, length, subst}
use Rattle.prefix_trie_bits.specs.declared.prefix.Refusal.TheVariants.{IndexRange, Memory}
use Rattle.prefix_trie_joint.specs.Changes.{maps_of}
use Rattle.prefix_trie_joint.specs.Joined.{entries_of}
use Rattle.route_tables.specs.Allocations.{SomeMayAllocate}
use Rattle.route_tables.specs.Loads.{AddsSlots, MayExceed}
use Rattle.route_tables.proofs.load.add_read.Goals as goal

pub returns-clause-slots : goal.returns-clause-slots
returns-clause-slots c =
    subst (λ networks. OnOk c.add_routes.result (AddsSlots (length networks) (maps_of c.args.table.now) (maps_of c.add_routes.new.table))) c.as_slice.ensures c.add_routes.ensures.slots

pub returns-clause-full : goal.returns-clause-full
returns-clause-full c =
    subst (λ networks. IfErr c.add_routes.result (λ cause. cause ≡ IndexRange → MayExceed (length networks) (maps_of c.args.table.now))) c.as_slice.ensures c.add_routes.ensures.full

pub returns-clause-memory : goal.returns-clause-memory
returns-clause-memory c =
    subst (λ networks. IfErr c.add_routes.result (λ cause. cause ≡ Memory → SomeMayAllocate (entries_of c.args.table.now) networks c.args.route.1.now)) c.as_slice.ensures c.add_routes.ensures.memory
