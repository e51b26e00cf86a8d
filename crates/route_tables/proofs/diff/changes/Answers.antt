-- The items of the union that differ are the changes, and each is a key at which the two tables differ.
use Rattle.std.proofs.Common.{◌∙◌, ◌++◌, ap, append-nil, filter, map, sym}
use Rattle.prefix_trie_ops.specs.Merging.{lent_side}
use Rattle.route_tables.specs.Changes.{differ}
use Rattle.route_tables.proofs.Changes.{changes_are, changes_none, changes_shown}
use Rattle.route_tables.proofs.diff.changes.Goals as goal

pub loop-network-init : goal.loop-network-init
loop-network-init g c =
    let walk = changes_shown g.P.Prefix.back c.args.old.now.entries c.args.new.now.entries c.into_iter-network-iterator.result
    (c.into_iter-network-iterator.ensures.into_iter_gives ∙ c.union-network-items.ensures.items) in
    (tt, tt, rw c.new-changes.ensures.items walk)

pub returns-clause-exact : goal.returns-clause-exact
returns-clause-exact g c = λ s values. changes_are c.combining_laws.ensures c.listing_laws.ensures c.args.old.now.entries c.args.new.now.entries s values

pub returns-clause-none : goal.returns-clause-none
returns-clause-none g c =
    let items = map lent_side c.loop-network.changes.items in
    let none = ap (λ walk. items ++ filter (λ e. differ e.1) walk) (sym c.in-None.ensures.steps.0) in
    changes_none g.P.Prefix.back lent_side c.combining_laws.ensures c.listing_laws.ensures c.args.old.now.entries c.args.new.now.entries c.loop-network.changes.items
    (sym (append-nil items) ∙ none ∙ c.loop-network.invariant.2)
