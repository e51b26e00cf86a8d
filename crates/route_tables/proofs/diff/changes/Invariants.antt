-- The invariant of `changes`: the changes so far, with the changes at the networks still to come, are all changes.
use Rattle.std.proofs.Common.{◌≡◌, ◌++◌, filter, map}
use Rattle.prefix_trie.specs.Terms.{prefix_pairs}
use Rattle.prefix_trie_ops.specs.Merging.{lent_side}
use Rattle.route_tables.specs.Changes.{changes_of, differ}
use Rattle.route_tables.proofs.diff.changes.Given as goal

abbrev pub invariant-loop-network : goal.invariant-loop-network
invariant-loop-network g l =
    (goal.iterator-loop-network g).can_next l.network-iterator
    × (goal.iterator-loop-network g).is_finite l.network-iterator
    × (map lent_side l.changes.items ++ filter (λ e. differ e.1) l.network-iterator ≡ prefix_pairs g.P.Prefix.back (changes_of l.old.entries l.new.entries))
