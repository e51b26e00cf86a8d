-- The invariant of the loop of `copied`: the entries copied so far and those still to come are the listing.
use Rattle.std.proofs.Common.{◌≡◌, ◌++◌}
use Rattle.prefix_trie.specs.Terms.{listing, prefix_pairs}
use Rattle.prefix_trie_ops.proofs.map.optimal.entries.copied.Given as goal

abbrev pub invariant-loop-prefix : goal.invariant-loop-prefix
invariant-loop-prefix g l =
    (goal.iterator-loop-prefix g).can_next l.prefix-iterator
    × (goal.iterator-loop-prefix g).is_finite l.prefix-iterator
    × (l.entries.items ++ l.prefix-iterator ≡ prefix_pairs g.P.Prefix.back (listing l.table.entries))
