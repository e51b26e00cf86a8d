-- The invariant of the loop: inserting the items still to come, each preferred, gives the map that inserting all gives.
use Rattle.std.proofs.Common.{◌≡◌, All, map}
use Rattle.prefix_trie.specs.Terms.{listing, no_entries, put_all, prefix_pairs}
use Rattle.prefix_trie_ops.specs.Merging.{union_of}
use Rattle.prefix_trie_ops_tests.proofs.Preferring.{preferred_item}
use Rattle.prefix_trie_ops_tests.proofs.examples.preference.preferring.Given as goal

abbrev pub invariant-loop-prefix : goal.invariant-loop-prefix
invariant-loop-prefix g l =
    (goal.iterator-loop-prefix g).can_next l.prefix-iterator
    × (goal.iterator-loop-prefix g).is_finite l.prefix-iterator
    × All (λ e. g.P.Prefix.IsFitting e.0) l.prefix-iterator
    × (put_all g.P.Prefix.path (map preferred_item l.prefix-iterator) l.table.entries ≡ put_all g.P.Prefix.path (map preferred_item (prefix_pairs g.P.Prefix.back (listing (union_of l.first.entries l.second.entries)))) no_entries)
