-- The invariant of the loop: inserting the items still to come leads to the map with all entries of both.
use Rattle.prefix_trie.specs.Terms.{Leads, put_all, prefix_pairs, listing}
use Rattle.prefix_trie_tests.proofs.examples.merge.merge.Given as goal

abbrev pub invariant-loop-prefix : goal.invariant-loop-prefix
invariant-loop-prefix g l =
    (goal.iterator-loop-prefix g).can_next l.prefix-iterator
    × (goal.iterator-loop-prefix g).is_finite l.prefix-iterator
    × Leads g.P.Prefix.path g.P.Prefix.IsFitting l.prefix-iterator l.to.entries (put_all g.P.Prefix.path (prefix_pairs g.P.Prefix.back (listing l.from.entries)) l.fn.to.entries)
