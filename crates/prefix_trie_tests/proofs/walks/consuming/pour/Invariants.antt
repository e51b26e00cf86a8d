-- The invariant of the loop: inserting the items that the consumed map still gives leads to the map with all of them.
use Rattle.prefix_trie_tests.proofs.Prelude.{put_all, listing, prefix_pairs, Leads}
use Rattle.prefix_trie_tests.proofs.walks.consuming.pour.Given as goal

abbrev pub invariant-loop-prefix : goal.invariant-loop-prefix
invariant-loop-prefix g l =
    (goal.iterator-loop-prefix g).can_next l.prefix-iterator
    × (goal.iterator-loop-prefix g).is_finite l.prefix-iterator
    × Leads g.P.Prefix.path g.P.Prefix.IsFitting l.prefix-iterator l.to.entries (put_all g.P.Prefix.path (prefix_pairs g.P.Prefix.back (listing l.fn.from.entries)) l.fn.to.entries)
