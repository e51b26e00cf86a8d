-- The invariant of the loop: adding the counts still to come leads to the sums of both maps.
use Rattle.prefix_trie_tests.proofs.Prelude.{◌+◌, ◌%◌, ◌^◌, Joins}
use Rattle.prefix_trie.specs.Terms.{join_all, listing, prefix_pairs}
use Rattle.prefix_trie_tests.proofs.examples.counter.add_all.Given as goal

abbrev pub invariant-loop-prefix : goal.invariant-loop-prefix
invariant-loop-prefix g l =
    (goal.iterator-loop-prefix g).can_next l.prefix-iterator
    × (goal.iterator-loop-prefix g).is_finite l.prefix-iterator
    × Joins (λ m n. (m + n) % 2 ^ 64) g.P.Prefix.path g.P.Prefix.IsFitting l.prefix-iterator l.counts.entries
    (join_all (λ m n. (m + n) % 2 ^ 64) g.P.Prefix.path (prefix_pairs g.P.Prefix.back (listing l.more.entries)) l.fn.counts.entries)
