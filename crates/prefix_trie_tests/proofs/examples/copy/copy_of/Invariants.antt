-- The invariant of the loop: inserting the items still to come leads to all entries of the source.
use Rattle.prefix_trie.specs.Terms.{Leads}
use Rattle.prefix_trie_tests.proofs.examples.copy.copy_of.Given as goal

abbrev pub invariant-loop-prefix : goal.invariant-loop-prefix
invariant-loop-prefix g l =
    (goal.iterator-loop-prefix g).can_next l.prefix-iterator
    × (goal.iterator-loop-prefix g).is_finite l.prefix-iterator
    × Leads g.P.Prefix.path g.P.Prefix.IsFitting l.prefix-iterator l.to.entries l.from.entries
