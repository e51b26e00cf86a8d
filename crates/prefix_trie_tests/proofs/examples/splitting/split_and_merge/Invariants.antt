-- The invariant of the loop: inserting the items still to come leads to the table as it was.
use Rattle.prefix_trie.specs.Terms.{Leads}
use Rattle.prefix_trie_tests.proofs.examples.splitting.split_and_merge.Given as goal

abbrev pub invariant-loop-key : goal.invariant-loop-key
invariant-loop-key g l =
    (goal.iterator-loop-key g).can_next l.key-iterator
    × (goal.iterator-loop-key g).is_finite l.key-iterator
    × Leads g.P.Prefix.path g.P.Prefix.IsFitting l.key-iterator l.table.entries l.fn.table.entries
