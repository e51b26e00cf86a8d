-- The invariant of the loop: the prefixes still to come fit, and the new map is tidy.
use Rattle.prefix_trie_tests.proofs.Prelude.{All}
use Rattle.prefix_trie.specs.Terms.{IsTidy}
use Rattle.prefix_trie_tests.proofs.examples.pruning.without.Given as goal

abbrev pub invariant-loop-prefix : goal.invariant-loop-prefix
invariant-loop-prefix g l =
    (goal.iterator-loop-prefix g).can_next l.prefix-iterator
    × (goal.iterator-loop-prefix g).is_finite l.prefix-iterator
    × All (λ e. g.P.Prefix.IsFitting e.0) l.prefix-iterator
    × IsTidy l.map.entries l.map.nodes
