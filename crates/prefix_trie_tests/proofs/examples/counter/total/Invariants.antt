-- The invariant of the loop: the total and the values still to come have the same sum as all values, modulo 2^64.
use Rattle.prefix_trie_tests.proofs.Prelude.{◌≡◌, ◌+◌, ◌%◌, ◌^◌, map, sum}
use Rattle.prefix_trie.specs.Terms.{listing}
use Rattle.prefix_trie_tests.proofs.examples.counter.total.Given as goal

abbrev pub invariant-loop-count : goal.invariant-loop-count
invariant-loop-count g l =
    (goal.iterator-loop-count g).can_next l.walk
    × (goal.iterator-loop-count g).is_finite l.walk
    × ((l.total + sum l.walk) % 2 ^ 64 ≡ sum (map (λ e. e.1) (listing l.counts.entries)) % 2 ^ 64)
