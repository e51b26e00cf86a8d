-- The invariant of the loop: no value of the listing so far is less, so those still to come decide.
use Rattle.prefix_trie_tests.proofs.Prelude.{◌≡◌, nat_le, list_all, listing, prefix_pairs}
use Rattle.prefix_trie_tests.proofs.walks.iter.none_below.Given as goal

abbrev pub invariant-loop-value : goal.invariant-loop-value
invariant-loop-value g l =
    (goal.iterator-loop-value g).can_next l.value-iterator
    × (goal.iterator-loop-value g).is_finite l.value-iterator
    × (list_all (λ e. nat_le l.least e.1) l.value-iterator
    ≡ list_all (λ e. nat_le l.least e.1) (prefix_pairs g.P.Prefix.back (listing l.m.entries)))
