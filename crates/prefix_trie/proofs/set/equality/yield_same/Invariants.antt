-- The invariant of `yield_same`: the two walks compare as what is left of them.
use Rattle.prefix_trie.proofs.Prelude.{◌≡◌, pointwise, same_parts}
use Rattle.prefix_trie.proofs.set.equality.yield_same.Given as goal

abbrev pub invariant-loop-prefix : goal.invariant-loop-prefix
invariant-loop-prefix g l =
    (goal.iterator-loop-prefix g).can_next l.prefix-iterator
    × (goal.iterator-loop-prefix g).is_finite l.prefix-iterator
    × (pointwise (same_parts g.P.R.PartialEq.eq g.P.Prefix.repr_of g.P.Prefix.len_of) l.fn.left l.fn.right
    ≡ pointwise (same_parts g.P.R.PartialEq.eq g.P.Prefix.repr_of g.P.Prefix.len_of) l.prefix-iterator l.right)
