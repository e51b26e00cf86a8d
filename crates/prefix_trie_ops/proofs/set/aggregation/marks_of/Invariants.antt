-- The invariant of `marks_of`: the remembered prefix is the shortest cover of the last key, and the marks so far are right.
use Rattle.std.proofs.Common.{All, IfSome}
use Rattle.prefix_trie_ops.proofs.Uppermost.{Uppermost}
use Rattle.prefix_trie_ops.proofs.set.aggregation.marks_of.Given as goal

abbrev pub invariant-loop-prefix : goal.invariant-loop-prefix
invariant-loop-prefix g l =
    (goal.iterator-loop-prefix g).can_next l.prefix-iterator
    × (goal.iterator-loop-prefix g).is_finite l.prefix-iterator
    × Uppermost g.P.Prefix.path g.P.Prefix.back l.set.entries l.prefix-iterator l.uppermost l.marks.items
    × IfSome l.uppermost g.P.Prefix.IsFitting
    × All g.P.Prefix.IsFitting l.prefix-iterator
