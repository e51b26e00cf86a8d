-- The invariant of `marks_of`: the chain has the covers of the last entry read, and the marks so far are right.
use Rattle.std.proofs.Common.{All, map}
use Rattle.prefix_trie.specs.Terms.{lent_item}
use Rattle.prefix_trie_ops.specs.Values.{IsChain}
use Rattle.prefix_trie_ops.proofs.PrefixStacks.{Walks}
use Rattle.prefix_trie_ops.proofs.map.aggregation.marks_of.Given as goal

abbrev pub invariant-loop-prefix : goal.invariant-loop-prefix
invariant-loop-prefix g l =
    (goal.iterator-loop-prefix g).can_next l.prefix-iterator
    × (goal.iterator-loop-prefix g).is_finite l.prefix-iterator
    × Walks g.P.Prefix.path g.P.Prefix.back g.T.PartialEq.eq l.table.entries l.prefix-iterator (map lent_item l.above.items) l.marks.items
    × IsChain g.P.Prefix.path l.above.items
    × All (λ e. g.P.Prefix.IsFitting e.0) l.above.items
    × All (λ e. g.P.Prefix.IsFitting e.0) l.prefix-iterator
