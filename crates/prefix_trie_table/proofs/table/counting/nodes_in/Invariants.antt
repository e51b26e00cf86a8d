-- The invariant of `nodes_in`: the number is 1 plus the children of the slots so far, and each slot is read once.
use Rattle.prefix_trie_table.proofs.Prelude.{◌≡◌, ◌+◌, take, sum_by}
use Rattle.prefix_trie_table.proofs.Counts.NodeCounts.{child_count}
use Rattle.prefix_trie_table.proofs.table.counting.nodes_in.Given as goal

abbrev pub invariant-loop-slot : goal.invariant-loop-slot
invariant-loop-slot g l = (l.number ≡ 1 + sum_by child_count (take l.slot l.nodes.slots)) × (g.V.VisitCounter.count l.counter ≡ g.V.VisitCounter.count l.fn.counter + l.slot)
