-- The invariant of `advance_both`: the stack still has the same entries to come, and its spots are on the path of the key.
use Rattle.prefix_trie_table.proofs.Prelude.{◌≡◌, sum_by, Entries}
use Rattle.prefix_trie_table.specs.Walking.Combined.{IsCombined, IsCombinedStack, combined_pending, combined_weight}
use Rattle.prefix_trie_table.proofs.table.combined.advance_both.Given as goal

abbrev pub invariant-loop-combination : goal.invariant-loop-combination
invariant-loop-combination g l =
    record {
      stack : IsCombinedStack g.K.Key.bit_width l.left.slots l.right.slots l.combination (g.K.Key.bits l.key) l.stack.items;
      same : (both : Entries g.row.X.Denot) → IsCombined l.combination l.left.slots l.right.slots both → combined_pending both (g.K.Key.bits l.key) l.stack.items ≡ combined_pending both (g.K.Key.bits l.fn.key) l.fn.stack.items;
    }

abbrev pub decreases-loop-combination : goal.decreases-loop-combination
decreases-loop-combination g l = sum_by combined_weight l.stack.items
