-- The invariant of `advance`: the stack still has the same entries to come, and its spots are on the path of the key.
use Rattle.prefix_trie_table.proofs.Prelude.{◌≡◌, sum_by, Tree, ArePassed, IsStack, pending, weight, IsTrie}
use Rattle.prefix_trie_table.proofs.table.walk.advance.Given as goal

abbrev pub invariant-loop-stack : goal.invariant-loop-stack
invariant-loop-stack g l =
    record {
      stack : IsStack g.K.Key.bit_width l.nodes.slots (g.K.Key.bits l.key) l.stack.items;
      same : (t : Tree g.row.T.Denot) → IsTrie g.K.Key.bit_width t.count l.nodes t.cells t.shape → pending t.shape.entries (g.K.Key.bits l.key) l.stack.items ≡ pending t.shape.entries (g.K.Key.bits l.fn.key) l.fn.stack.items;
      passed : ArePassed (g.K.Key.bits l.fn.key) l.fn.stack.items → ArePassed (g.K.Key.bits l.key) l.stack.items;
    }

abbrev pub decreases-loop-stack : goal.decreases-loop-stack
decreases-loop-stack g l = sum_by weight l.stack.items
