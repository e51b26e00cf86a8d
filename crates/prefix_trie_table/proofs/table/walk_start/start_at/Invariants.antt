-- The invariant of `start_at`: the spots so far have what is selected outside of the path's next node.
use Rattle.prefix_trie_table.proofs.Prelude.{◌≡◌, ◌+◌, ◌-◌, drop, length}
use Rattle.prefix_trie_table.proofs.Walk.StartStacks.{IsBuilt}
use Rattle.prefix_trie_table.proofs.table.walk_start.start_at.Given as goal

abbrev pub invariant-loop-depth : goal.invariant-loop-depth
invariant-loop-depth g l =
    record {
      built : IsBuilt g.K.Key.bit_width l.nodes (g.K.Key.bits l.fn.key) l.fn.path l.from g.row.T.Denot l.depth l.node l.stack.items;
      rest_is : l.rest ≡ drop l.depth l.fn.path;
      left : length l.rest + l.depth ≡ l.len;
    }

abbrev pub decreases-loop-depth : goal.decreases-loop-depth
decreases-loop-depth g l = l.len + 5 - l.depth
