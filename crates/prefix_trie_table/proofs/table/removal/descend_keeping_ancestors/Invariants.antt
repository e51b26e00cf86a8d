-- The invariant of the descent: the node is on the path, and `above` has the slots of its ancestors.
use Rattle.prefix_trie_table.proofs.Prelude.{◌≡◌, ℕ, ◌+◌, ◌-◌, ◌*◌, ◌≤◌, List, Option, length, drop, Node, node_sizes, chunks_of, NodesHold, IsAlong, AreAncestors}
use Rattle.prefix_trie_table.proofs.table.removal.descend_keeping_ancestors.Given as goal

abbrev pub invariant-loop-here : goal.invariant-loop-here
invariant-loop-here g l = record {
  along : IsAlong l.fn.path l.here l.nodes;
  rest_is : l.rest ≡ drop (5 * l.here.level) l.fn.path;
  short : length l.fn.path ≤ 128;
  long : length l.above.items ≡ l.here.level;
  slots : (reading : List ℕ → Option Node) (paths : List (List ℕ)) → NodesHold node_sizes reading paths l.nodes → AreAncestors reading (chunks_of l.fn.path) l.above.items l.here.level;
}

abbrev pub decreases-loop-here : goal.decreases-loop-here
decreases-loop-here g l = length l.fn.path + 5 - 5 * l.here.level
