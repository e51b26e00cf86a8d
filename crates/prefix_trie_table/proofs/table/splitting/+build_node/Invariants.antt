-- The invariant of the loop over children: the subtrees of the children so far are built, and their nodes are in `below`.
use Rattle.prefix_trie_table.specs.Blocks.NodeArrays.{FitsByte}
use Rattle.prefix_trie_table.proofs.Prelude.{◌<◌, All, IsSubtree}
use Rattle.prefix_trie_table.proofs.table.splitting.+build_node.Given as goal

abbrev pub decreases-build_node : goal.decreases-build_node
decreases-build_node g l = l.levels

abbrev pub invariant-loop-child : goal.invariant-loop-child
invariant-loop-child g l =
    record {
      subtree : IsSubtree l.fn.from.slots l.fn.levels l.fn.node l.fn.rest l.fn.nodes l.fn.cells l.child l.built l.below.items l.nodes l.cells;
      fit : All FitsByte l.below.items;
      tier : l.built.value_tier < 8;
    }
