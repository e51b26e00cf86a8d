-- An array of nodes that is kept as two: what contracts see of it. This project's own.
use Rattle.std.specs.Prelude.{◌≡◌, ℕ, ◌/◌, ◌%◌, ◌<◌, ◌⊎◌, List, [], ◌∷◌}
use Rattle.std.proofs.Common.{lit<}
use Rattle.prefix_trie_table.specs.Blocks.Cells.{blank_node}
use Rattle.prefix_trie_table.specs.declared.allocator.node.Node.{Node}
use Rattle.prefix_trie_table.specs.declared.allocator.node_array.Head.{Head}

-- the nodes, and the capacity of each of the two vectors that hold their parts
pub record NodeList : Type 0 where
  pub list : List Node
  pub capacities : List ℕ

-- a node from its two parts: the second has the index of the size of its value block, plus 8 times
-- that of its child block
abbrev pub node_of : Head → ℕ → Node
node_of h n = record { value_bitmap = h.value_bitmap; child_bitmap = h.child_bitmap; value_block = h.value_block; child_block = h.child_block; value_tier = n % 8; child_tier = n / 8 }

-- the nodes of two arrays of their parts
abbrev pub nodes_of : List Head → List ℕ → List Node
nodes_of [] ns = []
nodes_of (h ∷ hs) [] = []
nodes_of (h ∷ hs) (n ∷ ns) = node_of h n ∷ nodes_of hs ns

-- both size indices of the node fit into one byte; there are seven sizes, so this holds for each node
pub record FitsByte (n : Node) : Type 0 where
  pub value_tier : n.value_tier < 8
  pub child_tier : n.child_tier < 32

pub blank_fits : FitsByte blank_node
blank_fits = record { value_tier = lit< tt; child_tier = lit< tt }

-- each size index fits, or is the same as in the node that is replaced
pub record FitsOver (old new : Node) : Type 0 where
  pub value_tier : (new.value_tier < 8) ⊎ (new.value_tier ≡ old.value_tier)
  pub child_tier : (new.child_tier < 32) ⊎ (new.child_tier ≡ old.child_tier)
