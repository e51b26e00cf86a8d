-- Nodes in their array, and the sizes of the blocks of nodes and of values. This project's own.
use Rattle.std.specs.Prelude.{◌≡◌, ◌⊎◌, ℕ, List, slice_index_or}
use Rattle.prefix_trie_bits.specs.Model.Blocks.{child_block_sizes, value_block_sizes}
use Rattle.prefix_trie_table.specs.Blocks.Store.{Tier, tier_sizes}
use Rattle.prefix_trie_table.specs.declared.allocator.node.Node.{Node}
use Rattle.prefix_trie_table.specs.declared.allocator.node.SizeClasses.{SizeClasses}

-- a node without values and children
abbrev pub blank_node : Node
blank_node = record { value_bitmap = 0; child_bitmap = 0; value_block = 0; child_block = 0; value_tier = 0; child_tier = 0 }

-- the node without the sizes of its blocks, which a walk does not use
abbrev pub without_sizes : Node → Node
without_sizes n = record n { value_tier = 0; child_tier = 0 }

-- the size classes of a node's blocks
abbrev pub size_classes : Node → SizeClasses
size_classes n = record { value_tier = n.value_tier; child_tier = n.child_tier }

-- the node in a slot of the array
abbrev pub node_at : List Node → ℕ → Node
node_at nodes slot = slice_index_or nodes slot blank_node

-- the sizes of blocks in the array of nodes
abbrev pub node_sizes : List ℕ
node_sizes = child_block_sizes

-- the sizes of blocks in the array of values
abbrev pub cell_sizes : List ℕ
cell_sizes = value_block_sizes

-- the tiers are those of nodes or those of values
unfoldable pub HasSizes : List Tier → Type 0
HasSizes ts = (tier_sizes ts ≡ cell_sizes) ⊎ (tier_sizes ts ≡ node_sizes)
