-- The sizes of a node's two blocks, and of the blocks that it needs to get one more child or value. This project's own.
use Rattle.std.specs.Prelude.{ℕ, Option, None, Some}
use Rattle.prefix_trie_bits.specs.Model.Blocks.{child_block_sizes, value_block_sizes}
use Rattle.prefix_trie_bits.specs.Model.Insertion.{block_needed}
use Rattle.prefix_trie_table.specs.declared.allocator.node.Node.{Node}
use Rattle.prefix_trie_bits.specs.Bitmaps.{rank}
use Rattle.prefix_trie_table.specs.Blocks.Cells.{node_sizes, cell_sizes}
use Rattle.prefix_trie_table.specs.Blocks.Store.{size_if_any, size_in}

-- the size of the block of a node's children, if it has children
abbrev pub child_block_size : Option Node → Option ℕ
child_block_size None = None
child_block_size (Some n) = size_if_any (rank n.child_bitmap 32) (size_in node_sizes n.child_tier)

-- the size of the block of a node's values, if it has values
abbrev pub value_block_size : Option Node → Option ℕ
value_block_size None = None
value_block_size (Some n) = size_if_any (rank n.value_bitmap 32) (size_in cell_sizes n.value_tier)

-- the size of the block that a node needs to get one more child; a missing node needs what a blank one needs
abbrev pub child_need : Option Node → Option ℕ
child_need None = block_needed child_block_sizes None 0
child_need (Some n) = block_needed child_block_sizes (child_block_size (Some n)) (rank n.child_bitmap 32)

-- the size of the block that a node needs to get one more value
abbrev pub value_need : Option Node → Option ℕ
value_need None = block_needed value_block_sizes None 0
value_need (Some n) = block_needed value_block_sizes (value_block_size (Some n)) (rank n.value_bitmap 32)
