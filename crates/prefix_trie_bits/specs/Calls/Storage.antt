-- The blocks of a map, the storage after the blocks for a new key were made, and steps by bit
-- strings. This project's own.
use Rattle.std.specs.Prelude.{◌≡◌, ℕ, ◌+◌, Bool, List}
use Rattle.prefix_trie_bits.specs.Model.Blocks.{Layout, MakesBlocks, child_block_count, value_block_count, value_block_sizes, child_block_sizes, own_entries, child_count}
use Rattle.prefix_trie_bits.specs.Calls.Blocks.{NodesHaveBlocks}
use Rattle.prefix_trie_bits.specs.Model.Insertion.{missing_node_slots, missing_cell_slots, missing_child_blocks, missing_value_blocks}
use Rattle.prefix_trie_bits.specs.Model.Step.{State, Call, Reply}
use Rattle.prefix_trie_bits.specs.Model.Storage.{StepInStorage, Storage}

module _ {T : Type 0} where
  -- each node has a block for its children and a block for its values, or none if there are none;
  -- only nodes have blocks
  pub record HaveBlocks (s : State T) (layout : Layout) : Type 0 where
    pub child_blocks : NodesHaveBlocks child_block_sizes s.nodes (child_count s.nodes) layout.child_blocks
    pub value_blocks : NodesHaveBlocks value_block_sizes s.nodes (own_entries s.entries) layout.value_blocks

  -- how making the missing blocks for the new key q changes the storage, if q is not inserted yet:
  -- the used blocks stay
  pub record PreparesInStorage (s : State T) (q : List Bool) (before after : Storage) : Type 0 where
    pub node_slots : after.space.node_slots ≡ before.space.node_slots + missing_node_slots s.nodes before.layout q
    pub cell_slots : after.space.cell_slots ≡ before.space.cell_slots + missing_cell_slots s.entries before.layout q
    pub child_blocks : after.layout.child_blocks ≡ before.layout.child_blocks
    pub value_blocks : after.layout.value_blocks ≡ before.layout.value_blocks
    pub child_blocks_made : MakesBlocks child_block_sizes (missing_child_blocks s.nodes before.layout q) (child_block_count before.layout) (child_block_count after.layout)
    pub value_blocks_made : MakesBlocks value_block_sizes (missing_value_blocks s.entries before.layout q) (value_block_count before.layout) (value_block_count after.layout)

  -- a step by bit strings: the calls and replies have bit strings for prefixes
  abbrev pub StepByPath : ℕ → State T × Storage → Call (List Bool) T → Reply (List Bool) T → State T × Storage → Type 0
  StepByPath = StepInStorage (λ q. q) (λ q. q)
