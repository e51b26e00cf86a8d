-- Splitting off the entries whose keys begin with a bit string, as a second map. This project's
-- own.
use Rattle.std.specs.Prelude.{◌≡◌, ℕ, zero, suc, ◌+◌, ◌≤◌, Bool, true, false, List, Option, None, Some, sum_by}
use Rattle.std.specs.FinMap.{get, keys}
use Rattle.prefix_trie_bits.specs.Model.Blocks.{Sizes, no_layout, smallest_size, child_block_sizes, value_block_sizes, child_count, own_entries}
use Rattle.prefix_trie_bits.specs.Model.Entries.{Entries, without_below}
use Rattle.prefix_trie_bits.specs.Calls.Entries.{part_below}
use Rattle.prefix_trie_bits.specs.Model.Nodes.{Nodes, has_node, needed, nodes_without_below}
use Rattle.prefix_trie_bits.specs.Model.Step.{State, RemoveChildren, Done}
use Rattle.prefix_trie_bits.specs.Model.Storage.{Storage}
use Rattle.prefix_trie_bits.specs.Calls.Storage.{StepByPath}

module _ {T : Type 0} where
  -- the second map has the entries whose keys begin with q, and the nodes that they need; the first
  -- is left as after `drop_children`
  pub record SplitsOff (before : State T) (q : List Bool) (second after : State T) : Type 0 where
    pub split_off : second.entries ≡ part_below before.entries q
    pub split_nodes : second.nodes ≡ needed second.entries
    pub left : after.entries ≡ without_below before.entries q
    pub left_nodes : after.nodes ≡ nodes_without_below before.nodes before.entries q

-- the smallest size that holds a list of `count` items; None if the list is empty
abbrev pub packed_block : List ℕ → ℕ → Option ℕ
packed_block sizes zero = None
packed_block sizes (suc n) = smallest_size sizes (suc n)

-- the slots of such a block
abbrev pub packed_slots : List ℕ → ℕ → ℕ
packed_slots sizes count = elim (packed_block sizes count) as (λ _. ℕ) [
  | None ↦ 0
  | Some size ↦ size
]

-- the slots of such blocks for all nodes p, with `count p` items each
abbrev pub all_packed_slots : List ℕ → Nodes → (List Bool → ℕ) → ℕ
all_packed_slots sizes n count = sum_by (λ p. packed_slots sizes (count p)) (keys n)

-- each node p has a block of the smallest size that holds its `count p` items; only nodes have
-- blocks
pub record ArePacked (sizes : List ℕ) (n : Nodes) (count : List Bool → ℕ) (blocks : Sizes) : Type 0 where
  pub at_nodes : (p : List Bool) → has_node n p ≡ true → get blocks p ≡ packed_block sizes (count p)
  pub elsewhere : (p : List Bool) → has_node n p ≡ false → get blocks p ≡ None

-- the slots for nodes of a map whose blocks are all as small as they can be: one for the root, and
-- those of the child blocks
abbrev pub packed_node_slots : Nodes → ℕ
packed_node_slots n = 1 + all_packed_slots child_block_sizes n (child_count n)

module _ {T : Type 0} where
  -- the slots for values of such a map
  abbrev pub packed_cell_slots : Entries T → Nodes → ℕ
  packed_cell_slots m n = all_packed_slots value_block_sizes n (own_entries m)

  -- each block is the smallest that holds its list, and no block is free
  pub record IsPacked (s : State T) (storage : Storage) : Type 0 where
    pub child_blocks : ArePacked child_block_sizes s.nodes (child_count s.nodes) storage.layout.child_blocks
    pub value_blocks : ArePacked value_block_sizes s.nodes (own_entries s.entries) storage.layout.value_blocks
    pub no_child_block_free : storage.layout.free_child_blocks ≡ no_layout.free_child_blocks
    pub no_value_block_free : storage.layout.free_value_blocks ≡ no_layout.free_value_blocks
    pub node_slots : storage.space.node_slots ≡ packed_node_slots s.nodes
    pub cell_slots : storage.space.cell_slots ≡ packed_cell_slots s.entries s.nodes

  -- a split, with how both maps are stored
  -- The second map is packed and has the first map's limit, which it does not exceed. The first is
  -- left as after `drop_children`.
  pub record SplitsOffInStorage (before : State T × Storage) (q : List Bool) (second after : State T × Storage) : Type 0 where
    pub splits_off : SplitsOff before.0 q second.0 after.0
    pub packed : IsPacked second.0 second.1
    pub same_limit : second.1.space.limit ≡ before.1.space.limit
    pub nodes_within : second.1.space.node_slots ≤ second.1.space.limit
    pub cells_within : second.1.space.cell_slots ≤ second.1.space.limit
    pub drops : (width : ℕ) → StepByPath width before (RemoveChildren q) Done after
