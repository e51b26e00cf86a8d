-- The blocks that the insertion of a new key needs, and those of them that are missing. This
-- project's own.
use Rattle.std.specs.Prelude.{◌≡◌, ◌⊎◌, ◌<◌, ◌≤◌, ℕ, ◌+◌, ◌-◌, ◌*◌, Bool, cond, not, ◌&&◌, ◌==◌, List, [], ◌∷◌, Option, None, Some, length, take, filter, filter_map, nat_lt, option_to_list}
use Rattle.std.specs.Option.{option_or}
use Rattle.std.specs.FinMap.{get}
use Rattle.prefix_trie_bits.specs.Model.Bits.{begins}
use Rattle.prefix_trie_bits.specs.Model.Order.{same_string}
use Rattle.prefix_trie_bits.specs.Model.Entries.{Entries}
use Rattle.prefix_trie_bits.specs.Model.Nodes.{Nodes, has_node, is_node_depth, nodes_above, home}
use Rattle.prefix_trie_bits.specs.Model.Space.{Space}
use Rattle.prefix_trie_bits.specs.Model.Blocks.{Sizes, Layout, free_of, smallest_size, child_block_sizes, value_block_sizes, child_count, own_entries}

-- the size of the block that a list of `count` items needs before it grows by one, given the size
-- of the block that it has
-- None if its block has a free slot, else the smallest size that holds the longer list.
abbrev pub block_needed : List ℕ → Option ℕ → ℕ → Option ℕ
block_needed sizes None count = smallest_size sizes (count + 1)
block_needed sizes (Some size) count = cond (nat_lt count size) None (smallest_size sizes (count + 1))

-- whether the node p gets a new child when q is inserted
-- This is so if p is on the search path of q, above q's own node, and the next node on the path is
-- missing. The node p may itself be missing; then it has no child and no block before.
abbrev pub gains_child : Nodes → List Bool → List Bool → Bool
gains_child n q p =
    (is_node_depth p && begins p q) && (nat_lt (length p) (length (home q)) && not (has_node n (take (length p + 5) q)))

-- the size of the block that the insertion of q needs for the children of p, if any
abbrev pub child_block_needed : Nodes → Sizes → List Bool → List Bool → Option ℕ
child_block_needed n blocks q p = cond (gains_child n q p) (block_needed child_block_sizes (get blocks p) (child_count n p)) None

module _ {T : Type 0} where
  -- the size of the block that it needs for the values of p, if any
  abbrev pub value_block_needed : Entries T → Sizes → List Bool → List Bool → Option ℕ
  value_block_needed m blocks q p = cond (same_string p (home q)) (block_needed value_block_sizes (get blocks p) (own_entries m p)) None

-- the slots of the needed blocks that are not free
abbrev pub slots_of_missing : List ℕ → List ℕ → List ℕ → ℕ
slots_of_missing [] free needed = 0
slots_of_missing (size ∷ sizes) [] needed = size * length (filter (λ s. s == size) needed) + slots_of_missing sizes [] needed
slots_of_missing (size ∷ sizes) (f ∷ free) needed = size * (length (filter (λ s. s == size) needed) - f) + slots_of_missing sizes free needed

-- the sizes of the child blocks that the insertion of q needs
abbrev pub child_blocks_needed : Nodes → Layout → List Bool → List ℕ
child_blocks_needed n layout q = filter_map (child_block_needed n layout.child_blocks q) (nodes_above q)

-- the number of slots for nodes that are missing for the insertion of q
abbrev pub missing_node_slots : Nodes → Layout → List Bool → ℕ
missing_node_slots n layout q = slots_of_missing child_block_sizes layout.free_child_blocks (child_blocks_needed n layout q)

module _ {T : Type 0} where
  -- the size of the value block that the insertion of q needs, if any
  abbrev pub value_blocks_needed : Entries T → Layout → List Bool → List ℕ
  value_blocks_needed m layout q = option_to_list (value_block_needed m layout.value_blocks q (home q))

  -- the number of slots for values that are missing for the insertion of q
  abbrev pub missing_cell_slots : Entries T → Layout → List Bool → ℕ
  missing_cell_slots m layout q = slots_of_missing value_block_sizes layout.free_value_blocks (value_blocks_needed m layout q)

-- the number of needed blocks of one size that are not free
abbrev pub missing_of : List ℕ → List ℕ → List ℕ → ℕ → ℕ
missing_of sizes free needed size = length (filter (λ s. s == size) needed) - free_of sizes free size

-- the number of child blocks of a size that are missing for the insertion of q
abbrev pub missing_child_blocks : Nodes → Layout → List Bool → ℕ → ℕ
missing_child_blocks n layout q = missing_of child_block_sizes layout.free_child_blocks (child_blocks_needed n layout q)

module _ {T : Type 0} where
  -- the number of value blocks of a size that are missing for the insertion of q
  abbrev pub missing_value_blocks : Entries T → Layout → List Bool → ℕ → ℕ
  missing_value_blocks m layout q = missing_of value_block_sizes layout.free_value_blocks (value_blocks_needed m layout q)

-- each list that needed a block has one of the needed size, and the others keep theirs
abbrev pub TakesBlocks : (List Bool → Option ℕ) → Sizes → Sizes → Type 0
TakesBlocks needed before after = (p : List Bool) → get after p ≡ option_or (needed p) (get before p)

module _ {T : Type 0} where
  -- the missing blocks for the insertion of q would exceed the slot limit of one of the arrays
  abbrev pub PassesLimit : Entries T → Nodes → Space → Layout → List Bool → Type 0
  PassesLimit m n space layout q =
      (space.limit < space.node_slots + missing_node_slots n layout q) ⊎ (space.limit < space.cell_slots + missing_cell_slots m layout q)

  -- at least one of the missing blocks would fit under the limit of its array
  abbrev pub MissingFitsLimit : Entries T → Nodes → Space → Layout → List Bool → Type 0
  MissingFitsLimit m n space layout q =
      ((size : ℕ) × (0 < missing_child_blocks n layout q size) × (space.node_slots + size ≤ space.limit))
      ⊎ ((size : ℕ) × (0 < missing_value_blocks m layout q size) × (space.cell_slots + size ≤ space.limit))
