-- Worked facts on storages to which no step leads, all from row 38's map as first filled. They are this project's own.
use Rattle.std.specs.Prelude.{◌≡◌, ℕ, List, [], ◌∷◌}
use Rattle.std.specs.FinMap.{empty}
use Rattle.prefix_trie_bits.specs.Model.Blocks.{Layout, KeepsBlocks, value_block_sizes, own_entries}
use Rattle.prefix_trie_bits.specs.Calls.Blocks.{NodesHaveBlocks}
use Rattle.prefix_trie_bits.specs.Model.Insertion.{value_block_needed, TakesBlocks}
use Rattle.prefix_trie_bits.specs.Model.Step.{State, Call, Insert, Remove, RemoveKeepTree, RemoveChildren, RetainAtLeast, Reply, Refused}
use Rattle.prefix_trie_bits.specs.declared.prefix.Refusal.{Refusal}
use Rattle.prefix_trie_bits.specs.declared.prefix.Refusal.TheVariants.{Memory, IndexRange}
use Rattle.prefix_trie_bits.specs.Model.Storage.{Storage, empty_storage, StepInStorage}
use Rattle.prefix_trie_facts.specs.Rows.Examples.{path_at, back_at, LeadsTo, sets}
use Rattle.prefix_trie_facts.specs.Facts.Blocks.{none_free, space_of}
use Rattle.prefix_trie_facts.specs.Facts.Insertions.{Blocks, sizes_at, layout_at, ones_free, three_slots}

-- the storage of a map of eight bits with a limit of 10, and with these numbers of slots for nodes and for values
abbrev pub storage_with : ℕ → ℕ → Layout → Storage
storage_with nodes cells layout = record { space = space_of 10 nodes cells; layout = layout }

-- the storage of row 38's map as first filled: a child block of one slot, and value blocks of two and of one
abbrev pub filled : Storage
filled = storage_with 2 3 three_slots

-- no step of the call leads from the map t, stored as the first storage, to the second storage
abbrev pub CannotLead : State ℕ → Storage → Call (ℕ × ℕ) ℕ → Storage → Type 0
CannotLead t before call after = (reply : Reply (ℕ × ℕ) ℕ) (u : State ℕ) → ¬ (StepInStorage (path_at 8) (back_at 8) 8 (t, before) call reply (u, after))

-- no step of the call leads from the map as first filled to this storage
abbrev pub CannotLeave : State ℕ → Call (ℕ × ℕ) ℕ → Storage → Type 0
CannotLeave t = CannotLead t filled

-- the insertion is not refused for this cause and with this storage afterwards
abbrev pub CannotRefuse : State ℕ → Storage → ℕ × ℕ → Refusal → Storage → Type 0
CannotRefuse t before q cause after = (u : State ℕ) → ¬ (StepInStorage (path_at 8) (back_at 8) 8 (t, before) (Insert q 5) (Refused cause) (u, after))

-- the value blocks after the key (64, 2) got those that it needs
abbrev pub Takes : State ℕ → Blocks → Type 0
Takes t blocks = TakesBlocks (value_block_needed t.entries three_slots.value_blocks (path_at 8 (64, 2))) three_slots.value_blocks (sizes_at 8 blocks)

-- free blocks: one of two slots, one of four, and one each of one and two
abbrev pub two_free : List ℕ
two_free = 0 ∷ 1 ∷ 0 ∷ 0 ∷ 0 ∷ 0 ∷ 0 ∷ []

abbrev pub four_free : List ℕ
four_free = 0 ∷ 0 ∷ 1 ∷ 0 ∷ 0 ∷ 0 ∷ 0 ∷ []

abbrev pub both_free : List ℕ
both_free = 1 ∷ 1 ∷ 0 ∷ 0 ∷ 0 ∷ 0 ∷ 0 ∷ []

-- the root's child block; its value block of this size beside that of (0, 5); the latter alone
abbrev pub root_child : Blocks
root_child = ((0, 0), 1) ∷ []

abbrev pub root_value : ℕ → Blocks
root_value size = ((0, 0), size) ∷ ((0, 5), 1) ∷ []

abbrev pub child_value : Blocks
child_value = ((0, 5), 1) ∷ []

-- The root's value block may step down from two to one, for which a block of one is made. The old block is not lost, no second block is
-- made, and no other block, no slot for nodes and no limit changes
pub record RemoveFacts (t : State ℕ) : Type 0 where
  pub not_lost : CannotLeave t (Remove (0, 1)) (storage_with 2 4 (layout_at 8 root_child (root_value 1) none_free none_free))
  pub not_by_two : CannotLeave t (Remove (0, 1)) (storage_with 2 5 (layout_at 8 root_child (root_value 1) none_free two_free))
  pub not_another : CannotLeave t (Remove (0, 1)) (storage_with 2 3 (layout_at 8 root_child (((0, 0), 2) ∷ ((0, 5), 2) ∷ []) none_free (ones_free 1)))
  pub not_elsewhere : CannotLeave t (Remove (0, 1)) (storage_with 2 3 (layout_at 8 root_child (((0, 0), 2) ∷ ((0, 5), 1) ∷ ((128, 5), 1) ∷ []) none_free none_free))
  pub not_nodes_longer : CannotLeave t (Remove (0, 1)) (storage_with 3 3 three_slots)
  pub not_made : CannotLeave t (Remove (0, 1)) (storage_with 2 3 (layout_at 8 root_child (root_value 2) none_free (ones_free 1)))
  pub not_child_made : CannotLeave t (Remove (0, 1)) (storage_with 2 3 (layout_at 8 root_child (root_value 2) (ones_free 1) none_free))
  pub not_children : CannotLeave t (Remove (0, 1)) (storage_with 4 3 (layout_at 8 (((0, 0), 2) ∷ []) (root_value 2) (ones_free 1) none_free))
  pub not_limit : CannotLeave t (Remove (0, 1)) (record { space = space_of 11 2 3; layout = three_slots })

-- a node that is removed leaves its value block and its parent's child block free
pub record PruneFacts (t : State ℕ) : Type 0 where
  pub not_with_values : CannotLeave t (Remove (0, 5)) (storage_with 2 3 (layout_at 8 [] (root_value 2) (ones_free 1) none_free))
  pub not_with_children : CannotLeave t (Remove (0, 5)) (storage_with 2 3 (layout_at 8 root_child (((0, 0), 2) ∷ []) none_free (ones_free 1)))
  pub not_lost : CannotLeave t (Remove (0, 5)) (storage_with 2 3 (layout_at 8 [] (((0, 0), 2) ∷ []) none_free (ones_free 1)))

-- `remove_keep_tree` does not change the array of nodes
pub record KeepTreeFacts (t : State ℕ) : Type 0 where
  pub not_children : CannotLeave t (RemoveKeepTree (0, 5)) (storage_with 2 3 (layout_at 8 (((0, 0), 1) ∷ ((0, 5), 1) ∷ []) (((0, 0), 2) ∷ []) none_free (ones_free 1)))
  pub not_freed : CannotLeave t (RemoveKeepTree (0, 5)) (storage_with 2 3 (layout_at 8 root_child (((0, 0), 2) ∷ []) (ones_free 1) (ones_free 1)))
  pub not_nodes_longer : CannotLeave t (RemoveKeepTree (0, 5)) (storage_with 3 3 (layout_at 8 root_child (((0, 0), 2) ∷ []) none_free (ones_free 1)))
  pub not_with_values : CannotLeave t (RemoveKeepTree (0, 5)) filled
  pub not_lost : CannotLeave t (RemoveKeepTree (0, 5)) (storage_with 2 3 (layout_at 8 root_child (((0, 0), 2) ∷ []) none_free none_free))

-- `retain` with the keys of five bits or more: the root's value block becomes free, and an array
-- keeps its length if none of its blocks changes
pub record RetainFacts (t : State ℕ) : Type 0 where
  pub not_with_values : CannotLeave t (RetainAtLeast 5) filled
  pub not_lost : CannotLeave t (RetainAtLeast 5) (storage_with 2 3 (layout_at 8 root_child child_value none_free none_free))
  pub not_children : CannotLeave t (RetainAtLeast 5) (storage_with 2 3 (layout_at 8 [] child_value (ones_free 1) two_free))
  pub not_elsewhere : CannotLeave t (RetainAtLeast 5) (storage_with 2 3 (layout_at 8 root_child (((0, 5), 1) ∷ ((128, 5), 1) ∷ []) none_free two_free))
  pub not_nodes_longer : CannotLeave t (RetainAtLeast 5) (storage_with 3 3 (layout_at 8 root_child child_value (ones_free 1) two_free))
  pub not_cells_shorter : CannotLeave t (RetainAtLeast 5) (storage_with 2 2 (layout_at 8 root_child child_value none_free two_free))
  pub not_nodes_shorter : CannotLeave t (RetainAtLeast 6) (storage_with 1 3 (layout_at 8 [] [] (ones_free 1) both_free))
  pub not_cells_longer : CannotLeave t (RetainAtLeast 0) (storage_with 2 4 (layout_at 8 root_child (root_value 2) none_free (ones_free 1)))

-- `drop_children` of (0, 5) removes its node, which frees that node's value block and the root's child block, and it shortens no array.
-- (128, 5) has no node, and then no array gets longer
pub record DropChildrenFacts (t : State ℕ) : Type 0 where
  pub not_lost : CannotLeave t (RemoveChildren (0, 5)) (storage_with 2 3 (layout_at 8 [] (((0, 0), 2) ∷ []) none_free (ones_free 1)))
  pub not_nodes_shorter : CannotLeave t (RemoveChildren (0, 5)) (storage_with 1 3 (layout_at 8 [] (((0, 0), 2) ∷ []) (ones_free 1) (ones_free 1)))
  pub not_cells_shorter : CannotLeave t (RemoveChildren (0, 5)) (storage_with 2 2 (layout_at 8 [] (((0, 0), 2) ∷ []) (ones_free 1) (ones_free 1)))
  pub not_nodes_longer : CannotLeave t (RemoveChildren (128, 5)) (storage_with 3 3 (layout_at 8 root_child (root_value 2) (ones_free 1) none_free))
  pub not_cells_longer : CannotLeave t (RemoveChildren (128, 5)) (storage_with 2 4 (layout_at 8 root_child (root_value 2) none_free (ones_free 1)))

-- For the root's third entry, (64, 2), a value block of four is missing; for (0, 6), one of two.
-- Each fact names what no insertion does.
-- It loses no block, and makes no child block if it needs none. It is not refused with `IndexRange`
-- if the limit leaves space, and not with `Memory` once the block is there. A refusal neither loses
-- blocks nor makes others than the missing ones.
pub record InsertFacts (t : State ℕ) : Type 0 where
  pub not_lost : CannotLeave t (Insert (64, 2) 5) (storage_with 2 7 (layout_at 8 root_child (root_value 4) none_free none_free))
  pub not_made : CannotLeave t (Insert (64, 2) 5) (storage_with 2 7 (layout_at 8 root_child (root_value 4) none_free both_free))
  pub not_child_made : CannotLeave t (Insert (64, 2) 5) (storage_with 2 7 (layout_at 8 root_child (root_value 4) (ones_free 1) two_free))
  pub not_child_lost : CannotLead t (storage_with 3 3 (layout_at 8 root_child (root_value 2) (ones_free 1) none_free)) (Insert (64, 2) 5)
      (storage_with 3 7 (layout_at 8 root_child (root_value 4) none_free two_free))
  pub not_refused_for_slots : CannotRefuse t filled (64, 2) IndexRange filled
  pub not_refused_cells_more : CannotRefuse t filled (0, 6) Memory (storage_with 2 6 three_slots)
  pub not_refused_once_made : CannotRefuse t filled (64, 2) Memory (storage_with 2 7 (layout_at 8 root_child (root_value 2) none_free four_free))
  pub not_refused_made : CannotRefuse t filled (64, 2) Memory (storage_with 2 3 (layout_at 8 root_child (root_value 2) none_free (ones_free 1)))
  pub not_refused_child_made : CannotRefuse t filled (64, 2) Memory (storage_with 2 3 (layout_at 8 root_child (root_value 2) (ones_free 1) none_free))
  pub not_refused_cells_fewer : CannotRefuse t filled (64, 2) Memory (storage_with 2 2 three_slots)
  pub not_refused_nodes_more : CannotRefuse t filled (64, 2) Memory (storage_with 3 3 three_slots)
  pub not_refused_nodes_fewer : CannotRefuse t filled (64, 2) Memory (storage_with 1 3 three_slots)
  pub not_refused_lost : CannotRefuse t (storage_with 2 5 (layout_at 8 root_child (root_value 2) none_free two_free)) (64, 2) Memory
      (storage_with 2 5 three_slots)
  pub not_refused_child_lost : CannotRefuse t (storage_with 3 3 (layout_at 8 root_child (root_value 2) (ones_free 1) none_free)) (64, 2) Memory (storage_with 3 3 three_slots)
  pub not_refused_beside_free : CannotRefuse t (storage_with 2 7 (layout_at 8 root_child (root_value 2) none_free four_free)) (64, 2) Memory
      (storage_with 2 7 (layout_at 8 root_child (root_value 2) none_free four_free))

-- the sizes of value blocks once the root has taken what its third entry needs: its block changes, and no other does
pub record TakenFacts (t : State ℕ) : Type 0 where
  pub taken : Takes t (root_value 4)
  pub not_as_before : ¬ (Takes t (root_value 2))
  pub not_of_eight : ¬ (Takes t (root_value 8))
  pub not_another : ¬ (Takes t (((0, 0), 4) ∷ ((0, 5), 2) ∷ []))

-- a block that is taken is not lost, in either array, whether it was free or not
pub record KeepsFacts : Type 0 where
  pub grown : KeepsBlocks three_slots (layout_at 8 root_child (root_value 4) none_free two_free)
  pub not_values_lost : ¬ (KeepsBlocks three_slots (layout_at 8 root_child (root_value 4) none_free none_free))
  pub not_children_lost : ¬ (KeepsBlocks three_slots (layout_at 8 (((0, 0), 2) ∷ []) (root_value 2) none_free none_free))
  pub not_free_lost : ¬ (KeepsBlocks (layout_at 8 [] [] none_free two_free) (layout_at 8 [] [] none_free none_free))

pub record FilledFacts (t : State ℕ) : Type 0 where
  pub remove : RemoveFacts t
  pub prune : PruneFacts t
  pub keep_tree : KeepTreeFacts t
  pub retain : RetainFacts t
  pub drop_children : DropChildrenFacts t
  pub insert : InsertFacts t
  pub takes : TakenFacts t
  -- each node has a block that holds its items, and no other string has one
  pub not_too_small : ¬ (NodesHaveBlocks value_block_sizes t.nodes (own_entries t.entries) (layout_at 8 [] (root_value 1) [] []).value_blocks)
  pub not_elsewhere : ¬ (NodesHaveBlocks value_block_sizes t.nodes (own_entries t.entries) (layout_at 8 [] (((0, 0), 2) ∷ ((0, 5), 1) ∷ ((128, 5), 1) ∷ []) [] []).value_blocks)

pub record StepsHold : Type 0 where
  -- the storage after everything is removed
  pub all_gone : empty_storage filled ≡ record {
    space = space_of 10 1 0;
    layout = record { child_blocks = empty; value_blocks = empty; free_child_blocks = none_free; free_value_blocks = none_free };
  }
  pub keeps : KeepsFacts
  pub filled_map : LeadsTo 8 (sets (((0, 1), 1) ∷ ((128, 1), 2) ∷ ((0, 5), 3) ∷ [])) FilledFacts
