-- Worked facts on blocks, growth and space, and for each an example that the definition excludes.
-- They are this project's own.
use Rattle.std.specs.Prelude.{◌≡◌, ℕ, List, [], ◌∷◌, map, Option, Some, None}
use Rattle.prefix_trie_bits.specs.Model.Blocks.{value_block_sizes, child_block_sizes, free_of, StepsDown, StepsBetween, LongerByOne}
use Rattle.prefix_trie_bits.specs.Calls.Blocks.{HasBlock, Tiles, AreBlocksOf, Block}
use Rattle.prefix_trie_bits.specs.Model.Insertion.{block_needed, slots_of_missing}
use Rattle.prefix_trie_bits.specs.Model.Space.{Space, MayPassLimit, LeavesSpace}

-- no free block of any size, and one free block of each size except the largest
abbrev pub none_free : List ℕ
none_free = 0 ∷ 0 ∷ 0 ∷ 0 ∷ 0 ∷ 0 ∷ 0 ∷ []

abbrev pub six_free : List ℕ
six_free = 1 ∷ 1 ∷ 1 ∷ 1 ∷ 1 ∷ 1 ∷ 0 ∷ []

-- a list of three items has a block of four slots or a larger one
pub record HasBlockFacts : Type 0 where
  pub three_in_four : HasBlock value_block_sizes 3 (Some 4)
  pub three_in_larger : HasBlock value_block_sizes 3 (Some 24)
  pub none_in_none : HasBlock value_block_sizes 0 None
  pub not_in_two : ¬ (HasBlock value_block_sizes 3 (Some 2))
  pub not_in_three : ¬ (HasBlock value_block_sizes 3 (Some 3))
  pub not_in_none : ¬ (HasBlock value_block_sizes 3 None)
  pub not_none_in_one : ¬ (HasBlock value_block_sizes 0 (Some 1))

-- the block that a list needs for one more item: row 14's root at each size, a block with a free slot, row 17's last
-- insertion, and row 15's root with 24 children
pub record BlockNeededFacts : Type 0 where
  pub in_turn : map (λ (e : Option ℕ × ℕ). block_needed value_block_sizes e.0 e.1)
      ((None, 0) ∷ (Some 1, 1) ∷ (Some 2, 2) ∷ (Some 4, 4) ∷ (Some 8, 8) ∷ (Some 16, 16) ∷ (Some 24, 24) ∷ [])
      ≡ Some 1 ∷ Some 2 ∷ Some 4 ∷ Some 8 ∷ Some 16 ∷ Some 24 ∷ Some 31 ∷ []
  pub with_space : block_needed value_block_sizes (Some 4) 3 ≡ None
  pub children : block_needed child_block_sizes (Some 24) 24 ≡ Some 32
  -- two blocks of one slot and one of two are needed: with none free, with one of one slot free, and with more free
  -- than needed
  pub lacking : map (λ free. slots_of_missing child_block_sizes free (1 ∷ 2 ∷ 1 ∷ []))
      (none_free ∷ (1 ∷ 0 ∷ 0 ∷ 0 ∷ 0 ∷ 0 ∷ 0 ∷ []) ∷ (3 ∷ 2 ∷ 0 ∷ 0 ∷ 0 ∷ 0 ∷ 0 ∷ []) ∷ []) ≡ 4 ∷ 3 ∷ 0 ∷ []
  pub free : map (free_of child_block_sizes (3 ∷ 1 ∷ 4 ∷ 1 ∷ 5 ∷ 9 ∷ 2 ∷ [])) (1 ∷ 8 ∷ 24 ∷ 32 ∷ 31 ∷ []) ≡ 3 ∷ 1 ∷ 9 ∷ 2 ∷ 0 ∷ []

-- a block of 31 slots whose list shrinks from 25 to 24 items, as in row 17: it must step down if a block of 24 is
-- free, and may stay otherwise
pub record StepsDownFacts : Type 0 where
  pub onto_free : StepsDown value_block_sizes six_free 25 24 (Some 31) (Some 24)
  pub onto_new : StepsDown value_block_sizes none_free 25 24 (Some 31) (Some 24)
  pub may_stay : StepsDown value_block_sizes none_free 25 24 (Some 31) (Some 31)
  pub gone : StepsDown value_block_sizes none_free 1 0 (Some 1) None
  pub not_stays : ¬ (StepsDown value_block_sizes six_free 25 24 (Some 31) (Some 31))
  pub not_other_size : ¬ (StepsDown value_block_sizes none_free 24 16 (Some 31) (Some 24))
  pub not_unasked : ¬ (StepsDown value_block_sizes six_free 24 24 (Some 31) (Some 24))
  pub not_left_over : ¬ (StepsDown value_block_sizes none_free 1 0 (Some 1) (Some 1))
  pub not_more : ¬ (StepsDown value_block_sizes none_free 1 2 (Some 1) (Some 2))

-- a block of 31 slots whose list shrinks to nine items in several removals: it has 31, 24 or 16 slots then
pub record StepsBetweenFacts : Type 0 where
  pub stays : StepsBetween value_block_sizes 31 9 (Some 31) (Some 31)
  pub half_way : StepsBetween value_block_sizes 31 9 (Some 31) (Some 24)
  pub smallest : StepsBetween value_block_sizes 31 9 (Some 31) (Some 16)
  pub not_of_20 : ¬ (StepsBetween value_block_sizes 31 9 (Some 31) (Some 20))
  pub not_too_small : ¬ (StepsBetween value_block_sizes 31 9 (Some 31) (Some 8))
  pub not_larger : ¬ (StepsBetween value_block_sizes 16 9 (Some 16) (Some 24))
  pub not_without : ¬ (StepsBetween value_block_sizes 31 9 (Some 31) None)
  pub not_left_over : ¬ (StepsBetween value_block_sizes 31 0 (Some 31) (Some 1))
  pub not_unasked : ¬ (StepsBetween value_block_sizes 9 9 (Some 31) (Some 16))
  pub not_more_items : ¬ (StepsBetween value_block_sizes 9 10 (Some 16) (Some 16))

-- an array of 86 slots in which a block of 31 stepped down to one of 24
pub record LongerByOneFacts : Type 0 where
  pub as_long : LongerByOne value_block_sizes six_free (Some 31) (Some 24) 86 86
  pub longer : LongerByOne value_block_sizes none_free (Some 31) (Some 24) 86 110
  pub not_beside_free : ¬ (LongerByOne value_block_sizes six_free (Some 31) (Some 24) 86 110)
  pub not_unmoved : ¬ (LongerByOne value_block_sizes none_free (Some 24) (Some 24) 86 110)
  pub not_without_block : ¬ (LongerByOne value_block_sizes none_free (Some 24) None 86 110)
  pub not_by_two : ¬ (LongerByOne value_block_sizes none_free (Some 31) (Some 24) 86 134)
  pub not_shorter : ¬ (LongerByOne value_block_sizes none_free (Some 31) (Some 24) 86 55)

abbrev pub space_of : ℕ → ℕ → ℕ → Space
space_of limit nodes cells = record { limit = limit; node_slots = nodes; cell_slots = cells }

-- a call may lengthen the arrays of a map with one node by 56 slots each, up to a limit of 100
pub record SpaceFacts : Type 0 where
  pub longest : LeavesSpace 1 (space_of 100 1 0) (space_of 100 57 56)
  pub up_to_limit : LeavesSpace 1 (space_of 100 60 60) (space_of 100 100 100)
  pub not_another_limit : ¬ (LeavesSpace 1 (space_of 100 1 0) (space_of 101 1 0))
  pub not_nodes_past_limit : ¬ (LeavesSpace 1 (space_of 100 60 0) (space_of 100 101 0))
  pub not_cells_past_limit : ¬ (LeavesSpace 1 (space_of 100 1 60) (space_of 100 1 101))
  pub not_57_for_nodes : ¬ (LeavesSpace 1 (space_of 100 1 0) (space_of 100 58 0))
  pub not_57_for_cells : ¬ (LeavesSpace 1 (space_of 100 1 0) (space_of 100 1 57))
  -- the most slots that an insertion may need exceed the limit for nodes, for values, and for neither
  pub by_nodes : MayPassLimit (space_of 100 45 0)
  pub by_cells : MayPassLimit (space_of 100 1 70)
  pub by_neither : ¬ (MayPassLimit (space_of 100 44 69))

-- the block of a size that starts at a slot
abbrev pub at_slot : ℕ → ℕ → Block
at_slot start size = record { start = start; size = size }

-- blocks that tile an array of nodes, blocks that do not, and used blocks that leave a slot without an owner or give
-- it two
pub record TilesFacts : Type 0 where
  pub tiled : Tiles child_block_sizes 1 (at_slot 1 2 ∷ at_slot 3 1 ∷ []) 4
  pub not_with_gap : ¬ (Tiles child_block_sizes 1 (at_slot 1 2 ∷ at_slot 4 1 ∷ []) 5)
  pub not_overlapping : ¬ (Tiles child_block_sizes 1 (at_slot 1 2 ∷ at_slot 2 1 ∷ []) 3)
  pub not_of_31 : ¬ (Tiles child_block_sizes 1 (at_slot 1 31 ∷ []) 32)
  pub not_short_of_end : ¬ (Tiles child_block_sizes 1 (at_slot 1 2 ∷ []) 4)
  pub not_without_owner : ¬ (AreBlocksOf child_block_sizes 1 (at_slot 1 2 ∷ []) [] 4)
  pub not_with_two : ¬ (AreBlocksOf child_block_sizes 1 (at_slot 1 2 ∷ []) (at_slot 1 2 ∷ []) 3)

pub record BlocksHold : Type 0 where
  pub has : HasBlockFacts
  pub needed : BlockNeededFacts
  pub down : StepsDownFacts
  pub between : StepsBetweenFacts
  pub longer : LongerByOneFacts
  pub space : SpaceFacts
  pub tiles : TilesFacts
