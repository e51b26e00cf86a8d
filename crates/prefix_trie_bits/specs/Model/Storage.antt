-- How a map is stored, steps that see the storage, and runs of such steps. This project's own.
use Rattle.std.specs.Prelude.{◌≡◌, ℕ, ◌+◌, ◌≤◌, ◌<◌, Bool, true, false, Option, List, length}
use Rattle.std.specs.FinMap.{get, contains_key, len}
use Rattle.prefix_trie_bits.specs.Model.Blocks.{Layout, no_layout, KeepsBlocks, MakesBlocks, MakesAtMost, made_of, child_block_count, value_block_count, SizesStepDown, SizesStepBetween, LongerByOne, value_block_sizes, child_block_sizes, own_entries, child_count}
use Rattle.prefix_trie_bits.specs.Model.Insertion.{PassesLimit, MissingFitsLimit, TakesBlocks, missing_node_slots, missing_cell_slots, missing_child_blocks, missing_value_blocks, child_block_needed, value_block_needed}
use Rattle.prefix_trie_bits.specs.Model.Nodes.{home}
use Rattle.prefix_trie_bits.specs.Model.Space.{Space, MayPassLimit, LeavesSpace}
use Rattle.prefix_trie_bits.specs.Model.Step.{State, Call, Insert, Remove, RemoveKeepTree, RemoveChildren, RetainAtLeast, Clear, Reply, Value, Refused, Refusal, Memory, IndexRange, Step, Runs}

-- how a map is stored: the slots of its two arrays, and how they are cut into blocks
pub record Storage : Type 0 where
  pub space : Space
  pub layout : Layout

-- the storage of a cleared map: the same limit, a slot for the root, no blocks
abbrev pub empty_storage : Storage → Storage
empty_storage s = record { space = record { limit = s.space.limit; node_slots = 1; cell_slots = 0 }; layout = no_layout }

module _ {T : Type 0} where
  -- how the insertion of the new key q changes the storage
  -- Each list that needed a block has it, and the others keep theirs. Of each size exactly the
  -- missing blocks were made, and the arrays grow by their slots. No block is lost: a block that a
  -- list leaves becomes free.
  pub record InsertsInStorage (s : State T) (q : List Bool) (before after : Storage) : Type 0 where
    pub node_slots : after.space.node_slots ≡ before.space.node_slots + missing_node_slots s.nodes before.layout q
    pub cell_slots : after.space.cell_slots ≡ before.space.cell_slots + missing_cell_slots s.entries before.layout q
    pub child_blocks : TakesBlocks (child_block_needed s.nodes before.layout.child_blocks q) before.layout.child_blocks after.layout.child_blocks
    pub value_blocks : TakesBlocks (value_block_needed s.entries before.layout.value_blocks q) before.layout.value_blocks after.layout.value_blocks
    pub child_blocks_made : MakesBlocks child_block_sizes (missing_child_blocks s.nodes before.layout q) (child_block_count before.layout) (child_block_count after.layout)
    pub value_blocks_made : MakesBlocks value_block_sizes (missing_value_blocks s.entries before.layout q) (value_block_count before.layout) (value_block_count after.layout)

  -- when the insertion of the new key q is refused, and how that changes the storage
  -- It is refused only if a block is missing: with `IndexRange` only if the missing blocks would
  -- exceed the limit, and with `Memory` only if one that is still missing would fit. The used
  -- blocks stay. Of each size at most the missing blocks were made, and these are free.
  pub record RefusesInStorage (s : State T) (q : List Bool) (cause : Refusal) (before after : Storage) : Type 0 where
    pub some_missing : 0 < missing_node_slots s.nodes before.layout q + missing_cell_slots s.entries before.layout q
    pub range : cause ≡ IndexRange → PassesLimit s.entries s.nodes before.space before.layout q
    pub memory : cause ≡ Memory → MissingFitsLimit s.entries s.nodes after.space after.layout q
    pub node_slots : (before.space.node_slots ≤ after.space.node_slots)
        × (after.space.node_slots ≤ before.space.node_slots + missing_node_slots s.nodes before.layout q)
    pub cell_slots : (before.space.cell_slots ≤ after.space.cell_slots)
        × (after.space.cell_slots ≤ before.space.cell_slots + missing_cell_slots s.entries before.layout q)
    pub child_blocks : after.layout.child_blocks ≡ before.layout.child_blocks
    pub value_blocks : after.layout.value_blocks ≡ before.layout.value_blocks
    pub child_blocks_made : MakesAtMost child_block_sizes (missing_child_blocks s.nodes before.layout q) (child_block_count before.layout) (child_block_count after.layout)
    pub value_blocks_made : MakesAtMost value_block_sizes (missing_value_blocks s.entries before.layout q) (value_block_count before.layout) (value_block_count after.layout)

  -- how removing the value of q changes the array of values
  -- The block that held it steps down. The array grows by at most the new block, and only if no
  -- block of its size was free.
  pub record RemovesValueInStorage (s t : State T) (q : List Bool) (before after : Storage) : Type 0 where
    pub value_blocks : SizesStepDown value_block_sizes before.layout.free_value_blocks s.nodes (own_entries s.entries) (own_entries t.entries)
        before.layout.value_blocks after.layout.value_blocks
    pub cells_longer : LongerByOne value_block_sizes before.layout.free_value_blocks
        (get before.layout.value_blocks (home q)) (get after.layout.value_blocks (home q)) before.space.cell_slots after.space.cell_slots
    pub value_blocks_made : MakesBlocks value_block_sizes (made_of value_block_sizes before.layout.free_value_blocks
        (get before.layout.value_blocks (home q)) (get after.layout.value_blocks (home q))) (value_block_count before.layout) (value_block_count after.layout)

  -- how pruning changes the array of nodes
  -- The block that lost a child steps down. It may take a block that a node under it has just
  -- freed.
  pub record PrunesInStorage (s t : State T) (before after : Storage) : Type 0 where
    pub child_blocks : SizesStepDown child_block_sizes before.layout.free_child_blocks s.nodes (child_count s.nodes) (child_count t.nodes)
        before.layout.child_blocks after.layout.child_blocks
    pub nodes_longer : (p : List Bool) × LongerByOne child_block_sizes before.layout.free_child_blocks
        (get before.layout.child_blocks p) (get after.layout.child_blocks p) before.space.node_slots after.space.node_slots
        × MakesAtMost child_block_sizes (made_of child_block_sizes before.layout.free_child_blocks
        (get before.layout.child_blocks p) (get after.layout.child_blocks p)) (child_block_count before.layout) (child_block_count after.layout)

  -- how removing many entries changes the storage
  -- Each block that lost items has a size between its old one and the smallest that holds the rest.
  -- No slot and no block is lost, and an array of which no block changed keeps its length.
  pub record RemovesManyInStorage (s t : State T) (before after : Storage) : Type 0 where
    pub value_blocks : SizesStepBetween value_block_sizes s.nodes (own_entries s.entries) (own_entries t.entries)
        before.layout.value_blocks after.layout.value_blocks
    pub child_blocks : SizesStepBetween child_block_sizes s.nodes (child_count s.nodes) (child_count t.nodes)
        before.layout.child_blocks after.layout.child_blocks
    pub node_slots : before.space.node_slots ≤ after.space.node_slots
    pub cell_slots : before.space.cell_slots ≤ after.space.cell_slots
    pub nodes_still : after.layout.child_blocks ≡ before.layout.child_blocks → after.space.node_slots ≡ before.space.node_slots
    pub cells_still : after.layout.value_blocks ≡ before.layout.value_blocks → after.space.cell_slots ≡ before.space.cell_slots
    pub keeps : KeepsBlocks before.layout after.layout

module _ {P T : Type 0} (path : P → List Bool) where
  -- how a call changes the storage, beside its step from s to t; a call that changes neither
  -- entries nor nodes leaves it unchanged
  abbrev pub LeavesStorage : State T → Call P T → Reply P T → State T → Storage → Storage → Type 0
  LeavesStorage s (Insert q v) reply t before after =
      (contains_key s.entries (path q) ≡ true → after ≡ before)
      × ((old : Option T) → contains_key s.entries (path q) ≡ false → reply ≡ Value old → InsertsInStorage s (path q) before after)
      × ((cause : Refusal) → reply ≡ Refused cause → RefusesInStorage s (path q) cause before after)
  LeavesStorage s (Remove q) reply t before after =
      RemovesValueInStorage s t (path q) before after × PrunesInStorage s t before after
  LeavesStorage s (RemoveKeepTree q) reply t before after =
      RemovesValueInStorage s t (path q) before after × (after.space.node_slots ≡ before.space.node_slots)
      × (after.layout.child_blocks ≡ before.layout.child_blocks) × (after.layout.free_child_blocks ≡ before.layout.free_child_blocks)
  LeavesStorage s (RemoveChildren q) reply t before after =
      (length (path q) ≡ 0 → after ≡ empty_storage before) × (0 < length (path q) → RemovesManyInStorage s t before after)
  LeavesStorage s (RetainAtLeast n) reply t before after = RemovesManyInStorage s t before after
  LeavesStorage s Clear reply t before after = after ≡ empty_storage before
  LeavesStorage s call reply t before after = after ≡ before

module _ {P T : Type 0} (path : P → List Bool) (back : List Bool → P) (width : ℕ) where
  -- a step of a map and its storage
  pub record StepInStorage (s : State T × Storage) (call : Call P T) (reply : Reply P T) (t : State T × Storage) : Type 0 where
    pub step : Step path back width s.0 call reply t.0
    pub space : LeavesSpace (len s.0.nodes) s.1.space t.1.space
    pub index_range : reply ≡ Refused IndexRange → MayPassLimit s.1.space
    pub storage : LeavesStorage path s.0 call reply t.0 s.1 t.1

  -- a run of such steps
  abbrev pub RunInStorage : State T × Storage → List (Call P T) → List (Reply P T) → State T × Storage → Type 0
  RunInStorage = Runs StepInStorage
