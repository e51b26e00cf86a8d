-- The most slots that a call for one key makes: for `slot_laws`.
use Rattle.std.specs.Prelude.{ℕ, ◌+◌, ◌≤◌, Bool, List, length}
use Rattle.prefix_trie_bits.specs.Laws.Steps.{IsMap}
use Rattle.prefix_trie_bits.specs.Model.Step.{State, Insert, Remove, RemoveKeepTree, Reply}
use Rattle.prefix_trie_bits.specs.Model.Storage.{Storage, StepInStorage}
use Rattle.prefix_trie_bits.specs.Calls.Storage.{HaveBlocks}

-- a step makes at most this many slots for nodes and for values
pub record MakesSlots (nodes cells : ℕ) (before after : Storage) : Type 0 where
  pub node_slots : after.space.node_slots ≤ before.space.node_slots + nodes
  pub cell_slots : after.space.cell_slots ≤ before.space.cell_slots + cells

pub record SlotLaws (P T : Type 0) : Type 0 where
  -- an insertion of a key of at most 128 bits makes at most 56 slots for nodes, which are a block of 32 and 24 of one
  -- slot, and at most 31 for values
  pub inserted : (path : P → List Bool) (back : List Bool → P) (width : ℕ) (s : State T × Storage) (q : P) (v : T) (reply : Reply P T) (t : State T × Storage)
      → IsMap width s.0 → HaveBlocks s.0 s.1.layout → length (path q) ≤ 128 → StepInStorage path back width s (Insert q v) reply t → MakesSlots 56 31 s.1 t.1
  -- a removal of one entry makes at most 24 slots of each kind, since it moves a list to a smaller block
  pub removed : (path : P → List Bool) (back : List Bool → P) (width : ℕ) (s : State T × Storage) (q : P) (reply : Reply P T) (t : State T × Storage)
      → HaveBlocks s.0 s.1.layout → StepInStorage path back width s (Remove q) reply t → MakesSlots 24 24 s.1 t.1
  -- it makes no slots for nodes if all nodes stay
  pub removed_keeping : (path : P → List Bool) (back : List Bool → P) (width : ℕ) (s : State T × Storage) (q : P) (reply : Reply P T) (t : State T × Storage)
      → HaveBlocks s.0 s.1.layout → StepInStorage path back width s (RemoveKeepTree q) reply t → MakesSlots 0 24 s.1 t.1
