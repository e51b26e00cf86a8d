-- Maps of items that were inserted in order. This project's own.
use Rattle.std.specs.Prelude.{◌≡◌, ◌⊎◌, ℕ, ◌+◌, ◌*◌, ◌<◌, ◌≤◌, Bool, List, length}
use Rattle.prefix_trie_bits.specs.Calls.Entries.{put_all}
use Rattle.prefix_trie_bits.specs.Model.Nodes.{IsTidy}
use Rattle.prefix_trie_bits.specs.Model.Space.{Space}
use Rattle.prefix_trie_table.specs.Model.Contents.{Contents}

-- what the insertions leave: a tidy map stays tidy, and each insertion makes at most 56 slots for nodes and 31 for
-- values
pub record Puts {P T : Type 0} (path : P → List Bool) (before : Contents T) (items : List (P × T)) (after : Contents T) : Type 0 where
  pub entries : after.entries ≡ put_all path items before.entries
  pub tidy : IsTidy before.entries before.nodes → IsTidy after.entries after.nodes
  pub limit : after.space.limit ≡ before.space.limit
  pub node_slots : after.space.node_slots ≤ before.space.node_slots + 56 * length items
  pub cell_slots : after.space.cell_slots ≤ before.space.cell_slots + 31 * length items

-- the blocks that this many insertions may need would exceed the limit
abbrev pub ManyMayPassLimit : Space → ℕ → Type 0
ManyMayPassLimit space count = (space.limit < space.node_slots + 56 * count) ⊎ (space.limit < space.cell_slots + 31 * count)
