-- How much removals of many entries can lengthen the arrays, over any number of calls. This project's own.
use Rattle.std.specs.Prelude.{◌≡◌, ◌+◌, ◌≤◌, [], ◌∷◌, map}
use Rattle.prefix_trie_bits.specs.Model.Storage.{Storage}
use Rattle.prefix_trie_table.specs.GrowthBounds.{headroom, headroom_of}
use Rattle.prefix_trie_table.specs.Steps.{BoundsStorageGrowth}

pub record GrowthLaws : Type 0 where
  -- the headroom of a block of each size
  pub headrooms : map headroom (1 ∷ 2 ∷ 4 ∷ 8 ∷ 16 ∷ 24 ∷ 31 ∷ 32 ∷ []) ≡ 0 ∷ 1 ∷ 3 ∷ 7 ∷ 15 ∷ 31 ∷ 55 ∷ 55 ∷ []
  -- an array gets longer by at most the headroom that its blocks had before
  pub nodes_grow : (before after : Storage) → BoundsStorageGrowth before after → after.space.node_slots ≤ before.space.node_slots + headroom_of before.layout.child_blocks
  pub cells_grow : (before after : Storage) → BoundsStorageGrowth before after → after.space.cell_slots ≤ before.space.cell_slots + headroom_of before.layout.value_blocks
  -- two such calls one after another are bounded like one, so any number of calls is
  pub joined : (before mid after : Storage) → BoundsStorageGrowth before mid → BoundsStorageGrowth mid after → BoundsStorageGrowth before after
