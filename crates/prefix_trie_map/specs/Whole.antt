-- What holds of every map. This project's own.
use Rattle.std.specs.Prelude.{ℕ, ◌<◌, ◌≤◌, ◌^◌}
use Rattle.std.specs.FinMap.{len}
use Rattle.prefix_trie_bits.specs.Laws.Steps.{IsMap}
use Rattle.prefix_trie_bits.specs.Laws.Total.{IsStoredMap}
use Rattle.prefix_trie_bits.specs.Calls.Storage.{HaveBlocks}
use Rattle.prefix_trie_table.specs.Model.Contents.{Contents}
use Rattle.prefix_trie_map.specs.Steps.{state, stored_state}

-- what holds of a map with this width: no key is longer, the nodes can be those of its keys, each node has its blocks,
-- neither array exceeds the limit, which is below 2^32, and there are no more entries than slots for values
pub record IsWhole {T : Type 0} (width : ℕ) (map : Contents T) : Type 0 where
  pub is_map : IsMap width (state map)
  pub have_blocks : HaveBlocks (state map) map.layout
  pub limit_below : map.space.limit < 2 ^ 32
  pub nodes_within : map.space.node_slots ≤ map.space.limit
  pub cells_within : map.space.cell_slots ≤ map.space.limit
  pub entries_within : len map.entries ≤ map.space.cell_slots

-- what follows about the storage of such a map
pub record WholeLaws (T : Type 0) (width : ℕ) : Type 0 where
  -- each array has fewer than 2^32 slots
  pub slots_below : (m : Contents T) → IsWhole width m → (m.space.node_slots < 2 ^ 32) × (m.space.cell_slots < 2 ^ 32)
  -- so there are fewer than 2^32 entries
  pub entries_below : (m : Contents T) → IsWhole width m → len m.entries < 2 ^ 32
  -- the map is stored as `total_laws` requires, if the root has a slot under the limit
  pub is_stored : (m : Contents T) → IsWhole width m → 0 < m.space.limit → IsStoredMap width (stored_state m)
