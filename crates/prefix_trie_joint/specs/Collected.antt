-- What a number of insertions leaves of a new map at most. This project's own.
use Rattle.std.specs.Prelude.{◌≡◌, ℕ, ◌+◌, ◌-◌, ◌*◌, ◌^◌, ◌≤◌}
use Rattle.prefix_trie.specs.Terms.{IsTidy}
use Rattle.prefix_trie_table.specs.Model.Contents.{Contents}

module _ {T : Type 0} where
  -- an insertion makes at most 56 slots for nodes and 31 for values, and leaves a tidy map
  abbrev pub IsAfter : ℕ → Contents T → Type 0
  IsAfter count map = (map.space.limit ≡ 2 ^ 32 - 1) × (map.space.node_slots ≤ 1 + 56 * count) × (map.space.cell_slots ≤ 31 * count) × IsTidy map.entries map.nodes

  -- the same for both families
  abbrev pub AreAfter : ℕ → Contents T × Contents T → Type 0
  AreAfter count maps = IsAfter count maps.0 × IsAfter count maps.1
