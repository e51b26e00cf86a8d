-- The map that is split off and what is left of the first together are the map before: for the laws of
-- `remove_children`.
use Rattle.std.specs.Prelude.{◌≡◌, ℕ, ◌+◌, ◌≤◌, Bool, true, false, List, length, None}
use Rattle.std.specs.FinMap.{get, len}
use Rattle.prefix_trie_bits.specs.Model.Bits.{begins}
use Rattle.prefix_trie_bits.specs.Calls.Entries.{put_all}
use Rattle.prefix_trie_bits.specs.Calls.SplitsOff.{SplitsOff, SplitsOffInStorage}
use Rattle.prefix_trie_bits.specs.Model.Nodes.{IsTidy}
use Rattle.prefix_trie_bits.specs.Model.Selections.{listing}
use Rattle.prefix_trie_bits.specs.Model.Step.{State}
use Rattle.prefix_trie_bits.specs.Model.Storage.{Storage}
use Rattle.prefix_trie_bits.specs.Laws.Steps.{IsMap}
use Rattle.prefix_trie_bits.specs.Laws.Total.{IsStoredMap}

module _ {T : Type 0} where
  -- each entry of the map before is in exactly one of the two maps, and neither has another entry
  pub record Splits (before : State T) (q : List Bool) (second after : State T) : Type 0 where
    pub begun : (k : List Bool) → begins q k ≡ true → (get second.entries k ≡ get before.entries k) × (get after.entries k ≡ None)
    pub others : (k : List Bool) → begins q k ≡ false → (get second.entries k ≡ None) × (get after.entries k ≡ get before.entries k)
    pub number : len second.entries + len after.entries ≡ len before.entries
    -- setting the entries of the second map in the first again gives the map before
    pub merged : put_all (λ k. k) (listing second.entries) after.entries ≡ before.entries

pub record SplitLaws (T : Type 0) : Type 0 where
  pub splits : (before : State T) (q : List Bool) (second after : State T) → SplitsOff before q second after → Splits before q second after
  -- both are maps, and the second is tidy
  pub are_maps : (width : ℕ) (before : State T) (q : List Bool) (second after : State T) → IsMap width before → SplitsOff before q second after
      → IsMap width second × IsTidy second.entries second.nodes × IsMap width after
  -- the entries, the nodes and the storage of the second map are determined
  pub stored_alike : (before : State T × Storage) (q : List Bool) (second after other later : State T × Storage)
      → SplitsOffInStorage before q second after → SplitsOffInStorage before q other later → second ≡ other
  -- each of the two maps has a correct storage: each node has its blocks, and neither array exceeds the limit
  pub are_stored : (width : ℕ) (before : State T × Storage) (q : List Bool) (second after : State T × Storage) → IsStoredMap width before → length q ≤ width
      → SplitsOffInStorage before q second after → IsStoredMap width second × IsStoredMap width after
