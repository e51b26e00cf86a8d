-- What the copy of a map has and needs. This project's own.
use Rattle.std.specs.Prelude.{◌≡◌, ◌↔◌, Bool, List, Some, IsSomeAnd}
use Rattle.std.specs.FinMap.{get}
use Rattle.prefix_trie_bits.specs.Model.Entries.{Entries}
use Rattle.prefix_trie_bits.specs.Model.Nodes.{Nodes, IsTidy, needed}
use Rattle.prefix_trie_table.specs.Copies.{AreCloned}

-- what holds of a copy with the keys of its source and clones of its values
pub record CopyLaws {T : Type 0} (is_clone : T → T → Type 0) : Type 0 where
  -- the copy needs the same nodes
  pub same_needed : (m copy : Entries T) → AreCloned is_clone m copy → needed copy ≡ needed m
  -- so the copy is tidy exactly if its source is, if both have the same nodes
  pub as_tidy : (m copy : Entries T) (n : Nodes) → AreCloned is_clone m copy → IsTidy m n ↔ IsTidy copy n
  -- the copy has a clone of the value at each key of its source
  pub has_clone : (m copy : Entries T) → AreCloned is_clone m copy → (k : List Bool) (v : T) → get m k ≡ Some v → IsSomeAnd (get copy k) (is_clone v)
  -- if each clone equals its source, the entries are the same
  pub is_same : ((v w : T) → is_clone v w → w ≡ v) → (m copy : Entries T) → AreCloned is_clone m copy → copy ≡ m
