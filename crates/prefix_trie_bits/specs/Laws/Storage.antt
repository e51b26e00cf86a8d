-- What a step determines about the storage: for `storage_laws`.
use Rattle.std.specs.Prelude.{◌≡◌, ℕ, Bool, true, false, List, length, nat_le}
use Rattle.std.specs.FinMap.{contains_key}
use Rattle.prefix_trie_bits.specs.Model.Nodes.{is_root}
use Rattle.prefix_trie_bits.specs.Model.Step.{State, Call, Insert, Remove, RemoveKeepTree, RemoveChildren, RetainAtLeast, Clear, Reply, Done, Refused, Refusal}
use Rattle.prefix_trie_bits.specs.Model.Storage.{Storage, InsertsInStorage, RefusesInStorage, StepInStorage, empty_storage}
use Rattle.prefix_trie_bits.specs.Calls.Storage.{PreparesInStorage}
use Rattle.prefix_trie_bits.specs.Calls.Retaining.{RetainsInStorage}
use Rattle.prefix_trie_bits.specs.Laws.Determined.{is_refusal}
use Rattle.prefix_trie_bits.specs.Laws.Steps.{IsMap}

module _ {P T : Type 0} where
  -- whether a call can change a map
  abbrev pub may_change : Call P T → Bool
  may_change (Insert q v) = true
  may_change (Remove q) = true
  may_change (RemoveKeepTree q) = true
  may_change (RemoveChildren q) = true
  may_change (RetainAtLeast n) = true
  may_change Clear = true
  may_change call = false

-- two storages have the same slots and the same used blocks
pub record UseAlike (a b : Storage) : Type 0 where
  pub space : a.space ≡ b.space
  pub child_blocks : a.layout.child_blocks ≡ b.layout.child_blocks
  pub value_blocks : a.layout.value_blocks ≡ b.layout.value_blocks

module _ {P T : Type 0} (path : P → List Bool) (back : List Bool → P) (width : ℕ) where
  -- what is determined of a step from s to t: the storage after a call that changes nothing, after the insertion of a
  -- stored key and after a call that empties the map, and the used blocks after a refusal
  pub record LeavesFixed (s : State T × Storage) (call : Call P T) (reply : Reply P T) (t : State T × Storage) : Type 0 where
    pub unchanged : may_change call ≡ false → t ≡ s
    pub set_again : (q : P) (v : T) → call ≡ Insert q v → contains_key s.0.entries (path q) ≡ true → t.1 ≡ s.1
    pub cleared_all : call ≡ Clear → t.1 ≡ empty_storage s.1
    pub removed_all : (q : P) → call ≡ RemoveChildren q → is_root (path q) ≡ true → t.1 ≡ empty_storage s.1
    pub refused : (cause : Refusal) → reply ≡ Refused cause →
        (t.1.layout.child_blocks ≡ s.1.layout.child_blocks) × (t.1.layout.value_blocks ≡ s.1.layout.value_blocks)

-- a test of lengths without state: it returns whether a key has at least n bits
abbrev pub asks_length : {T : Type 0} → ℕ → Unit {0} → List Bool → T → Bool → Unit {0} → Type 0
asks_length n f k v b f' = b ≡ nat_le n (length k)

pub record StorageLaws (P T : Type 0) : Type 0 where
  -- calling such a test on each entry is the call `RetainAtLeast`
  pub retained : (path : P → List Bool) (back : List Bool → P) (width n : ℕ) (s t : State T × Storage) → IsMap width s.0
      → RetainsInStorage (asks_length n) tt s t → StepInStorage path back width s (RetainAtLeast n) Done t
  pub fixed : (path : P → List Bool) (back : List Bool → P) (width : ℕ) (s : State T × Storage) (call : Call P T) (reply : Reply P T) (t : State T × Storage)
      → StepInStorage path back width s call reply t → LeavesFixed path back width s call reply t
  -- two insertions of one new key into one map that are not refused leave the same slots and the
  -- same used blocks
  pub inserted : (path : P → List Bool) (back : List Bool → P) (width : ℕ) (s : State T × Storage) (q : P) (v : T) (reply other : Reply P T)
      (t u : State T × Storage) → is_refusal reply ≡ false → is_refusal other ≡ false
      → StepInStorage path back width s (Insert q v) reply t → StepInStorage path back width s (Insert q v) other u → UseAlike t.1 u.1
  -- if the missing blocks for an insertion were made before it, it is not refused
  pub granted : (s : State T) (q : List Bool) (before mid after : Storage) (cause : Refusal) → PreparesInStorage s q before mid → RefusesInStorage s q cause mid after → ⊥
  -- making the blocks and then inserting is one insertion
  pub prepared : (s : State T) (q : List Bool) (before mid after : Storage) → PreparesInStorage s q before mid → InsertsInStorage s q mid after → InsertsInStorage s q before after
