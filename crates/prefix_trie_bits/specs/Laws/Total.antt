-- Each fitting call has a step from every map, whatever its storage, so each list of fitting calls has a run: for
-- `total_laws`.
use Rattle.std.specs.Prelude.{◌≡◌, ℕ, ◌≤◌, ◌<◌, Bool, true, false, List, length, All}
use Rattle.std.specs.FinMap.{contains_key}
use Rattle.prefix_trie_bits.specs.Model.Insertion.{PassesLimit, MissingFitsLimit}
use Rattle.prefix_trie_bits.specs.Model.Step.{State, Call, Insert, CallFits, Reply, Refused, Refusal, Memory, IndexRange}
use Rattle.prefix_trie_bits.specs.Model.Storage.{Storage, StepInStorage, RunInStorage}
use Rattle.prefix_trie_bits.specs.Calls.Storage.{HaveBlocks}
use Rattle.prefix_trie_bits.specs.Laws.Determined.{is_refusal, may_refuse}
use Rattle.prefix_trie_bits.specs.Laws.Steps.{IsMap}

-- what holds of every map and its storage
-- No key is longer than the width, the nodes are those of a map, each has its blocks, neither array
-- exceeds the limit, and the limit leaves space for the root.
pub record IsStoredMap {T : Type 0} (width : ℕ) (s : State T × Storage) : Type 0 where
  pub is_map : IsMap width s.0
  pub have_blocks : HaveBlocks s.0 s.1.layout
  pub root_fits : 0 < s.1.space.limit
  pub nodes_within : s.1.space.node_slots ≤ s.1.space.limit
  pub cells_within : s.1.space.cell_slots ≤ s.1.space.limit

module _ {T : Type 0} where
  -- the storage gives a cause to refuse the insertion of q: the missing blocks would exceed the
  -- limit, or, for `Memory`, one of them would fit
  abbrev pub GivesCause : State T × Storage → List Bool → Refusal → Type 0
  GivesCause s q IndexRange = PassesLimit s.0.entries s.0.nodes s.1.space s.1.layout q
  GivesCause s q Memory = MissingFitsLimit s.0.entries s.0.nodes s.1.space s.1.layout q

-- keys have at most 128 bits
pub record TotalLaws (P T : Type 0) : Type 0 where
  -- each fitting call has a step that is not a refusal and leads to such a map, unless it inserts a
  -- new key whose missing blocks would exceed the limit
  pub answered : (path : P → List Bool) (back : List Bool → P) (width : ℕ) (s : State T × Storage) (call : Call P T)
      → width ≤ 128 → IsStoredMap width s → CallFits (λ q. length (path q) ≤ width) call
      → ((q : P) (v : T) → call ≡ Insert q v → contains_key s.0.entries (path q) ≡ false → GivesCause s (path q) IndexRange → ⊥)
      → (reply : Reply P T) × (t : State T × Storage) × StepInStorage path back width s call reply t × (is_refusal reply ≡ false) × IsStoredMap width t
  -- such an insertion has only refusals
  pub full : (path : P → List Bool) (back : List Bool → P) (width : ℕ) (s : State T × Storage) (q : P) (v : T) (reply : Reply P T) (t : State T × Storage)
      → contains_key s.0.entries (path q) ≡ false → GivesCause s (path q) IndexRange → StepInStorage path back width s (Insert q v) reply t → is_refusal reply ≡ true
  -- a call that may be refused, and an insertion that has cause, has a refusal that leaves everything unchanged
  pub refused : (path : P → List Bool) (back : List Bool → P) (width : ℕ) (s : State T × Storage) (call : Call P T) (cause : Refusal)
      → width ≤ 128 → IsStoredMap width s → CallFits (λ q. length (path q) ≤ width) call → may_refuse path s.0 call cause ≡ true
      → ((q : P) (v : T) → call ≡ Insert q v → GivesCause s (path q) cause) → StepInStorage path back width s call (Refused cause) s
  -- each list of fitting calls has a run that leads to such a map
  pub runs : (path : P → List Bool) (back : List Bool → P) (width : ℕ) (s : State T × Storage) (calls : List (Call P T))
      → width ≤ 128 → IsStoredMap width s → All (CallFits (λ q. length (path q) ≤ width)) calls
      → (replies : List (Reply P T)) × (t : State T × Storage) × RunInStorage path back width s calls replies t × IsStoredMap width t
  -- each step leads from such a map to such a map
  pub stays : (path : P → List Bool) (back : List Bool → P) (width : ℕ) (s : State T × Storage) (call : Call P T) (reply : Reply P T) (t : State T × Storage)
      → IsStoredMap width s → CallFits (λ q. length (path q) ≤ width) call
      → StepInStorage path back width s call reply t → IsStoredMap width t
