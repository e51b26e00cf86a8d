-- What every step of the model keeps: for `step_laws`.
use Rattle.std.specs.Prelude.{◌≡◌, ◌≢◌, ℕ, ◌≤◌, Bool, true, false, not, nat_le, List, length, ◌++◌, None, All}
use Rattle.std.specs.FinMap.{get, len}
use Rattle.prefix_trie_bits.specs.Model.Bits.{begins}
use Rattle.prefix_trie_bits.specs.Model.Order.{same_string}
use Rattle.prefix_trie_bits.specs.Model.Entries.{Entries, with_entry, without_entry}
use Rattle.prefix_trie_bits.specs.Calls.Entries.{AreWithin}
use Rattle.prefix_trie_bits.specs.Calls.Nodes.{AreNodes}
use Rattle.prefix_trie_bits.specs.Model.Nodes.{IsTidy, needed, with_needed, nodes_without}
use Rattle.prefix_trie_bits.specs.Model.Step.{State, Call, Insert, Remove, RemoveKeepTree, RemoveChildren, RetainAtLeast, Clear, NodeCount, CallFits, Reply, Count, Refused, Refusal, Step, Run}

-- what holds of every map: its keys are within the width, and its nodes can be those of a map with these keys
pub record IsMap {T : Type 0} (width : ℕ) (s : State T) : Type 0 where
  pub keys_within : AreWithin width s.entries
  pub are_nodes : AreNodes width s.entries s.nodes

-- whether a call may set or remove the key k
abbrev pub touches : {P T : Type 0} → (P → List Bool) → Call P T → List Bool → Bool
touches path (Insert q v) k = same_string k (path q)
touches path (Remove q) k = same_string k (path q)
touches path (RemoveKeepTree q) k = same_string k (path q)
touches path (RemoveChildren q) k = begins (path q) k
touches path (RetainAtLeast n) k = not (nat_le n (length k))
touches path Clear k = true
touches path call k = false

module _ {P T : Type 0} (path : P → List Bool) (back : List Bool → P) (width : ℕ) where
  -- what a step from s to t keeps
  pub record StepKeeps (s : State T) (call : Call P T) (reply : Reply P T) (t : State T) : Type 0 where
    -- a map stays a map, if the prefix argument of the call fits
    pub stays_map : CallFits (λ q. length (path q) ≤ width) call → IsMap width s → IsMap width t
    -- a tidy map stays tidy, unless the call is `remove_keep_tree`
    pub stays_tidy : ((q : P) → call ≢ RemoveKeepTree q) → IsMap width s → IsTidy s.entries s.nodes → IsTidy t.entries t.nodes
    -- `retain` and `clear` make any map tidy
    pub retained_tidy : (n : ℕ) → call ≡ RetainAtLeast n → IsTidy t.entries t.nodes
    pub cleared_tidy : call ≡ Clear → IsTidy t.entries t.nodes
    -- a tidy map has as many nodes as its keys need
    pub tidy_count : call ≡ NodeCount → IsTidy s.entries s.nodes → reply ≡ Count (len (needed s.entries))
    -- an entry that the call neither sets nor removes is unchanged
    pub untouched : (k : List Bool) → touches path call k ≡ false → get t.entries k ≡ get s.entries k
    -- a refusal leaves the map as it was
    pub refused_as_before : (cause : Refusal) → reply ≡ Refused cause → t ≡ s

pub record StepLaws (P T : Type 0) : Type 0 where
  pub of_step : (path : P → List Bool) (back : List Bool → P) (width : ℕ) (s : State T) (call : Call P T) (reply : Reply P T) (t : State T)
      → Step path back width s call reply t → StepKeeps path back width s call reply t
  -- a run from a map leads to a map
  pub run_stays_map : (path : P → List Bool) (back : List Bool → P) (width : ℕ) (s : State T) (calls : List (Call P T)) (replies : List (Reply P T)) (t : State T)
      → All (CallFits (λ q. length (path q) ≤ width)) calls → Run path back width s calls replies t → IsMap width s → IsMap width t
  -- a run from a tidy map leads to a tidy map, if no call is `remove_keep_tree`
  pub run_stays_tidy : (path : P → List Bool) (back : List Bool → P) (width : ℕ) (s : State T) (calls : List (Call P T)) (replies : List (Reply P T)) (t : State T)
      → All (CallFits (λ q. length (path q) ≤ width)) calls → All (λ call. (q : P) → call ≢ RemoveKeepTree q) calls
      → Run path back width s calls replies t → IsMap width s → IsTidy s.entries s.nodes → IsTidy t.entries t.nodes
  -- two runs, the second from the end of the first, are one run
  pub runs_join : (path : P → List Bool) (back : List Bool → P) (width : ℕ) (s t u : State T) (calls more : List (Call P T)) (replies rest : List (Reply P T))
      → Run path back width s calls replies t → Run path back width t more rest u → Run path back width s (calls ++ more) (replies ++ rest) u
  -- setting a new key in a tidy map and removing it again restores its entries and its nodes
  pub set_and_removed : (width : ℕ) (m : Entries T) (s : List Bool) (v : T) → AreWithin width m → length s ≤ width → get m s ≡ None
      → (without_entry (with_entry m s v) s ≡ m) × (nodes_without (with_needed (needed m) s) (with_entry m s v) s ≡ needed m)
