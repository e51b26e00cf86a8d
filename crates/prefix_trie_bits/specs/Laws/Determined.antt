-- A step is determined up to refusal, and each call has one.
use Rattle.std.specs.Prelude.{◌≡◌, ◌↔◌, ℕ, Bool, true, false, not, List}
use Rattle.std.specs.FinMap.{contains_key}
use Rattle.prefix_trie_bits.specs.Model.Step.{State, Call, Insert, ListAll, ListFrom, Children, Cover, Reply, Refused, Refusal, Memory, IndexRange, Step}

abbrev pub is_memory : Refusal → Bool
is_memory Memory = true
is_memory IndexRange = false

module _ {P T : Type 0} where
  -- whether a reply is a refusal
  abbrev pub is_refusal : Reply P T → Bool
  is_refusal (Refused cause) = true
  is_refusal reply = false

  -- whether a call may be refused for a cause: the insertion of a new key for either, a listing
  -- with `Memory`, and no other call
  abbrev pub may_refuse : (P → List Bool) → State T → Call P T → Refusal → Bool
  may_refuse path s (Insert q v) cause = not (contains_key s.entries (path q))
  may_refuse path s ListAll cause = is_memory cause
  may_refuse path s (ListFrom q inclusive) cause = is_memory cause
  may_refuse path s (Children q) cause = is_memory cause
  may_refuse path s (Cover q) cause = is_memory cause
  may_refuse path s call cause = false

pub record DeterminedLaws (P T : Type 0) : Type 0 where
  -- two steps of one call from one state that are not refused have the same reply and lead to the same state
  pub same : (path : P → List Bool) (back : List Bool → P) (width : ℕ) (s : State T) (call : Call P T) (reply other : Reply P T) (t u : State T)
      → is_refusal reply ≡ false → is_refusal other ≡ false
      → Step path back width s call reply t → Step path back width s call other u → (reply ≡ other) × (t ≡ u)
  -- a step is a refusal exactly if the call may be refused for that cause, and then leaves the
  -- state unchanged
  pub refused : (path : P → List Bool) (back : List Bool → P) (width : ℕ) (s : State T) (call : Call P T) (cause : Refusal) (t : State T)
      → Step path back width s call (Refused cause) t ↔ ((may_refuse path s call cause ≡ true) × (t ≡ s))
  -- from each state each call has a step that is no refusal
  pub answered : (path : P → List Bool) (back : List Bool → P) (width : ℕ) (s : State T) (call : Call P T)
      → (reply : Reply P T) × (t : State T) × Step path back width s call reply t × (is_refusal reply ≡ false)
