-- Runs with counts: how many nodes each lookup reads, and when a map is known to be tidy. This
-- project's own.
use Rattle.std.specs.Prelude.{◌≡◌, ℕ, Bool, true, false, List, [], ◌∷◌, Option, None, MatchOption}
use Rattle.prefix_trie_bits.specs.Model.Nodes.{IsTidy}
use Rattle.prefix_trie_bits.specs.Model.Step.{State, Call, Get, Lpm, Spm, RemoveKeepTree, RetainAtLeast, Clear, Reply}
use Rattle.prefix_trie_bits.specs.Model.Storage.{Storage, StepInStorage}
use Rattle.prefix_trie_bits.specs.Model.Visits.{ReadsPath, ReadsToMatch}

module _ {P T : Type 0} where
  -- whether a map is known to be tidy after a call, given whether it was known before
  -- `remove_keep_tree` loses that knowledge. `retain` and `clear` leave only needed nodes, so they
  -- always restore it.
  abbrev pub tidy_after : Bool → Call P T → Bool
  tidy_after tidy (RemoveKeepTree q) = false
  tidy_after tidy (RetainAtLeast n) = true
  tidy_after tidy Clear = true
  tidy_after tidy call = tidy

  -- whether it is known after a list of calls
  abbrev pub tidy_after_all : Bool → List (Call P T) → Bool
  tidy_after_all tidy [] = tidy
  tidy_after_all tidy (call ∷ calls) = tidy_after_all (tidy_after tidy call) calls

module _ {T : Type 0} where
  -- if `tidy` is true, the map is tidy
  abbrev pub TidyIf : Bool → State T → Type 0
  TidyIf tidy s = tidy ≡ true → IsTidy s.entries s.nodes

module _ {P T : Type 0} (path : P → List Bool) where
  -- the number of nodes that a lookup reads; other calls have no number
  abbrev pub CountsReads : State T → Call P T → Option ℕ → Type 0
  CountsReads s (Get q) read = MatchOption read ⊥ (ReadsPath s.nodes (path q))
  CountsReads s (Lpm q) read = MatchOption read ⊥ (ReadsPath s.nodes (path q))
  CountsReads s (Spm q) read = MatchOption read ⊥ (ReadsToMatch s.entries s.nodes (path q))
  CountsReads s call read = read ≡ None

module _ {P T : Type 0} (path : P → List Bool) (back : List Bool → P) (width : ℕ) where
  -- a step from s to t, with the number of nodes that its lookup reads
  pub record CountedStep (s : State T × Storage) (call : Call P T) (answer : Reply P T × Option ℕ) (t : State T × Storage) : Type 0 where
    pub step : StepInStorage path back width s call answer.0 t
    pub reads : CountsReads path s.0 call answer.1

  -- a run of such steps from s to t, with a reply and a number for each call
  -- If `tidy` says that the map is tidy before the run, it is tidy before and after each call for
  -- which `tidy_after` says so.
  abbrev pub CountedFrom : Bool → State T × Storage → List (Call P T) → List (Reply P T) → List (Option ℕ) → State T × Storage → Type 0
  CountedFrom tidy s [] replies reads t = (replies ≡ []) × (reads ≡ []) × (t ≡ s) × TidyIf tidy t.0
  CountedFrom tidy s (call ∷ calls) replies reads t =
      (reply : Reply P T) × (later : List (Reply P T)) × (read : Option ℕ) × (more : List (Option ℕ)) × (u : State T × Storage)
      × (replies ≡ reply ∷ later) × (reads ≡ read ∷ more) × TidyIf tidy s.0
      × CountedStep s call (reply, read) u × CountedFrom (tidy_after tidy call) u calls later more t

  -- a run of such steps, for either value of `tidy` that is true of the first map
  abbrev pub CountedRun : State T × Storage → List (Call P T) → List (Reply P T) → List (Option ℕ) → State T × Storage → Type 0
  CountedRun s calls replies reads t = (tidy : Bool) → TidyIf tidy s.0 → CountedFrom tidy s calls replies reads t
