-- What follows from a run with its counts: for `counted_laws`.
use Rattle.std.specs.Prelude.{◌≡◌, ◌≢◌, ℕ, Bool, true, List, ◌++◌, Option}
use Rattle.prefix_trie_bits.specs.Model.Step.{State, Call, RemoveKeepTree, RetainAtLeast, Clear, Reply}
use Rattle.prefix_trie_bits.specs.Model.Storage.{Storage, RunInStorage}
use Rattle.prefix_trie_bits.specs.Model.Counted.{tidy_after, tidy_after_all, TidyIf, CountsReads, CountedFrom}

pub record CountedLaws (P T : Type 0) : Type 0 where
  -- the number of nodes that a call reads in a state is unique
  pub reads_alike : (path : P → List Bool) (s : State T) (call : Call P T) (read other : Option ℕ) → CountsReads path s call read → CountsReads path s call other → read ≡ other
  -- after `retain` and `clear` the map is known to be tidy; a map that is known to be tidy stays so after each call
  -- except `remove_keep_tree`
  pub retained_known : (tidy : Bool) (call : Call P T) (n : ℕ) → call ≡ RetainAtLeast n → tidy_after tidy call ≡ true
  pub cleared_known : (tidy : Bool) (call : Call P T) → call ≡ Clear → tidy_after tidy call ≡ true
  pub still_known : (call : Call P T) → ((q : P) → call ≢ RemoveKeepTree q) → tidy_after true call ≡ true
  -- a run with its counts is a run
  pub is_run : (path : P → List Bool) (back : List Bool → P) (width : ℕ) (tidy : Bool) (s : State T × Storage) (calls : List (Call P T)) (replies : List (Reply P T)) (reads : List (Option ℕ)) (t : State T × Storage)
      → CountedFrom path back width tidy s calls replies reads t → RunInStorage path back width s calls replies t
  -- at the end of such a run the map is tidy if the calls leave it so
  pub ends_tidy : (path : P → List Bool) (back : List Bool → P) (width : ℕ) (tidy : Bool) (s : State T × Storage) (calls : List (Call P T)) (replies : List (Reply P T)) (reads : List (Option ℕ)) (t : State T × Storage)
      → CountedFrom path back width tidy s calls replies reads t → TidyIf (tidy_after_all tidy calls) t.0
  -- such a run can be cut at each point into two: the calls before it, and those after it
  pub splits : (path : P → List Bool) (back : List Bool → P) (width : ℕ) (tidy : Bool) (s : State T × Storage) (calls more : List (Call P T)) (replies : List (Reply P T)) (reads : List (Option ℕ)) (t : State T × Storage)
      → CountedFrom path back width tidy s (calls ++ more) replies reads t
      → (first rest : List (Reply P T)) × (early late : List (Option ℕ)) × (u : State T × Storage) × (replies ≡ first ++ rest) × (reads ≡ early ++ late)
      × CountedFrom path back width tidy s calls first early u × CountedFrom path back width (tidy_after_all tidy calls) u more rest late t
