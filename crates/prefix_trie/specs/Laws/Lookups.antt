-- What lookups find, and how the longest match changes with the entries: for `lookup_laws`.
use Rattle.std.specs.Prelude.{◌≡◌, ◌≢◌, ℕ, ◌+◌, ◌<◌, ◌≤◌, Bool, true, false, List, [], length, take, Option, Some, None, IfSome, MatchOption, is_some}
use Rattle.std.specs.Option.{option_map}
use Rattle.std.specs.FinMap.{contains_key}
use Rattle.prefix_trie_bits.specs.Model.Bits.{begins}
use Rattle.prefix_trie_bits.specs.Model.Entries.{Entries, no_entries, with_entry, without_entry}
use Rattle.prefix_trie_bits.specs.Calls.Matches.{IsLongestMatch}
use Rattle.prefix_trie_bits.specs.Model.Matches.{longest_match, shortest_match, prefix_pair}

-- no stored key begins q
abbrev pub IsUncovered : {T : Type 0} → Entries T → List Bool → Type 0
IsUncovered m q = (s : List Bool) → contains_key m s ≡ true → begins s q ≡ false

pub record LookupLaws (P T : Type 0) : Type 0 where
  -- what the longest match is, and its value
  pub found : (m : Entries T) (q : List Bool) → MatchOption (longest_match m q) (IsUncovered m q) (IsLongestMatch m q)
  pub value : (m : Entries T) (q : List Bool) → MatchOption (option_map (λ e. e.1) (longest_match m q)) (IsUncovered m q) (λ v. (s : List Bool) × IsLongestMatch m q (s, v))
  -- there is a match exactly if q begins with some stored key
  pub covered : (m : Entries T) (q s : List Bool) → contains_key m s ≡ true → begins s q ≡ true → is_some (shortest_match m q) ≡ true
  pub uncovered : (m : Entries T) (q : List Bool) → is_some (shortest_match m q) ≡ false → IsUncovered m q
  -- a new map has no match
  pub nothing : (q : List Bool) → longest_match (no_entries {T = T}) q ≡ None
  -- setting a key that q does not begin with does not change the match of q
  pub set_aside : (m : Entries T) (q s : List Bool) (v : T) → begins s q ≡ false → longest_match (with_entry m s v) q ≡ longest_match m q
  -- a key that is set and begins q is the longest match, unless there was a longer match
  pub set : (m : Entries T) (q s : List Bool) (v : T) → begins s q ≡ true → IfSome (longest_match m q) (λ e. length e.0 ≤ length s)
      → longest_match (with_entry m s v) q ≡ Some (s, v)
  pub set_shorter : (m : Entries T) (q s : List Bool) (v : T) (e : List Bool × T) → longest_match m q ≡ Some e → length s < length e.0
      → longest_match (with_entry m s v) q ≡ Some e
  -- removing a key that is not the longest match does not change the match
  pub taken_aside : (m : Entries T) (q s : List Bool) → IfSome (longest_match m q) (λ e. e.0 ≢ s) → longest_match (without_entry m s) q ≡ longest_match m q
  -- after the longest match is removed, q has the match of the removed key without its last bit
  pub taken : (m : Entries T) (q s : List Bool) (v : T) (n : ℕ) → longest_match m q ≡ Some (s, v) → length s ≡ n + 1
      → longest_match (without_entry m s) q ≡ longest_match m (take n q)
  pub taken_last : (m : Entries T) (q : List Bool) (v : T) → longest_match m q ≡ Some ([], v) → longest_match (without_entry m []) q ≡ None
  -- the match that users see has the value of the match
  pub shown_value : (back : List Bool → P) (found : Option (List Bool × T)) → option_map (λ e. e.1) (prefix_pair back found) ≡ option_map (λ e. e.1) found
