-- The longest and the shortest match of a bit string, stated without a listing.
-- From the Rust crate's documentation of `get_lpm` and `get_spm`.
use Rattle.std.specs.Prelude.{◌≡◌, ◌≤◌, Bool, true, List, length, Some}
use Rattle.std.specs.FinMap.{get, contains_key}
use Rattle.prefix_trie_bits.specs.Model.Bits.{begins}
use Rattle.prefix_trie_bits.specs.Model.Entries.{Entries}

module _ {T : Type 0} where
  -- e is an entry of the map, and q begins with its key
  pub record IsMatch (m : Entries T) (q : List Bool) (e : List Bool × T) : Type 0 where
    pub stored : get m e.0 ≡ Some e.1
    pub begins_it : begins e.0 q ≡ true

  -- e is the match of q with the longest key
  pub record IsLongestMatch (m : Entries T) (q : List Bool) (e : List Bool × T) : Type 0 where
    pub matches : IsMatch m q e
    pub longest : (s : List Bool) → contains_key m s ≡ true → begins s q ≡ true → length s ≤ length e.0

  -- e is the match of q with the shortest key
  pub record IsShortestMatch (m : Entries T) (q : List Bool) (e : List Bool × T) : Type 0 where
    pub matches : IsMatch m q e
    pub shortest : (s : List Bool) → contains_key m s ≡ true → begins s q ≡ true → length e.0 ≤ length s
