-- The stored keys that a bit string begins with, which are its covers and matches: for `match_laws`.
use Rattle.std.specs.Prelude.{◌≡◌, ◌↔◌, ◌<◌, Bool, true, List, [], ◌∷◌, ◌++◌, length, Some, is_some, Contains}
use Rattle.std.specs.List.{list_any}
use Rattle.std.specs.FinMap.{keys}
use Rattle.prefix_trie_bits.specs.Model.Bits.{begins}
use Rattle.prefix_trie_bits.specs.Model.Entries.{Entries}
use Rattle.prefix_trie_bits.specs.Model.Matches.{covers, longest_match, shortest_match}
use Rattle.prefix_trie_bits.specs.Calls.Matches.{IsMatch, IsLongestMatch, IsShortestMatch}

pub record MatchLaws (T : Type 0) : Type 0 where
  -- q begins with at most one string of each length
  pub one_of_length : (q s t : List Bool) → begins s q ≡ true → begins t q ≡ true → length s ≡ length t → s ≡ t
  -- the covers are the entries whose keys q begins with, each longer than the one before
  pub are_matches : (m : Entries T) (q : List Bool) (e : List Bool × T) → Contains (covers m q) e ↔ IsMatch m q e
  pub by_length : (m : Entries T) (q : List Bool) (front back : List (List Bool × T)) (d e : List Bool × T)
      → covers m q ≡ front ++ d ∷ e ∷ back → length d.0 < length e.0
  -- the first of the covers is the shortest match, and the last the longest
  pub first_cover : (m : Entries T) (q : List Bool) (first : List Bool × T) (rest : List (List Bool × T))
      → covers m q ≡ first ∷ rest → IsShortestMatch m q first
  pub last_cover : (m : Entries T) (q : List Bool) (front : List (List Bool × T)) (last : List Bool × T)
      → covers m q ≡ front ++ last ∷ [] → IsLongestMatch m q last
  -- the longest and the shortest match in words
  pub longest_is : (m : Entries T) (q : List Bool) (e : List Bool × T) → (longest_match m q ≡ Some e) ↔ IsLongestMatch m q e
  pub shortest_is : (m : Entries T) (q : List Bool) (e : List Bool × T) → (shortest_match m q ≡ Some e) ↔ IsShortestMatch m q e
  -- there is a match exactly if q begins with some key
  pub some_longest : (m : Entries T) (q : List Bool) → is_some (longest_match m q) ≡ list_any (λ s. begins s q) (keys m)
  pub some_shortest : (m : Entries T) (q : List Bool) → is_some (shortest_match m q) ≡ list_any (λ s. begins s q) (keys m)
