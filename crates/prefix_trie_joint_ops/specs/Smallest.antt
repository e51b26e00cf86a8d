-- What it means that no joint map or set with the same answers to addresses is smaller. This project's own.
use Rattle.std.specs.Prelude.{◌≡◌, ◌≤◌, Bool, true, false, List, [], ◌∷◌, ◌++◌, length}
use Rattle.std.specs.Option.{is_some}
use Rattle.std.specs.FinMap.{contains_key, len}
use Rattle.prefix_trie.specs.Terms.{Entries, shortest_match}
use Rattle.prefix_trie_ops.specs.Values.{value_of}
use Rattle.prefix_trie_joint.specs.Joined.{joined}

-- the question is the bit of a family and then all bits of one of its addresses
abbrev pub IsAddress : List Bool → Type 0
IsAddress [] = ⊥
IsAddress (false ∷ q) = length q ≡ 32
IsAddress (true ∷ q) = length q ≡ 128

module _ {T : Type 0} where
  -- each address has the same longest-match value in both maps, or in neither
  abbrev pub HaveSameAnswers : Entries T → Entries T → Type 0
  HaveSameAnswers m n = (q : List Bool) → IsAddress q → value_of m q ≡ value_of n q

  -- each joint map with the same answers has at least as many entries
  abbrev pub IsSmallest : Entries T → Type 0
  IsSmallest m = (ipv4 ipv6 : Entries T) → HaveSameAnswers (joined ipv4 ipv6) m → len m ≤ len (joined ipv4 ipv6)

  -- each address begins with a key of both sets, or with none of either
  abbrev pub CoverSameAddresses : Entries T → Entries T → Type 0
  CoverSameAddresses m n = (q : List Bool) → IsAddress q → is_some (shortest_match m q) ≡ is_some (shortest_match n q)

  -- each joint set that covers the same addresses has at least as many keys
  abbrev pub IsSmallestCover : Entries T → Type 0
  IsSmallestCover m = (ipv4 ipv6 : Entries T) → CoverSameAddresses (joined ipv4 ipv6) m → len m ≤ len (joined ipv4 ipv6)

  -- no two keys of a family differ in their last bit alone
  abbrev pub HasNoSiblings : Entries T → Type 0
  HasNoSiblings m = (family : Bool) (s : List Bool) → contains_key m (family ∷ s ++ false ∷ []) ≡ true → contains_key m (family ∷ s ++ true ∷ []) ≡ false
