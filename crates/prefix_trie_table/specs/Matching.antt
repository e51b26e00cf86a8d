-- The beginnings of a bit string that have a value, on its search path. This project's own.
use Rattle.std.specs.Prelude.{◌≡◌, ℕ, ◌+◌, ◌<◌, ◌≤◌, Bool, true, false, List, Option, None, Some, length, take, MatchOption}
use Rattle.prefix_trie_table.specs.declared.allocator.node.Node.{Node}
use Rattle.prefix_trie_table.specs.declared.table.matching.Match.{Match}
use Rattle.prefix_trie_table.specs.declared.table.seat.Seat.{Seat}
use Rattle.prefix_trie_bits.specs.Bitmaps.{has_bit, rank}
use Rattle.prefix_trie_table.specs.Digits.{chunks_of, bit_of}
use Rattle.prefix_trie_table.specs.Forest.{has_value}

-- whether the first i bits of q have a value
abbrev pub holds_value : (List ℕ → Option Node) → List Bool → ℕ → Bool
holds_value reading q i = has_value (reading (chunks_of (take i q))) (bit_of (take i q))

-- no beginning of q with a length from `first` up to, but not including, `end` has a value
abbrev pub NoneHeld : (List ℕ → Option Node) → List Bool → ℕ → ℕ → Type 0
NoneHeld reading q first end = (i : ℕ) → first ≤ i → i < end → i ≤ length q → holds_value reading q i ≡ false

-- the first n bits of q have a value, at this bit of this node
pub record IsHeld (reading : List ℕ → Option Node) (q : List Bool) (n bit : ℕ) (node : Node) : Type 0 where
  pub within : n ≤ length q
  pub is : reading (chunks_of (take n q)) ≡ Some node
  pub bit_is : bit_of (take n q) ≡ bit
  pub small : bit < 31
  pub set : has_bit node.value_bitmap bit ≡ true

-- the slot of the cell of a match
abbrev pub cell_slot : Match → ℕ
cell_slot m = m.node.value_block + rank m.node.value_bitmap m.bit

-- the seat of the value of a match
abbrev pub match_seat : Match → Seat
match_seat m = record { slot = m.node.value_block + rank m.node.value_bitmap m.bit }

-- the seat of a match and the length of its string, if there is a match
abbrev pub SeatAt : Option Match → Option Seat → ℕ → Type 0
SeatAt o seat n = MatchOption o (seat ≡ None) (λ m. (seat ≡ Some (match_seat m)) × (n ≡ m.len))

-- the longest beginning of q that has a value and a length from `first` up to, but not including, `end`, if there is one
abbrev pub LongestHeld : (List ℕ → Option Node) → List Bool → ℕ → ℕ → Option Match → Type 0
LongestHeld reading q first end o =
    MatchOption o (NoneHeld reading q first end) (λ m. IsHeld reading q m.len m.bit m.node × NoneHeld reading q (m.len + 1) end)

-- the shortest such beginning
abbrev pub ShortestHeld : (List ℕ → Option Node) → List Bool → ℕ → ℕ → Option Match → Type 0
ShortestHeld reading q first end o =
    MatchOption o (NoneHeld reading q first end) (λ m. IsHeld reading q m.len m.bit m.node × NoneHeld reading q first m.len)

-- no node has a value bit 31
abbrev pub LackLastBit : (List ℕ → Option Node) → Type 0
LackLastBit nodes = (p : List ℕ) (n : Node) → nodes p ≡ Some n → has_bit n.value_bitmap 31 ≡ false
