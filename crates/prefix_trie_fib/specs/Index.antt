-- The index of a division: which ranges each chunk of addresses has.
use Rattle.std.specs.Prelude.{◌≡◌, ℕ, ◌+◌, ◌*◌, ◌/◌, ◌%◌, ◌^◌, ◌<◌, ◌≤◌, ◌++◌, Bool, cond, List, length, Option, None, Some, is_some, slice_index_or, take, true, ⊤}
use Rattle.prefix_trie_bits.specs.Bitmaps.{rank}
use Rattle.prefix_trie_bits.specs.Model.Bits.{number, zeros}
use Rattle.prefix_trie_fib.specs.declared.index.chunk.Chunk.{Chunk}
use Rattle.prefix_trie_fib.specs.declared.index.chunk.Chunk.TheVariants.{Alone, Bitmap, Full, Many, Several, Split}
use Rattle.prefix_trie_fib.specs.Line.{value_along}
use Rattle.prefix_trie_fib.specs.Search.{IsAmong, IsRangeOf, StartsBy}

-- the number of the first 30 bits of an address, where bits past its end are 0
abbrev pub IsTop : ℕ → List Bool → Type 0
IsTop top b = top ≡ number (take 30 (b ++ zeros 30))

module _ {T : Type 0} where
  -- each of so many ranges from one on has a value
  abbrev pub AreValued : List (ℕ × Option T) → ℕ → ℕ → Type 0
  AreValued rs first count = (k : ℕ) (d : ℕ × Option T) → first ≤ k → k < first + count → is_some (slice_index_or rs k d).1 ≡ true

  -- an entry is right for an address, and is not split
  abbrev pub IsEntryAt : List (ℕ × Option T) → List Bool → Chunk T → Type 0
  IsEntryAt rs b (Alone valued v) = value_along None rs (number b) ≡ cond valued (Some v) None
  IsEntryAt rs b (Bitmap rest starts first) = (rest ≤ 26) × ((top : ℕ) → IsTop top b → IsRangeOf rs (first + rank starts (top / 2 ^ rest % 16 + 1)) (number b))
  IsEntryAt rs b (Full count first) = AreValued rs first count × IsAmong rs first count (number b)
  IsEntryAt rs b (Several count first) = IsAmong rs first count (number b)
  IsEntryAt rs b (Many first) = StartsBy rs first (number b)
  IsEntryAt rs b (Split more base) = ⊥

  -- an entry is right for each address of a width that begins with the so many bits of chunk c, and is not split
  abbrev pub IsChunk : ℕ → ℕ → List (ℕ × Option T) → ℕ → Chunk T → Type 0
  IsChunk width bits rs c entry = (b : List Bool) → length b ≡ width → number (take bits b) ≡ c → IsEntryAt rs b entry

  -- the chunk is not split
  abbrev pub IsWhole : Chunk T → Type 0
  IsWhole (Alone valued v) = ⊤
  IsWhole (Bitmap rest starts first) = ⊤
  IsWhole (Full count first) = ⊤
  IsWhole (Several count first) = ⊤
  IsWhole (Many first) = ⊤
  IsWhole (Split more base) = ⊥

  -- so many entries from base on are those of chunks by so many bits, from chunk q on
  pub record HasParts (width bits : ℕ) (rs : List (ℕ × Option T)) (count : ℕ) (parts : List (Chunk T)) (base q : ℕ) : Type 0 where
    pub inside : base + count ≤ length parts
    pub right : (p : ℕ) (d : Chunk T) → p < count → IsChunk width bits rs (q + p) (slice_index_or parts (base + p) d)

  -- so many more bits select the part of a chunk of an index by so many bits, and the entries of the parts of chunk c begin at base
  pub record IsSplit (width bits : ℕ) (rs : List (ℕ × Option T)) (parts : List (Chunk T)) (c more base : ℕ) : Type 0 where
    pub some : 0 < more
    pub few : bits + more ≤ 30
    pub within : bits + more ≤ width
    pub has_parts : HasParts width (bits + more) rs (2 ^ more) parts base (c * 2 ^ more)

  -- the entry of chunk c of an index by so many bits: one for the whole chunk, or its parts by some more bits
  abbrev pub IsEntry : ℕ → ℕ → List (ℕ × Option T) → List (Chunk T) → ℕ → Chunk T → Type 0
  IsEntry width bits rs parts c (Split more base) = IsSplit width bits rs parts c more base
  IsEntry width bits rs parts c (Alone valued v) = IsChunk width bits rs c (Alone valued v)
  IsEntry width bits rs parts c (Bitmap rest starts first) = IsChunk width bits rs c (Bitmap rest starts first)
  IsEntry width bits rs parts c (Full count first) = IsChunk width bits rs c (Full count first)
  IsEntry width bits rs parts c (Several count first) = IsChunk width bits rs c (Several count first)
  IsEntry width bits rs parts c (Many first) = IsChunk width bits rs c (Many first)

  -- each entry is that of its chunk
  abbrev pub IsIndex : ℕ → ℕ → List (ℕ × Option T) → List (Chunk T) → List (Chunk T) → Type 0
  IsIndex width bits rs chunks parts = (c : ℕ) (d : Chunk T) → c < length chunks → IsEntry width bits rs parts c (slice_index_or chunks c d)

  -- a list begins with another one
  pub record Extends (before after : List (Chunk T)) : Type 0 where
    pub longer : length before ≤ length after
    pub same : (k : ℕ) (d : Chunk T) → k < length before → slice_index_or after k d ≡ slice_index_or before k d
