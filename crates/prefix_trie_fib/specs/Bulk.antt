-- Lookups of many addresses: the entries of a group, and the results so far. This project's own.
use Rattle.std.specs.Prelude.{◌≡◌, ℕ, ◌+◌, ◌<◌, ◌≤◌, Bool, cond, false, true, List, length, Option, None, Some, slice_index_or}
use Rattle.prefix_trie_bits.specs.Model.Bits.{number}
use Rattle.prefix_trie_fib.specs.declared.index.chunk.Chunk.{Chunk}
use Rattle.prefix_trie_fib.specs.declared.index.chunk.Chunk.TheVariants.{Alone, Bitmap, Full, Many, Several, Split}
use Rattle.prefix_trie_fib.specs.Index.{IsEntryAt, IsTop, IsWhole}
use Rattle.prefix_trie_fib.specs.Line.{value_along}
use Rattle.prefix_trie_fib.specs.Search.{IsRangeOf}

-- the first results are those of the first keys
abbrev pub HaveResults : {K X : Type 0} → (K → X) → List K → List X → ℕ → Type 0
HaveResults {K} {X} f keys xs count = (k : ℕ) (d : K) (x : X) → k < count → slice_index_or xs k x ≡ f (slice_index_or keys k d)

-- each address has the number of its first 30 bits
pub record AreTops {K : Type 0} (bits : K → List Bool) (addresses : List K) (tops : List ℕ) : Type 0 where
  pub enough : length addresses ≤ length tops
  pub right : (k : ℕ) (a : K) (d : ℕ) → k < length addresses → IsTop (slice_index_or tops k d) (bits (slice_index_or addresses k a))

module _ {T : Type 0} where
  -- whether the chunk has one range
  abbrev pub is_alone : Chunk T → Bool
  is_alone (Alone valued v) = true
  is_alone (Bitmap rest starts first) = false
  is_alone (Full count first) = false
  is_alone (Several count first) = false
  is_alone (Many first) = false
  is_alone (Split more base) = false

  -- the value of the chunk if it has one range, and this range has a value
  abbrev pub value_alone : Chunk T → Option T
  value_alone (Alone valued v) = cond valued (Some v) None
  value_alone (Bitmap rest starts first) = None
  value_alone (Full count first) = None
  value_alone (Several count first) = None
  value_alone (Many first) = None
  value_alone (Split more base) = None

-- one of so many places of a list, from j on, is k
pub record IsListed (places : List ℕ) (j count k : ℕ) : Type 0 where
  pub at : ℕ
  pub from : j ≤ at
  pub below : at < count
  pub is : (d : ℕ) → slice_index_or places at d ≡ k

module _ {K T : Type 0} (bits : K → List Bool) where
  -- each address has an entry that is right for it
  abbrev pub HaveEntries : List (ℕ × Option T) → List K → List (Chunk T) → Type 0
  HaveEntries rs addresses entries = (k : ℕ) (a : K) (d : Chunk T) → k < length addresses
      → IsEntryAt rs (bits (slice_index_or addresses k a)) (slice_index_or entries k d)

  -- each address has an entry that is right for it unless it is split
  abbrev pub HaveWholeEntries : List (ℕ × Option T) → List K → List (Chunk T) → Type 0
  HaveWholeEntries rs addresses entries = (k : ℕ) (a : K) (d : Chunk T) → k < length addresses → IsWhole (slice_index_or entries k d)
      → IsEntryAt rs (bits (slice_index_or addresses k a)) (slice_index_or entries k d)

  -- the result of address k is its value, where the results of the addresses begin at a place
  abbrev pub IsFound : List (ℕ × Option T) → List K → ℕ → List (Option T) → ℕ → Type 0
  IsFound rs addresses from out k = (a : K) (v : Option T) → slice_index_or out (from + k) v ≡ value_along None rs (number (bits (slice_index_or addresses k a)))

  -- address k has its value, or is one of so many that are listed, from j on
  abbrev pub IsFoundOrListed : List (ℕ × Option T) → List K → List ℕ → ℕ → ℕ → ℕ → List (Option T) → ℕ → Type 0
  IsFoundOrListed rs addresses places j count from out k = (IsListed places j count k → ⊥) → IsFound rs addresses from out k

  -- each of so many places of a list has the number of the range of its address
  abbrev pub AreRanges : List (ℕ × Option T) → List K → List ℕ → List ℕ → ℕ → Type 0
  AreRanges rs addresses places ranges count = (j d e : ℕ) (a : K) → j < count
      → IsRangeOf rs (slice_index_or ranges j e) (number (bits (slice_index_or addresses (slice_index_or places j d) a)))

-- so many places of a list are those of addresses whose chunks have several ranges
pub record AreSeveral {K T : Type 0} (addresses : List K) (entries : List (Chunk T)) (places : List ℕ) (count : ℕ) : Type 0 where
  pub inside : (j d : ℕ) → j < count → slice_index_or places j d < length addresses
  pub several : (j d : ℕ) (e : Chunk T) → j < count → is_alone (slice_index_or entries (slice_index_or places j d) e) ≡ false
