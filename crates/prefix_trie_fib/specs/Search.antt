-- Which range of a division an address is in.
use Rattle.std.specs.Prelude.{◌≡◌, ℕ, ◌+◌, ◌<◌, ◌≤◌, Bool, List, length, MatchOption, Option, slice_index_or}
use Rattle.prefix_trie_bits.specs.Model.Bits.{number}

module _ {V : Type 0} where
  -- there is a range i, and it starts at n or before it
  pub record StartsBy (rs : List (ℕ × V)) (i n : ℕ) : Type 0 where
    pub inside : i < length rs
    pub by : (d : ℕ × V) → (slice_index_or rs i d).0 ≤ n

  -- no range from i on starts before n
  abbrev pub EndsBy : List (ℕ × V) → ℕ → ℕ → Type 0
  EndsBy rs i n = (k : ℕ) (d : ℕ × V) → i ≤ k → k < length rs → n ≤ (slice_index_or rs k d).0

  -- range i is the last that starts at n or before it
  pub record IsRangeOf (rs : List (ℕ × V)) (i n : ℕ) : Type 0 where
    pub starts : StartsBy rs i n
    pub ends : (d : ℕ × V) → i + 1 < length rs → n < (slice_index_or rs (i + 1) d).0

  -- range i is that of the next address, or i is the number of ranges if there is none
  abbrev pub IsRangeOfNext : {K : Type 0} → (K → List Bool) → List (ℕ × V) → Option K → ℕ → Type 0
  IsRangeOfNext bits rs next i = MatchOption next (i ≡ length rs) (λ k. IsRangeOf rs i (number (bits k)))

  -- that range is one of so many from the range i on
  pub record IsAmong (rs : List (ℕ × V)) (i count n : ℕ) : Type 0 where
    pub starts : StartsBy rs i n
    pub some : 0 < count
    pub inside : i + count ≤ length rs
    pub above : (k : ℕ) (d : ℕ × V) → i + count ≤ k → k < length rs → n < (slice_index_or rs k d).0
