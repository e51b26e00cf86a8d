-- How many entries a compiled table has, by its ranges. This project's own.
use Rattle.std.specs.Prelude.{◌≡◌, ℕ, ◌+◌, ◌*◌, ◌^◌, ◌<◌, ◌≤◌, ◌⊎◌, List, [], ◌∷◌, length, Option, None}

-- so many bits of an address of a width select a chunk, in an index of so many ranges
pub record AreIndexBits (width ranges bits : ℕ) : Type 0 where
  pub most : bits ≤ 20
  pub within : bits ≤ width
  -- at least 2^8 chunks, or one for each address
  pub least : (8 ≤ bits) ⊎ (bits ≡ width)
  -- not more chunks than ranges, except 2^8
  pub few : (bits ≤ 8) ⊎ (2 ^ bits ≤ ranges)
  -- twice as many would be more than the ranges, or than there can be
  pub many : (ranges < 2 * 2 ^ bits) ⊎ (bits ≡ 20) ⊎ (bits ≡ width)

-- so many chunks are in the index of a table: none if no address has a value, and one for each number of some bits otherwise
abbrev pub IsIndexSize : {T : Type 0} → ℕ → List (ℕ × Option T) → ℕ → Type 0
IsIndexSize width ranges size = ((ranges ≡ (0, None) ∷ []) × (size ≡ 0)) ⊎ ((bits : ℕ) × (size ≡ 2 ^ bits) × AreIndexBits width (length ranges) bits)

-- so many slots are in a table: one for each range and each chunk, and at most two for each range in the parts of chunks
pub record AreSlots {T : Type 0} (width : ℕ) (ranges : List (ℕ × Option T)) (slots : ℕ) : Type 0 where
  pub index : ℕ
  pub right : IsIndexSize width ranges index
  pub all : length ranges + index ≤ slots
  pub few : slots ≤ 3 * length ranges + index
