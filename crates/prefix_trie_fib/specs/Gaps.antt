-- How a line keeps its ranges: each with a value, and with a bit that is set if the range has none. This project's own.
use Rattle.std.specs.Prelude.{◌≡◌, ◌≢◌, ℕ, suc, ◌*◌, ◌/◌, ◌%◌, ◌≤◌, Bool, true, false, cond, List, [], ◌∷◌, length, Option, None, Some, slice_index_or}
use Rattle.prefix_trie_bits.specs.Places.{has}

-- whether the bit of a place is set, in words of 32 bits
unfoldable pub is_marked : List ℕ → ℕ → Bool
is_marked words i = has (slice_index_or words (i / 32) 0) (i % 32)

-- one more place is marked
pub record Marks (before : List ℕ) (i : ℕ) (after : List ℕ) : Type 0 where
  pub present : is_marked after i ≡ true
  pub others : (k : ℕ) → k ≢ i → is_marked after k ≡ is_marked before k

-- there is a bit for each of so many places, and no bit after them is set
pub record AreMarks (count : ℕ) (words : List ℕ) : Type 0 where
  pub enough : count ≤ 32 * length words
  pub clear : (i : ℕ) → count ≤ i → is_marked words i ≡ false

-- ranges from place i on, where those at the places of gaps have no value
abbrev pub with_gaps : {V : Type 0} → (ℕ → Bool) → ℕ → List (ℕ × V) → List (ℕ × Option V)
with_gaps gap i [] = []
with_gaps gap i (r ∷ rs) = (r.0, cond (gap i) None (Some r.1)) ∷ with_gaps gap (suc i) rs
