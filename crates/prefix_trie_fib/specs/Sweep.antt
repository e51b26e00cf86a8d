-- The walk that compiles a map: the ranges that are done, and the intervals that reach beyond them. This project's own.
use Rattle.std.specs.Prelude.{◌≡◌, ℕ, ◌^◌, ◌<◌, ◌≤◌, ◌&&◌, Bool, not, cond, List, [], ◌∷◌, length, map, nat_le, Option, None, Some, slice_index_or}
use Rattle.prefix_trie_bits.specs.Model.Bits.{number}
use Rattle.prefix_trie_fib.specs.Line.{AreAlike, AreMerged, StartBelow, are_same, end_of, value_along}

module _ {T : Type 0} where
  -- An interval is the number where it ends, and a value. This is the value of the last one that does not end by n, or h if all do.
  abbrev pub value_within : Option T → List (ℕ × Option T) → ℕ → Option T
  value_within h [] n = h
  value_within h (s ∷ ss) n = value_within (cond (nat_le s.0 n) h s.1) ss n

  -- values in which the numbers from `low` on and below `high` have the value v
  abbrev pub with_interval : ℕ → ℕ → T → (ℕ → Option T) → ℕ → Option T
  with_interval low high v of n = cond (nat_le low n && not (nat_le high n)) (Some v) (of n)

  module _ (top : ℕ) (same : T → T → Bool) (of : ℕ → Option T) where
    -- a line has the values of the numbers below `at`, in as few ranges as there are
    pub record IsDoneTo (line : List (ℕ × Option T)) (at : ℕ) : Type 0 where
      pub some : 0 < at → 0 < length line
      pub first : (d : ℕ × Option T) → 0 < length line → (slice_index_or line 0 d).0 ≡ 0
      pub rising : (j k : ℕ) (d : ℕ × Option T) → j < k → k < length line → (slice_index_or line j d).0 < (slice_index_or line k d).0
      pub merged : AreMerged (are_same same) line
      pub below : StartBelow at line
      pub right : (n : ℕ) → n < at → n < top → AreAlike same (value_along None line n) (of n)

    -- and intervals have those of the others
    pub record IsSweptTo (line : List (ℕ × Option T)) (at : ℕ) (intervals : List (ℕ × Option T)) : Type 0 where
      pub done : IsDoneTo line at
      pub rest : (n : ℕ) → at ≤ n → n < top → of n ≡ value_within None intervals n

-- the same, where keys say where intervals end
abbrev pub IsSweep : {K T : Type 0} → ℕ → (K → List Bool) → (T → T → Bool) → (ℕ → Option T) → List (ℕ × Option T) → K → List (Option K × Option T) → Type 0
IsSweep {K} {T} width bits same of line at intervals = IsSweptTo (2 ^ width) same of line (number (bits at)) (map (λ s. (end_of width bits s.0, s.1)) intervals)
