-- One step of a pass over the breakpoints of two sets. This project's own.
use Rattle.std.specs.Prelude.{◌≡◌, ℕ, ◌<◌, ◌++◌, ◌||◌, Bool, true, cond, List, [], ◌∷◌, length, slice_index}
use Rattle.std.specs.Bool.{MatchBool, beq}
use Rattle.address_ranges.specs.Breaks.{is_odd}

-- a number is the next one of a list, from place i on, or it is below all of these
abbrev pub IsNextOf : List ℕ → ℕ → ℕ → Bool → Type 0
IsNextOf ns i at is_next = MatchBool is_next ((i < length ns) × (slice_index ns i ≡ at)) (i < length ns → at < slice_index ns i)

-- a number is the next one of two lists, from places i and j on: of either, or of both
pub record IsNext (left right : List ℕ) (i j at : ℕ) (in_left in_right : Bool) : Type 0 where
  pub left_is : IsNextOf left i at in_left
  pub right_is : IsNextOf right j at in_right
  pub some : (in_left || in_right) ≡ true

-- breakpoints after the step: one more, unless the membership of the addresses behind them all is as wanted
abbrev pub changed_to : Bool → List ℕ → ℕ → List ℕ
changed_to is_in ns at = cond (beq is_in (is_odd (length ns))) ns (ns ++ at ∷ [])
