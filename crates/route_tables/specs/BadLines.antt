-- The bad lines of a text, each with the reason; the first ones, and how many there are. This project's own.
use Rattle.std.specs.Prelude.{◌≡◌, ◌⊎◌, ℕ, ◌+◌, cond, nat_lt, List, [], ◌∷◌, ◌++◌, length, take}
use Rattle.route_tables.specs.Reasons.{IsReason}
use Rattle.route_tables.specs.Routes.{IsBad, IsGood}
use Rattle.route_tables.specs.declared.line.ReadError.TheVariants.{Line}
use Rattle.route_tables.specs.declared.messages.bad_lines.FoundBadLines.{FoundBadLines}
use Rattle.route_tables.specs.declared.load.BadLine.{BadLine}
use Rattle.route_tables.specs.declared.load.Reading.{Reading}

-- a bad line, with its number and the reason
pub record IsBadLine (reading : Reading) (number : ℕ) (line : List ℕ) (bad : BadLine) : Type 0 where
  pub named : bad.number ≡ number
  pub quoted : bad.text.now ≡ line
  pub is_bad : IsBad reading line
  pub reason : IsReason reading line (Line bad.error)

-- the list has exactly the bad lines, in order, each with its number; `before` lines are before these
abbrev pub AreBadLines : Reading → ℕ → List (List ℕ) → List BadLine → Type 0
AreBadLines reading before [] listed = listed ≡ []
AreBadLines reading before (line ∷ later) listed =
    (IsGood reading line × AreBadLines reading (before + 1) later listed)
    ⊎ ((bad : BadLine) × (rest : List BadLine) × IsBadLine reading (before + 1) line bad × AreBadLines reading (before + 1) later rest × (listed ≡ bad ∷ rest))

-- the first twenty of some bad lines, and how many there are
abbrev pub AreFirstOf : FoundBadLines → List BadLine → Type 0
AreFirstOf found all = (found.first.items ≡ take 20 all) × (found.count ≡ length all)

-- a line is added if it is bad
abbrev pub FindsLine : Reading → ℕ → List ℕ → FoundBadLines → FoundBadLines → Type 0
FindsLine reading number line before after =
    (IsGood reading line × (after.first.items ≡ before.first.items) × (after.count ≡ before.count))
    ⊎ ((bad : BadLine) × IsBadLine reading number line bad × (after.count ≡ before.count + 1)
    × (after.first.items ≡ cond (nat_lt before.count 20) (before.first.items ++ bad ∷ []) before.first.items))
