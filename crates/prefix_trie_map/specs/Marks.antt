-- The number that a tally denotes. This project's own.
use Rattle.std.specs.Prelude.{ℕ, ◌+◌, Option, Some, None}
use Rattle.std.specs.declared.snapshot.Snapshot.{Snapshot}

-- one more than the tally before it, or 0 if there is no tally before it
abbrev pub marks : Option (Snapshot ℕ) → ℕ
marks None = 0
marks (Some before) = before.value + 1
