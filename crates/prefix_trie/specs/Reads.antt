-- The numbers that a note has. This project's own.
use Rattle.std.specs.Prelude.{ℕ, List, [], ◌∷◌, ◌++◌, Option, Some, None}
use Rattle.std.specs.declared.snapshot.Snapshot.{Snapshot}

-- the numbers of the note before it and one more, or no numbers if there is no note
abbrev pub noted : Option (Snapshot (List (Option ℕ))) → Option ℕ → List (Option ℕ)
noted None read = []
noted (Some before) read = before.value ++ read ∷ []
