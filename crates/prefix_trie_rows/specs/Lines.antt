-- The lines that the program prints.
use Rattle.std.specs.Prelude.{◌≡◌, ℕ, Bool, true, List, ◌++◌, if◌then◌else◌, codes, map, take, flat_map}
use Rattle.std.specs.Fmt.{decimal}

-- The line of a row: its number, and whether it held.
abbrev pub row_line : ℕ → Bool → List ℕ
row_line number holds = codes "row " ++ decimal number ++ codes " " ++ (if holds then codes "ok" else codes "failed") ++ codes "\n"

-- The lines of rows with these numbers that all held, in order.
abbrev pub lines_ok : List ℕ → List ℕ
lines_ok numbers = flat_map (λ number. row_line number true) numbers

-- The lines of rows with these numbers and outcomes, in order.
abbrev pub lines_of : List (ℕ × Bool) → List ℕ
lines_of outcomes = flat_map (λ row. row_line row.0 row.1) outcomes

-- Some bytes are a beginning of others.
abbrev pub Begins : List ℕ → List ℕ → Type 0
Begins bs all = (rest : List ℕ) × (all ≡ bs ++ rest)

-- Some bytes are a beginning of the lines of rows with these numbers, whatever their outcomes.
abbrev pub BeginsLines : List ℕ → List ℕ → Type 0
BeginsLines numbers bs = (count : ℕ) × (outcomes : List (ℕ × Bool)) × (map (λ row. row.0) outcomes ≡ take count numbers) × Begins bs (lines_of outcomes)
