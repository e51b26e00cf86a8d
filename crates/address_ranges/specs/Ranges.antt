-- The ranges of a set. This project's own.
use Rattle.std.specs.Prelude.{ℕ, ◌-◌, ◌^◌, List, [], ◌∷◌}

-- the first and the last address of each range: from a breakpoint on, and before the next one or the end of all addresses
abbrev pub ranges_of : ℕ → List ℕ → List (ℕ × ℕ)
ranges_of width [] = []
ranges_of width (first ∷ []) = (first, 2 ^ width - 1) ∷ []
ranges_of width (first ∷ past ∷ ns) = (first, past - 1) ∷ ranges_of width ns
