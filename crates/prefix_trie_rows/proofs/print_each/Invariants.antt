-- The invariant of `print_each`: the lines written so far are the lines of the first rows, with their outcomes.
use Rattle.std.proofs.Common.{◌≡◌, ℕ, Bool, IsTrue, List, map, take}
use Rattle.std.specs.Io.KnownBytes.{Appends}
use Rattle.prefix_trie_rows.specs.Lines.{lines_ok, lines_of}
use Rattle.prefix_trie_rows.proofs.print_each.Given as goal

abbrev pub invariant-loop-number : goal.invariant-loop-number
invariant-loop-number g l =
    (outcomes : List (ℕ × Bool)) × (map (λ row. row.0) outcomes ≡ take l.number-index l.numbers)
    × Appends (g.W.Write.contents l.fn.out) (g.W.Write.contents l.out) (lines_of outcomes)
    × (IsTrue l.all_hold → lines_of outcomes ≡ lines_ok (take l.number-index l.numbers))
