-- The bytes after one more row, or a part of its line, was printed. Proves the loop of `print_each`.
use Rattle.std.proofs.Common.{◌≡◌, ℕ, ◌+◌, ◌-◌, Bool, true, ◌&&◌, IsTrue, List, [], ◌∷◌, ◌++◌, map, length, take, drop, ap, sym, ◌∙◌, append_assoc, take-append-drop}
use Rattle.std.proofs.lemmas.Bool.{and_parts}
use Rattle.std.proofs.lemmas.List.{flat_map_more, map-append, take_rest}
use Rattle.prefix_trie_rows.specs.Lines.{row_line, lines_ok, lines_of, Begins, BeginsLines}

-- The lines after one more.
pub lines_more : (outcomes : List (ℕ × Bool)) (number : ℕ) (holds : Bool) → lines_of (outcomes ++ (number, holds) ∷ []) ≡ lines_of outcomes ++ row_line number holds
lines_more outcomes number holds = sym (flat_map_more (λ row. row_line row.0 row.1) [] outcomes (number, holds))

module _ (numbers : List ℕ) (i number : ℕ) (grown : take (i + 1) numbers ≡ take i numbers ++ number ∷ []) (outcomes : List (ℕ × Bool)) where
  pub numbers_more : (holds : Bool) → map (λ row. row.0) outcomes ≡ take i numbers → map (λ row. row.0) (outcomes ++ (number, holds) ∷ []) ≡ take (i + 1) numbers
  numbers_more holds same = map-append (λ row. row.0) outcomes ((number, holds) ∷ []) ∙ ap (λ ns. ns ++ number ∷ []) same ∙ sym grown

  -- The beginning of the lines, after the first bytes of one more.
  pub begins_more : (holds : Bool) (bs : List ℕ) → map (λ row. row.0) outcomes ≡ take i numbers → Begins bs (row_line number holds) → BeginsLines numbers (lines_of outcomes ++ bs)
  begins_more holds bs same begins = (
    i + 1,
    outcomes ++ (number, holds) ∷ [],
    numbers_more holds same,
    (begins.0, lines_more outcomes number holds ∙ ap (λ l. lines_of outcomes ++ l) begins.1 ∙ sym (append_assoc (lines_of outcomes) bs begins.0)),
  )

  -- The lines of rows that all held, after one more that held.
  pub all_more : (all holds : Bool) → (IsTrue all → lines_of outcomes ≡ lines_ok (take i numbers)) → IsTrue (all && holds) → lines_of (outcomes ++ (number, holds) ∷ []) ≡ lines_ok (take (i + 1) numbers)
  all_more all holds ok both =
      let parts = and_parts all holds both in
      lines_more outcomes number holds ∙ ap (λ h. lines_of outcomes ++ row_line number h) parts.1 ∙ ap (λ l. l ++ row_line number true) (ok parts.0)
      ∙ flat_map_more (λ n. row_line n true) [] (take i numbers) number ∙ ap lines_ok (sym grown)

-- The bytes that are left after n more were written.
pub moves_front : (all done rest : List ℕ) (n : ℕ) → all ≡ done ++ rest → all ≡ (done ++ take n rest) ++ take (length rest - n) (drop n rest)
moves_front all done rest n e =
    e ∙ ap (λ l. done ++ l) (sym (take-append-drop n rest)) ∙ sym (append_assoc done (take n rest) (drop n rest)) ∙ ap (λ l. (done ++ take n rest) ++ l) (sym (take_rest rest n))
