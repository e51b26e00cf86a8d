-- A line that is written goes after those before it. If writing fails, what is written begins the lines of all rows.
use Rattle.std.proofs.Common.{rules, ◌∷◌, [], ◌++◌, refl, subst, sym}
use Rattle.std.specs.Io.KnownBytes.{Appends}
use Rattle.std.proofs.KnownBytes.{Appends-trans}
use Rattle.std.proofs.lemmas.List.{take_more}
use Rattle.prefix_trie_rows.specs.Lines.{lines_of}
use Rattle.prefix_trie_rows.proofs.Printing.{lines_more, numbers_more, begins_more, all_more}
use Rattle.prefix_trie_rows.proofs.print_each.Goals as goal

pub returns-then-not-print_line-clause-begins : goal.returns-then-not-print_line-clause-begins
returns-then-not-print_line-clause-begins g c =
    let (outcomes, same, appended, all) = c.loop-number.invariant in
    let (bs, more, begins) = c.print_line.ensures.begins in
    let i = c.loop-number.number-index in
    (lines_of outcomes ++ bs, Appends-trans _ _ _ _ _ appended more, begins_more _ i _ (take_more _ i 0 (search rules)) outcomes _ bs same begins)

pub loop-number-preserved : goal.loop-number-preserved
loop-number-preserved g c =
    let (outcomes, same, appended, all) = c.loop-number.invariant in
    let holds = c.row_holds-holds.result in
    let i = c.loop-number.number-index in
    let grown = take_more c.args.numbers.now i 0 (search rules) in (
      outcomes ++ (_, holds) ∷ [],
      numbers_more _ i _ grown outcomes holds same,
      subst (Appends _ _) (sym (lines_more outcomes _ holds)) (Appends-trans _ _ _ _ _ appended (c.if-not-print_line.ensures.written refl)),
      all_more _ i _ grown outcomes _ holds all,
    )
