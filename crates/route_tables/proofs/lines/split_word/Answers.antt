-- Splitting off a word, in two cases: only white space is left, or the word ends at the next white space.
use Rattle.std.proofs.Common.{rules}
use Rattle.route_tables.proofs.Reading.LineTexts.{words_cut, words_none}
use Rattle.route_tables.proofs.lines.split_word.Goals as goal

pub returns-then-is_empty : goal.returns-then-is_empty
returns-then-is_empty c = words_none c.args.text.now c.trim_ascii_start-text.result.now c.trim_ascii_start-text.ensures.value (search rules)

pub returns : goal.returns
returns c =
    let cut = words_cut c.args.text.now c.trim_ascii_start-text.result.now c.trim_ascii_start-text.ensures.value (search rules) in
    rw c.split_at.ensures.front (rw c.split_at.ensures.back (rw c.word_len.ensures.value cut))
