-- Splitting a text that is not empty into lines, in two cases: a line feed ends its first line, or it has only one line.
use Rattle.route_tables.proofs.Reading.LineTexts.{lines_cut, lines_whole}
use Rattle.route_tables.proofs.lines.split_line.Goals as goal

pub returns-then-end-text-clause-first : goal.returns-then-end-text-clause-first
returns-then-end-text-clause-first c = lines_cut c.args.text.now c.line_len-end.result c.line_len-end.ensures c.if-end-text.true

pub returns-else-end-text-clause-first : goal.returns-else-end-text-clause-first
returns-else-end-text-clause-first c = lines_whole c.args.text.now c.line_len-end.result c.line_len-end.ensures c.if-end-text.false c.requires
