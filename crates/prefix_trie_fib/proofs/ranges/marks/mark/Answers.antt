-- The bit of the place is set, and no other bit.
use Rattle.std.proofs.Common.{◌∙◌, sym}
use Rattle.prefix_trie_fib.proofs.Gaps.{bit_marks, mark_is}
use Rattle.prefix_trie_fib.proofs.ranges.marks.mark.Goals as goal

pub with_bit-requires-clause-clear : goal.with_bit-requires-clause-clear
with_bit-requires-clause-clear c = sym (mark_is c.args.words.now c.args.i) ∙ c.requires.clear

pub returns-clause-marks : goal.returns-clause-marks
returns-clause-marks c = bit_marks c.args.words.now c.args.i c.with_bit.result c.requires.inside c.with_bit.ensures.sets
