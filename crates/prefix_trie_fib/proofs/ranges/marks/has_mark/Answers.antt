-- The bit of a place says whether it is marked.
use Rattle.std.proofs.Common.{◌∙◌, sym}
use Rattle.prefix_trie_fib.proofs.Gaps.{mark_is}
use Rattle.prefix_trie_fib.proofs.ranges.marks.has_mark.Goals as goal

pub returns : goal.returns
returns c = c.has_bit.ensures ∙ sym (mark_is c.args.words.now c.args.i)
