-- The array ends with the walk or is full, and begins with the entries of the walk in both cases.
use Rattle.std.proofs.Common.{length, refl, rules}
use Rattle.prefix_trie_c.proofs.Arrays.{reads_none, reads_more, reads_to_end, reads_full}
use Rattle.prefix_trie_c.proofs.calls.read.Goals as goal

pub loop-i-init : goal.loop-i-init
loop-i-init g c = reads_none refl

pub loop-i-preserved : goal.loop-i-preserved
loop-i-preserved g c = reads_more c.loop-i.invariant c.in-Some.ensures.steps c.of.ensures (search rules)

pub returns-in_default : goal.returns-in_default
returns-in_default g c = reads_to_end c.loop-i.invariant (length c.args.entries.now) c.in_default.ensures.steps.0 (search rules)

pub returns : goal.returns
returns g c = reads_full c.loop-i.invariant (search rules) (search rules)
