-- Each iteration writes a colon and one group in full, so all groups are written after the loop.
use Rattle.std.proofs.Common.{arith}
use Rattle.std.proofs.lemmas.Grind.{common_steps}
use Rattle.prefix_trie_bits.proofs.prefix.networks.text.GroupsDisplay.fmt.Goals as goal

pub loop-segment-preserved : goal.loop-segment-preserved
loop-segment-preserved g c = grind (arith, common_steps)

pub returns-after-loop-segment-clause-writes : goal.returns-after-loop-segment-clause-writes
returns-after-loop-segment-clause-writes g c = grind (arith, common_steps)
