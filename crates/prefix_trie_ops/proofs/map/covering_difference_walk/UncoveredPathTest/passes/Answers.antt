-- A prefix passes if no prefix of the map contains it.
use Rattle.std.proofs.Common.{rules}
use Rattle.prefix_trie_ops.proofs.map.covering_difference_walk.UncoveredPathTest.passes.Goals as goal

pub returns : goal.returns
returns g c = search rules
