-- A prefix passes if the map does not have it.
use Rattle.std.proofs.Common.{rules}
use Rattle.prefix_trie_ops.proofs.map.difference_walk.MissingPathTest.passes.Goals as goal

pub returns : goal.returns
returns g c = search rules
