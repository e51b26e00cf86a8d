-- The recursion of `place` ends, since each call is for a prefix that is one bit longer, up to the width.
use Rattle.std.proofs.Common.{◌-◌, ◌*◌, ◌+◌}
use Rattle.prefix_trie_ops.proofs.map.optimal.placing.+place.Given as goal

abbrev pub decreases-place : goal.decreases-place
decreases-place g l = 2 * (g.P.R.Key.bit_width - g.P.Prefix.len_of l.at.now) + 1

abbrev pub decreases-place_inner : goal.decreases-place_inner
decreases-place_inner g l = 2 * (g.P.R.Key.bit_width - g.P.Prefix.len_of l.at.now)
