-- The recursion of `choose` ends, since each call is for a prefix that is one bit longer, up to the width.
use Rattle.std.proofs.Common.{◌-◌, ◌*◌, ◌+◌}
use Rattle.prefix_trie_ops.proofs.map.optimal.choosing.+choose.Given as goal

abbrev pub decreases-choose : goal.decreases-choose
decreases-choose g l = 2 * (g.P.R.Key.bit_width - g.P.Prefix.len_of l.at.now) + 1

abbrev pub decreases-choose_inner : goal.decreases-choose_inner
decreases-choose_inner g l = 2 * (g.P.R.Key.bit_width - g.P.Prefix.len_of l.at.now)
