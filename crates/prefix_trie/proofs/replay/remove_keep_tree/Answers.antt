-- A reply to `RemoveKeepTree` is a step of the model with storage, as `remove_keep_tree` promises by path.
use Rattle.prefix_trie.proofs.ByPrefix.{keep_tree_step}
use Rattle.prefix_trie.proofs.replay.remove_keep_tree.Goals as goal

pub returns : goal.returns
returns g c = keep_tree_step g.P.Prefix.path g.P.Prefix.back g.P.R.Key.bit_width _ _ c.args.prefix.now c.remove_keep_tree.result c.remove_keep_tree.ensures.step
