-- A reply to `RemoveChildren` is a step of the model with storage, as `drop_children` promises by path.
use Rattle.prefix_trie.proofs.ByPrefix.{children_step}
use Rattle.prefix_trie.proofs.replay.drop_children.Goals as goal

pub returns : goal.returns
returns g c = children_step g.P.Prefix.path g.P.Prefix.back g.P.R.Key.bit_width _ _ c.args.prefix.now c.drop_children.ensures.step
