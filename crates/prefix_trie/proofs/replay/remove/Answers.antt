-- A reply to `Remove` is a step of the model with storage, as `remove` promises by path.
use Rattle.prefix_trie.proofs.ByPrefix.{remove_step}
use Rattle.prefix_trie.proofs.replay.remove.Goals as goal

pub returns : goal.returns
returns g c = remove_step g.P.Prefix.path g.P.Prefix.back g.P.R.Key.bit_width _ _ c.args.prefix.now c.remove.result c.remove.ensures.step
