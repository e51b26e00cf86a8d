-- A reply to `Clear` is a step of the model with storage.
use Rattle.prefix_trie.proofs.ByPrefix.{clear_step}
use Rattle.prefix_trie.proofs.replay.clear.Goals as goal

pub returns : goal.returns
returns g c = clear_step g.P.Prefix.path g.P.Prefix.back g.P.R.Key.bit_width _ _ c.clear.ensures.step
