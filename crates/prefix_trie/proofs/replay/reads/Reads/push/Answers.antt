-- The reads of a call come last.
use Rattle.prefix_trie.proofs.Prelude.{rules}
use Rattle.prefix_trie.proofs.replay.reads.Reads.push.Goals as goal

pub returns : goal.returns
returns c = search rules
