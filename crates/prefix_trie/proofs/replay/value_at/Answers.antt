-- The reply has the value of exactly this prefix, and the reads that `get_counted` returns.
use Rattle.prefix_trie.proofs.Prelude.{rules}
use Rattle.prefix_trie.proofs.replay.value_at.Goals as goal

pub returns : goal.returns
returns g c = search rules
