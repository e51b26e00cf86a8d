-- The reply has the longest match with its value copied, and the reads that `get_lpm_counted` returns.
use Rattle.prefix_trie.proofs.Prelude.{rules}
use Rattle.prefix_trie.proofs.replay.longest.Goals as goal

pub returns : goal.returns
returns g c = search rules
