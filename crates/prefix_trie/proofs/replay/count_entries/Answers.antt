-- The reply has the number of entries that `len` returns.
use Rattle.prefix_trie.proofs.Prelude.{rules}
use Rattle.prefix_trie.proofs.replay.count_entries.Goals as goal

pub returns : goal.returns
returns g c = search rules
