-- The reply has the number of nodes that `node_count` returns.
use Rattle.prefix_trie.proofs.Prelude.{rules}
use Rattle.prefix_trie.proofs.replay.count_nodes.Goals as goal

pub returns : goal.returns
returns g c = search rules
