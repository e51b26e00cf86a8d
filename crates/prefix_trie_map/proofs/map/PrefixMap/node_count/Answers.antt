-- The number of nodes is the table's, and a map's state is the state of its table.
use Rattle.prefix_trie_map.proofs.Prelude.{rules}
use Rattle.prefix_trie_map.proofs.map.PrefixMap.node_count.Goals as goal

pub returns : goal.returns
returns g c = search rules
