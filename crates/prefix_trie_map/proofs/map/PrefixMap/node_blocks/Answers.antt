-- The counts of blocks are the table's, and a map's state is the state of its table.
use Rattle.prefix_trie_map.proofs.Prelude.{rules}
use Rattle.prefix_trie_map.proofs.map.PrefixMap.node_blocks.Goals as goal

pub returns-clause-counts : goal.returns-clause-counts
returns-clause-counts g c = search rules

pub returns-clause-slots : goal.returns-clause-slots
returns-clause-slots g c = search rules

pub returns-clause-blocks : goal.returns-clause-blocks
returns-clause-blocks g c = search rules

pub returns-clause-used : goal.returns-clause-used
returns-clause-used g c = search rules
