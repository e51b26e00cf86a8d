-- The number of slots is the table's, and a map's state is the state of its table.
use Rattle.prefix_trie_map.proofs.Prelude.{rules}
use Rattle.prefix_trie_map.proofs.map.PrefixMap.cell_slots.Goals as goal

pub returns-clause-slots : goal.returns-clause-slots
returns-clause-slots g c = search rules
