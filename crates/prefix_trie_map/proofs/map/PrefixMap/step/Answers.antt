-- The next key of a walk is the table's next key, and a map's state is the state of its table.
use Rattle.prefix_trie_map.proofs.Prelude.{rules}
use Rattle.prefix_trie_map.proofs.map.PrefixMap.step.Goals as goal

pub returns-clause-key : goal.returns-clause-key
returns-clause-key g c = search rules
