-- Rebuilding the path of the prefix gives the stored prefix, in both cases of the lookup.
use Rattle.prefix_trie_map.proofs.Prelude.{rules}
use Rattle.prefix_trie_map.proofs.map.PrefixMap.get_key_value_counted.Goals as goal

pub returns-clause-value : goal.returns-clause-value
returns-clause-value g c = search rules
