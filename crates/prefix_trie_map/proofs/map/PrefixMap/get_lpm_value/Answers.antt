-- The value is the one beside the longest match.
use Rattle.prefix_trie_map.proofs.Prelude.{rules}
use Rattle.prefix_trie_map.proofs.map.PrefixMap.get_lpm_value.Goals as goal

pub returns : goal.returns
returns g c = search rules
