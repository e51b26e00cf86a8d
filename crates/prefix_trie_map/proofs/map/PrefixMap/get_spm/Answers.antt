-- The shortest match is the first part of the result of `get_spm_counted`.
use Rattle.prefix_trie_map.proofs.Prelude.{rules}
use Rattle.prefix_trie_map.proofs.map.PrefixMap.get_spm.Goals as goal

pub returns : goal.returns
returns g c = search rules
