-- The shortest match is the one that was counted.
use Rattle.prefix_trie_map.proofs.Prelude.{rules}
use Rattle.prefix_trie_map.proofs.map.PrefixMap.get_spm_prefix.Goals as goal

pub returns : goal.returns
returns g c = search rules
