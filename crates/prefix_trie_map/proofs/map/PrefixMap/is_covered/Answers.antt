-- A path is covered if it has a shortest match.
use Rattle.prefix_trie_map.proofs.Prelude.{rules}
use Rattle.prefix_trie_map.proofs.map.PrefixMap.is_covered.Goals as goal

pub returns : goal.returns
returns g c = search rules
