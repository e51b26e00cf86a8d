-- Freeing spare capacity leaves the table as it was.
use Rattle.prefix_trie_map.proofs.Prelude.{rules}
use Rattle.prefix_trie_map.proofs.map.PrefixMap.shrink_to_fit.Goals as goal

pub returns : goal.returns
returns g c = search rules
