-- Iterating over a borrowed map is `iter`.
use Rattle.prefix_trie_map.proofs.Prelude.{rules}
use Rattle.prefix_trie_map.proofs.map.iter.RefPrefixMapIntoIterator.into_iter.Goals as goal

pub returns : goal.returns
returns g c = search rules
