-- A clone of a walk has the same items to come.
use Rattle.prefix_trie_map.proofs.Prelude.{rules}
use Rattle.prefix_trie_map.proofs.map.iter.Iter.clone.Goals as goal

pub returns : goal.returns
returns g c = search rules
