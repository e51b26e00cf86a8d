-- A loop over a set gives the keys of its walk.
use Rattle.prefix_trie.proofs.Prelude.{rules}
use Rattle.prefix_trie.proofs.set.iter.RefPrefixSetIntoIterator.into_iter.Goals as goal

pub returns : goal.returns
returns g c = search rules
