-- A set contains a prefix if its map of units has that key.
use Rattle.prefix_trie.proofs.Prelude.{rules}
use Rattle.prefix_trie.proofs.set.PrefixSet.contains.Goals as goal

pub returns : goal.returns
returns g c = search rules
