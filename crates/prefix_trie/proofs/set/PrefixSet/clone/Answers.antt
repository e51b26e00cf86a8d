-- A clone of a set holds a clone of its map of units.
use Rattle.prefix_trie.proofs.Prelude.{rules}
use Rattle.prefix_trie.proofs.set.PrefixSet.clone.Goals as goal

pub returns : goal.returns
returns g c = search rules
