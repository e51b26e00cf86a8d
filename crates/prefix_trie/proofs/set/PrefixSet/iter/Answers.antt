-- The walk of a set is the walk of its map of units.
use Rattle.prefix_trie.proofs.Prelude.{rules}
use Rattle.prefix_trie.proofs.set.PrefixSet.iter.Goals as goal

pub returns-clause-items : goal.returns-clause-items
returns-clause-items g c = search rules
