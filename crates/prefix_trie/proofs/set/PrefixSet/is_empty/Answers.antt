-- A set is empty if its map of units is.
use Rattle.prefix_trie.proofs.Prelude.{rules}
use Rattle.prefix_trie.proofs.set.PrefixSet.is_empty.Goals as goal

pub returns-clause-none : goal.returns-clause-none
returns-clause-none g c = search rules
