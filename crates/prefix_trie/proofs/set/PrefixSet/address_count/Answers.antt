-- The addresses of a set are those of its map of units.
use Rattle.prefix_trie.proofs.Prelude.{rules}
use Rattle.prefix_trie.proofs.set.PrefixSet.address_count.Goals as goal

pub returns-clause-count : goal.returns-clause-count
returns-clause-count g c = search rules
