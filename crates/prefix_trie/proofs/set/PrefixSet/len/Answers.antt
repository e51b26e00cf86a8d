-- A set has as many keys as its map of units has entries.
use Rattle.prefix_trie.proofs.Prelude.{rules}
use Rattle.prefix_trie.proofs.set.PrefixSet.len.Goals as goal

pub returns-clause-count : goal.returns-clause-count
returns-clause-count g c = search rules
