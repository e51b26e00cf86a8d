-- Freeing spare capacity leaves the map of units as it was.
use Rattle.prefix_trie.proofs.Prelude.{rules}
use Rattle.prefix_trie.proofs.set.PrefixSet.shrink_to_fit.Goals as goal

pub returns : goal.returns
returns g c = search rules
