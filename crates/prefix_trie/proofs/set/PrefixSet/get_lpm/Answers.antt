-- The longest match in a set is the longest match in its map, without the unit.
use Rattle.prefix_trie.proofs.Prelude.{rules}
use Rattle.prefix_trie.proofs.set.PrefixSet.get_lpm.Goals as goal

pub returns : goal.returns
returns g c = search rules
