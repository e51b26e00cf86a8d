-- A prefix is covered in a set if it is covered in its map.
use Rattle.prefix_trie.proofs.Prelude.{rules}
use Rattle.prefix_trie.proofs.set.PrefixSet.is_covered.Goals as goal

pub returns : goal.returns
returns g c = search rules
