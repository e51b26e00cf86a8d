-- After a loop that goes to the end of a writing walk, the walk has no entry left to write.
use Rattle.prefix_trie.proofs.Rewriting.{only_once}
use Rattle.prefix_trie.proofs.laws.rewrite_laws.Goals as goal

pub returns : goal.returns
returns g c = record { only_once = only_once }
