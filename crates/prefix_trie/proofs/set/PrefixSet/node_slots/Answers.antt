-- The slots of a set are those of its map of units.
use Rattle.prefix_trie.proofs.Prelude.{rules}
use Rattle.prefix_trie.proofs.set.PrefixSet.node_slots.Goals as goal

pub returns-clause-slots : goal.returns-clause-slots
returns-clause-slots g c = search rules
