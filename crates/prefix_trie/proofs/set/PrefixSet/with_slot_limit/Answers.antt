-- A new set holds a new map of units.
use Rattle.prefix_trie.proofs.Prelude.{rules}
use Rattle.prefix_trie.proofs.set.PrefixSet.with_slot_limit.Goals as goal

pub returns-clause-space : goal.returns-clause-space
returns-clause-space g c = search rules
