-- Clearing a set is clearing its map of units.
use Rattle.prefix_trie.proofs.Prelude.{rules}
use Rattle.prefix_trie.proofs.set.PrefixSet.clear.Goals as goal

pub returns-clause-entries : goal.returns-clause-entries
returns-clause-entries g c = search rules

pub returns-clause-nodes : goal.returns-clause-nodes
returns-clause-nodes g c = search rules

pub returns-clause-step : goal.returns-clause-step
returns-clause-step g c = search rules
