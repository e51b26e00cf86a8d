-- A prefix that is stored has a value to remove, so only the case of a value is left.
use Rattle.prefix_trie_map.proofs.map.PrefixMap.take.Goals as goal

pub returns-clause-entries : goal.returns-clause-entries
returns-clause-entries g c = c.in-Some.ensures.entries

pub returns-clause-nodes : goal.returns-clause-nodes
returns-clause-nodes g c = c.in-Some.ensures.nodes

pub returns-clause-step : goal.returns-clause-step
returns-clause-step g c = c.in-Some.ensures.step
