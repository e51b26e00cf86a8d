-- Removing what a prefix contains from a set is the same call on its map of units.
use Rattle.prefix_trie.proofs.set.PrefixSet.drop_children.Goals as goal

pub returns-clause-entries : goal.returns-clause-entries
returns-clause-entries g c = rw (← c.self.view_is) c.drop_children.ensures.entries

pub returns-clause-nodes : goal.returns-clause-nodes
returns-clause-nodes g c = rw (← c.self.view_is) c.drop_children.ensures.nodes

pub returns-clause-step : goal.returns-clause-step
returns-clause-step g c = rw (← c.self.view_is) c.drop_children.ensures.step
