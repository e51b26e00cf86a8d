-- Removing a key and no node is removing a unit and no node from the map.
use Rattle.prefix_trie.proofs.Prelude.{rules, subst, RemoveKeepTree, StepByPath, stored_state}
use Rattle.prefix_trie.proofs.RemovalReplies.{as_removed}
use Rattle.prefix_trie.proofs.set.PrefixSet.remove_keep_tree.Goals as goal

pub returns-clause-was_in : goal.returns-clause-was_in
returns-clause-was_in g c = search rules

pub returns-clause-entries : goal.returns-clause-entries
returns-clause-entries g c = rw (← c.self.view_is) c.remove_keep_tree.ensures.entries

pub returns-clause-nodes : goal.returns-clause-nodes
returns-clause-nodes g c = rw (← c.self.view_is) c.remove_keep_tree.ensures.nodes

pub returns-clause-step : goal.returns-clause-step
returns-clause-step g c =
    rw (← c.self.view_is) (subst (λ r. StepByPath g.P.R.Key.bit_width (stored_state c.self.inside.map) (RemoveKeepTree (g.P.Prefix.path c.args.prefix.now)) r (stored_state c.remove_keep_tree.new.self))
    (as_removed c.remove_keep_tree.result c.is_some.result c.is_some.ensures) c.remove_keep_tree.ensures.step)
