-- Removing from a set is removing a unit from its map: the prefix was in the set if there was one.
use Rattle.prefix_trie.proofs.Prelude.{subst, Remove, StepByPath, stored_state}
use Rattle.prefix_trie.proofs.RemovalReplies.{as_removed}
use Rattle.prefix_trie.proofs.set.PrefixSet.remove.Goals as goal

pub returns-clause-entries : goal.returns-clause-entries
returns-clause-entries g c = rw (← c.self.view_is) c.remove.ensures.entries

pub returns-clause-nodes : goal.returns-clause-nodes
returns-clause-nodes g c = rw (← c.self.view_is) c.remove.ensures.nodes

pub returns-clause-step : goal.returns-clause-step
returns-clause-step g c =
    rw (← c.self.view_is) (subst (λ r. StepByPath g.P.R.Key.bit_width (stored_state c.self.inside.map) (Remove (g.P.Prefix.path c.args.prefix.now)) r (stored_state c.remove.new.self))
    (as_removed c.remove.result c.is_some.result c.is_some.ensures) c.remove.ensures.step)
