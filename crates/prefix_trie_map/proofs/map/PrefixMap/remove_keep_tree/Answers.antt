-- A removal that keeps the nodes is a step of the model, so the map keeps its invariant and loses only that entry.
use Rattle.prefix_trie_map.proofs.Prelude.{ap, State, RemoveKeepTree, Value, StepByPath, stored_state}
use Rattle.prefix_trie_map.proofs.Steps.{by_key, one_value, stays}
use Rattle.prefix_trie_map.proofs.map.PrefixMap.remove_keep_tree.Goals as goal

pub returns-clause-step : goal.returns-clause-step
returns-clause-step g c =
    by_key (λ old k. StepByPath g.P.R.Key.bit_width (stored_state old) (RemoveKeepTree k) (Value c.remove_keep_tree.result) (stored_state c.remove_keep_tree.new.self)) c.self.view_is c.path.ensures.path (c.remove_keep_tree.ensures.step g.P.R.Key.bit_width)

pub invariant_of-self : goal.invariant_of-self
invariant_of-self g c = stays c.self.view_is c.self.invariant c.path.ensures.short (returns-clause-step g c)

pub returns-clause-value : goal.returns-clause-value
returns-clause-value g c = one_value _ _ (returns-clause-step g c).step.0

pub returns-clause-entries : goal.returns-clause-entries
returns-clause-entries g c = ap (λ (s : State g.row.T.Denot). s.entries) (returns-clause-step g c).step.1

pub returns-clause-nodes : goal.returns-clause-nodes
returns-clause-nodes g c = ap (λ (s : State g.row.T.Denot). s.nodes) (returns-clause-step g c).step.1
