-- Clearing is a step of the model, so the map keeps its invariant and has no entries and only the root.
use Rattle.prefix_trie_map.proofs.Prelude.{ap, subst, State, Clear, Done, StepByPath, Contents, stored_state}
use Rattle.prefix_trie_map.proofs.Steps.{stays}
use Rattle.prefix_trie_map.proofs.map.PrefixMap.clear.Goals as goal

pub returns-clause-step : goal.returns-clause-step
returns-clause-step g c = subst (λ (old : Contents g.row.T.Denot). StepByPath g.P.R.Key.bit_width (stored_state old) Clear Done (stored_state c.clear.new.self)) c.self.view_is (c.clear.ensures.step g.P.R.Key.bit_width)

pub invariant_of-self : goal.invariant_of-self
invariant_of-self g c = stays c.self.view_is c.self.invariant tt (returns-clause-step g c)

pub returns-clause-entries : goal.returns-clause-entries
returns-clause-entries g c = ap (λ (s : State g.row.T.Denot). s.entries) (returns-clause-step g c).step.1

pub returns-clause-nodes : goal.returns-clause-nodes
returns-clause-nodes g c = ap (λ (s : State g.row.T.Denot). s.nodes) (returns-clause-step g c).step.1
