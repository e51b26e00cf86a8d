-- Removing all that a prefix contains is a step of the model, since it is one of the table, and bounds how far the
-- arrays grow.
use Rattle.prefix_trie_map.proofs.Prelude.{◌<◌, ap, length, BoundsStorageGrowth, State, storage, RemoveChildren, Done, StepByPath, stored_state}
use Rattle.prefix_trie_map.proofs.Steps.{by_key, stays}
use Rattle.prefix_trie_map.proofs.map.PrefixMap.drop_children.Goals as goal

pub drop_children-requires-clause-within : goal.drop_children-requires-clause-within
drop_children-requires-clause-within g c = c.self.invariant.keys_within

pub drop_children-requires-clause-nodes : goal.drop_children-requires-clause-nodes
drop_children-requires-clause-nodes g c = c.self.invariant.are_nodes

pub returns-clause-step : goal.returns-clause-step
returns-clause-step g c =
    by_key (λ old k. StepByPath g.P.R.Key.bit_width (stored_state old) (RemoveChildren k) Done (stored_state c.drop_children.new.self)) c.self.view_is c.path.ensures.path (c.drop_children.ensures.step g.P.R.Key.bit_width)

pub invariant_of-self : goal.invariant_of-self
invariant_of-self g c = stays c.self.view_is c.self.invariant c.path.ensures.short (returns-clause-step g c)

pub returns-clause-entries : goal.returns-clause-entries
returns-clause-entries g c = ap (λ (s : State g.row.T.Denot). s.entries) (returns-clause-step g c).step.1

pub returns-clause-nodes : goal.returns-clause-nodes
returns-clause-nodes g c = ap (λ (s : State g.row.T.Denot). s.nodes) (returns-clause-step g c).step.1

pub returns-clause-bounds_growth : goal.returns-clause-bounds_growth
returns-clause-bounds_growth g c =
    by_key (λ old k. 0 < length k → BoundsStorageGrowth (storage old) (storage c.drop_children.new.self)) c.self.view_is c.path.ensures.path c.drop_children.ensures.bounds_growth
