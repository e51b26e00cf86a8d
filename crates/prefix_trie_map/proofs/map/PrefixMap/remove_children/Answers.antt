-- Splitting off a map is a step of the model, since it is one of the table. Both maps keep the invariant.
use Rattle.prefix_trie_map.proofs.Prelude.{◌<◌, length, sym, subst, BoundsStorageGrowth, storage, err_from_is_err_and, IsMap, State, Storage, SplitsOffInStorage, split_laws, state, stored_state}
use Rattle.prefix_trie_map.proofs.Steps.{by_key}
use Rattle.prefix_trie_map.proofs.map.PrefixMap.remove_children.Goals as goal

pub remove_children-requires-clause-within : goal.remove_children-requires-clause-within
remove_children-requires-clause-within g c = c.self.invariant.keys_within

pub remove_children-requires-clause-nodes : goal.remove_children-requires-clause-nodes
remove_children-requires-clause-nodes g c = c.self.invariant.are_nodes

pub invariant_of-result : goal.invariant_of-result
invariant_of-result g c =
    ((split_laws _).are_maps g.P.R.Key.bit_width (state c.self.inside.table) _ (state c.in_ok-table.table) (state c.remove_children.new.self)
    c.self.invariant c.in_ok-table.ensures.split_off.splits_off).0

pub invariant_of-self-2 : goal.invariant_of-self-2
invariant_of-self-2 g c =
    ((split_laws _).are_maps g.P.R.Key.bit_width (state c.self.inside.table) _ (state c.in_ok-table.table) (state c.remove_children.new.self)
    c.self.invariant c.in_ok-table.ensures.split_off.splits_off).2

pub returns-clause-step : goal.returns-clause-step
returns-clause-step g c =
    by_key (λ old k. SplitsOffInStorage (stored_state old) k (stored_state c.in_ok-table.table) (stored_state c.remove_children.new.self)) c.self.view_is c.path.ensures.path
    c.in_ok-table.ensures.split_off

pub returns-clause-bounds_growth : goal.returns-clause-bounds_growth
returns-clause-bounds_growth g c =
    by_key (λ old k. 0 < length k → BoundsStorageGrowth (storage old) (storage c.remove_children.new.self)) c.self.view_is c.path.ensures.path c.in_ok-table.ensures.bounds_growth

pub returns-clause-split_off : goal.returns-clause-split_off
returns-clause-split_off g c = (returns-clause-step g c).splits_off.split_off

pub returns-clause-split_nodes : goal.returns-clause-split_nodes
returns-clause-split_nodes g c = (returns-clause-step g c).splits_off.split_nodes

pub returns-clause-entries : goal.returns-clause-entries
returns-clause-entries g c = (returns-clause-step g c).splits_off.left

pub returns-clause-nodes : goal.returns-clause-nodes
returns-clause-nodes g c = (returns-clause-step g c).splits_off.left_nodes

pub returns-in_err-table-clause-only_memory : goal.returns-in_err-table-clause-only_memory
returns-in_err-table-clause-only_memory g c =
    let p = err_from_is_err_and c.from_residual.result c.from_residual.ensures.1 in rw (p.1, p.2) c.in_err-table.ensures.memory

pub returns-in_err-table-clause-unchanged : goal.returns-in_err-table-clause-unchanged
returns-in_err-table-clause-unchanged g c =
    let p = err_from_is_err_and c.from_residual.result c.from_residual.ensures.1 in rw (p.1, ← c.self.view_is) c.in_err-table.ensures.kept

pub invariant_of-self : goal.invariant_of-self
invariant_of-self g c = subst (λ (s : State g.row.T.Denot × Storage). IsMap g.P.R.Key.bit_width s.0) (sym c.in_err-table.ensures.kept) c.self.invariant
