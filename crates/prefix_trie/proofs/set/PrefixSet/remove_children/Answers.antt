-- Splitting off a set is splitting off its map, so entries and nodes of both sets are the step's.
use Rattle.prefix_trie.proofs.Prelude.{subst, Contents, SplitsOffInStorage, stored_state}
use Rattle.prefix_trie.proofs.set.PrefixSet.remove_children.Goals as goal

pub returns-clause-step : goal.returns-clause-step
returns-clause-step g c =
    subst (λ (m : Contents (Unit {0})). SplitsOffInStorage (stored_state m) (g.P.Prefix.path c.args.prefix.now) (stored_state c.in_ok-map.map) (stored_state c.remove_children.new.self)) c.self.view_is
    c.in_ok-map.ensures.step

pub returns-clause-split_off : goal.returns-clause-split_off
returns-clause-split_off g c = (returns-clause-step g c).splits_off.split_off

pub returns-clause-split_nodes : goal.returns-clause-split_nodes
returns-clause-split_nodes g c = (returns-clause-step g c).splits_off.split_nodes

pub returns-clause-entries : goal.returns-clause-entries
returns-clause-entries g c = (returns-clause-step g c).splits_off.left

pub returns-clause-nodes : goal.returns-clause-nodes
returns-clause-nodes g c = (returns-clause-step g c).splits_off.left_nodes
