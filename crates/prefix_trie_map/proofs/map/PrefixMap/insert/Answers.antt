-- An insertion is a step of the model, since it is one of the table, and the map keeps its invariant.
use Rattle.prefix_trie_map.proofs.Prelude.{Insert, StepByPath, state, stored_state, insert_reply}
use Rattle.prefix_trie_map.proofs.Insertions.{Inserts, inserts_are}
use Rattle.prefix_trie_map.proofs.Steps.{by_key, is_map, stays}
use Rattle.prefix_trie_map.proofs.map.PrefixMap.insert.Given as given
use Rattle.prefix_trie_map.proofs.map.PrefixMap.insert.Goals as goal

pub returns-clause-step : goal.returns-clause-step
returns-clause-step g c =
    by_key (λ old k. StepByPath g.P.R.Key.bit_width (stored_state old) (Insert k c.args.value) (insert_reply c.insert.result) (stored_state c.insert.new.self)) c.self.view_is c.path.ensures.path
    (c.insert.ensures.step g.P.R.Key.bit_width)

inserts : (g : given.Over) (c : goal.After-drop-prefix g) → Inserts (state c.args.self.now) (state c.insert.new.self) (g.P.Prefix.path c.args.prefix) c.args.value c.insert.result
inserts g c =
    inserts_are (state c.args.self.now) (state c.insert.new.self) (g.P.Prefix.path c.args.prefix) c.args.value
    (is_map c.self.view_is c.self.invariant).are_nodes c.insert.result (returns-clause-step g c).step

pub invariant_of-self : goal.invariant_of-self
invariant_of-self g c = stays c.self.view_is c.self.invariant c.path.ensures.short (returns-clause-step g c)

pub returns-clause-before : goal.returns-clause-before
returns-clause-before g c = (inserts g c).before

pub returns-clause-entries : goal.returns-clause-entries
returns-clause-entries g c = (inserts g c).entries

pub returns-clause-nodes : goal.returns-clause-nodes
returns-clause-nodes g c = (inserts g c).nodes

pub returns-clause-unchanged : goal.returns-clause-unchanged
returns-clause-unchanged g c = (inserts g c).unchanged
