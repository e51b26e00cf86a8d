-- Inserting at a remembered end of a search is a step of the model, or a refusal.
use Rattle.prefix_trie_map.proofs.Prelude.{◌≡◌, Some, IfOk, sym, subst, Insert, StepByPath, seat_of, IsSearchEnd, Contents, stored_state, insert_new_reply}
use Rattle.prefix_trie_map.proofs.NewKeys.{Places, places}
use Rattle.prefix_trie_map.proofs.Steps.{by_key, is_map, stays}
use Rattle.prefix_trie_map.proofs.map.PrefixMap.insert_located.Given as given
use Rattle.prefix_trie_map.proofs.map.PrefixMap.insert_located.Goals as goal

pub insert_located-requires-clause-end : goal.insert_located-requires-clause-end
insert_located-requires-clause-end g c =
    by_key (λ (m : Contents g.row.T.Denot) q. IsSearchEnd m.build q c.args.end) (sym c.self.view_is) (sym c.path.ensures.path) c.requires.end

step : (g : given.Over) (c : goal.After-insert_located g) → StepByPath g.P.R.Key.bit_width (stored_state c.args.self.now) (Insert (g.P.Prefix.path c.args.prefix.now) c.args.value)
    (insert_new_reply c.insert_located.result) (stored_state c.insert_located.new.self)
step g c =
    by_key (λ old k. StepByPath g.P.R.Key.bit_width (stored_state old) (Insert k c.args.value) (insert_new_reply c.insert_located.result) (stored_state c.insert_located.new.self)) c.self.view_is c.path.ensures.path
    (c.insert_located.ensures.step g.P.R.Key.bit_width)

-- what the call says of the map
left : (g : given.Over) (c : goal.After-insert_located g) → Places g.P.R.Key.bit_width c.args.self.now c.insert_located.new.self (g.P.Prefix.path c.args.prefix.now) c.args.value c.insert_located.result
left g c =
    places g.P.R.Key.bit_width c.args.self.now c.insert_located.new.self (g.P.Prefix.path c.args.prefix.now) c.args.value c.insert_located.result
    c.requires.absent (is_map c.self.view_is c.self.invariant).are_nodes (step g c) c.insert_located.ensures.returned

pub invariant_of-self : goal.invariant_of-self
invariant_of-self g c = stays c.self.view_is c.self.invariant c.path.ensures.short (step g c)

pub returns-clause-seat : goal.returns-clause-seat
returns-clause-seat g c =
    subst (λ q. IfOk c.insert_located.result (λ seat. seat_of c.insert_located.new.self.build q ≡ Some seat)) c.path.ensures.path c.insert_located.ensures.seat

pub returns-clause-entries : goal.returns-clause-entries
returns-clause-entries g c = (left g c).entries

pub returns-clause-nodes : goal.returns-clause-nodes
returns-clause-nodes g c = (left g c).nodes

pub returns-clause-unchanged : goal.returns-clause-unchanged
returns-clause-unchanged g c = (left g c).unchanged

pub returns-clause-step : goal.returns-clause-step
returns-clause-step g c = (left g c).step

pub returns-clause-refuses : goal.returns-clause-refuses
returns-clause-refuses g c = (left g c).refuses
