-- Making the blocks for a missing key leaves entries and nodes, and the insertion that follows cannot be refused.
use Rattle.prefix_trie_map.proofs.Prelude.{◌≡◌, Bool, List, IfErr, MatchResult, sym, subst, len, IndexRange, MayPassLimit, LeavesSpace, PreparesInStorage, RefusesInStorage, IsSearchEnd, Contents, state, storage}
use Rattle.prefix_trie_map.proofs.NewKeys.{space_refused, space_prepared}
use Rattle.prefix_trie_map.proofs.Steps.{by_key}
use Rattle.prefix_trie_map.proofs.map.PrefixMap.reserve.Given as given
use Rattle.prefix_trie_map.proofs.map.PrefixMap.reserve.Goals as goal

pub reserve-requires-clause-end : goal.reserve-requires-clause-end
reserve-requires-clause-end g c =
    by_key (λ (m : Contents g.row.T.Denot) q. IsSearchEnd m.build q c.args.end.now) (sym c.self.view_is) (sym c.path.ensures.path) c.requires.end

-- what holds of the table and the key's bits holds of the map and the prefix's path
by_path : (g : given.Over) (c : goal.After-reserve g) (F : Contents g.row.T.Denot → List Bool → Type 0) →
    F c.self.inside.table c.path.result → F c.args.self.now (g.P.Prefix.path c.args.prefix.now)
by_path g c F fact = by_key F c.self.view_is c.path.ensures.path fact

pub returns-clause-space : goal.returns-clause-space
returns-clause-space g c = by_path g c (λ old q. LeavesSpace (len old.nodes) old.space c.reserve.new.self.space) c.reserve.ensures.space

leaves : (g : given.Over) (c : goal.After-reserve g) → MatchResult c.reserve.result
    (λ _. PreparesInStorage (state c.args.self.now) (g.P.Prefix.path c.args.prefix.now) (storage c.args.self.now) (storage c.reserve.new.self))
    (λ cause. RefusesInStorage (state c.args.self.now) (g.P.Prefix.path c.args.prefix.now) cause (storage c.args.self.now) (storage c.reserve.new.self))
leaves g c =
    by_path g c (λ old q. MatchResult c.reserve.result
    (λ _. PreparesInStorage (state old) q (storage old) (storage c.reserve.new.self))
    (λ cause. RefusesInStorage (state old) q cause (storage old) (storage c.reserve.new.self))) c.reserve.ensures.prepares

pub returns-clause-end : goal.returns-clause-end
returns-clause-end g c = subst (λ q. IsSearchEnd c.reserve.new.self.build q c.args.end.now) c.path.ensures.path c.reserve.ensures.end

pub returns-clause-prepares : goal.returns-clause-prepares
returns-clause-prepares g c =
    space_prepared g.P.R.Key.bit_width (λ cause. cause) c.args.self.now c.reserve.new.self (g.P.Prefix.path c.args.prefix.now) c.reserve.result (leaves g c)

pub returns-clause-refuses : goal.returns-clause-refuses
returns-clause-refuses g c =
    space_refused g.P.R.Key.bit_width (λ cause. cause) c.args.self.now c.reserve.new.self (g.P.Prefix.path c.args.prefix.now) c.reserve.result c.requires.absent
    (returns-clause-space g c)
    (by_path g c (λ old q. (c.reserve.new.self.entries ≡ old.entries) × (c.reserve.new.self.nodes ≡ old.nodes)) c.reserve.ensures.unchanged)
    (leaves g c)
    (by_path g c (λ old q. IfErr c.reserve.result (λ cause. cause ≡ IndexRange → MayPassLimit old.space)) c.reserve.ensures.range)
