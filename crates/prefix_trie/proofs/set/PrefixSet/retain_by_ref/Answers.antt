-- A test of keys is a test of entries that ignores the unit, so the set keeps what its map keeps, and the test is left
-- as its own calls leave it.
use Rattle.prefix_trie.proofs.Prelude.{rules, of_calls, sym, subst, CallableOnEachEntry, RetainsEntriesTo, RetainsInStorage, listing, Contents, stored_state, CalledAtKey, TakesKey}
use Rattle.prefix_trie.proofs.Closures.{may_ask_closure, retains_by_test, in_order_to}
use Rattle.prefix_trie_bits.proofs.Model.RetainCalls.{unchanged_to}
use Rattle.prefix_trie.proofs.set.PrefixSet.retain_by_ref.Goals as goal

pub retain_by_ref-requires : goal.retain_by_ref-requires
retain_by_ref-requires g c =
    may_ask_closure (CalledAtKey g.F.FnMut g.P.Prefix.back) _ (λ f. f.0.now)
    (λ f k v b f' asked. record { prefix = asked.prefix; shows = asked.shows.0; called = search (rules, of_calls, asked.called) })
    (TakesKey g.F.FnMut g.P.Prefix.back) _ (λ f k v may p q is eq. search (rules, of_calls, may p is)) _ (listing c.self.inside.map.entries)
    (subst (λ (m : Contents (Unit {0})). CallableOnEachEntry (CalledAtKey g.F.FnMut g.P.Prefix.back) (TakesKey g.F.FnMut g.P.Prefix.back) c.args.test.now (listing m.entries)) (sym c.self.view_is) c.requires)

pub returns-clause-kept : goal.returns-clause-kept
returns-clause-kept g c =
    let calls = c.retain_by_ref.ensures.kept in
    let same = unchanged_to _ (λ f. f.0.ghost_name) (λ f k v b f' asked. search (rules, of_calls, asked.called)) _ _ _ _ calls in
    subst (λ f. RetainsEntriesTo (CalledAtKey g.F.FnMut g.P.Prefix.back) c.args.test.now (listing c.args.self.now.entries) (listing c.retain_by_ref.new.self.entries) f) (sym (c.test-1.given.1 (sym same)))
    (subst (λ (m : Contents (Unit {0})). RetainsEntriesTo (CalledAtKey g.F.FnMut g.P.Prefix.back) c.args.test.now (listing m.entries) (listing c.retain_by_ref.new.self.entries) c.retain_by_ref.new.test.0.now) c.self.view_is
    (in_order_to (CalledAtKey g.F.FnMut g.P.Prefix.back) _ (λ f. f.0.now)
    (λ f k v b f' asked. record { prefix = asked.prefix; shows = asked.shows.0; called = search (rules, of_calls, asked.called) }) _ _ _ _ calls))

pub returns-clause-step : goal.returns-clause-step
returns-clause-step g c =
    subst (λ (m : Contents (Unit {0})). RetainsInStorage (CalledAtKey g.F.FnMut g.P.Prefix.back) c.args.test.now (stored_state m) (stored_state c.retain_by_ref.new.self)) c.self.view_is
    (retains_by_test (CalledAtKey g.F.FnMut g.P.Prefix.back) _ (λ f. f.0.now)
    (λ f k v b f' asked. record { prefix = asked.prefix; shows = asked.shows.0; called = search (rules, of_calls, asked.called) }) _ _ _ c.retain_by_ref.ensures.step)
