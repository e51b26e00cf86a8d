-- The set calls the test with each network of the family, and leaves it as its own calls leave it.
use Rattle.std.proofs.Common.{sym, ap, ◌∙◌, subst}
use Rattle.prefix_trie.specs.Terms.{listing}
use Rattle.prefix_trie_bits.specs.Calls.Retaining.{RetainsEntriesTo}
use Rattle.prefix_trie_bits.proofs.Model.RetainCalls.{unchanged_to}
use Rattle.prefix_trie.specs.Sets.{CalledAtKey, TakesKey}
use Rattle.prefix_trie_joint.specs.Joined.{under}
use Rattle.prefix_trie_joint.specs.Networks.{ip_back}
use Rattle.prefix_trie_joint.proofs.Retain.{callable_of_family, retains_of_family}
use Rattle.prefix_trie_joint.proofs.set.retain.retain_family.Goals as goal

pub retain_by_ref-requires : goal.retain_by_ref-requires
retain_by_ref-requires g c =
    callable_of_family g.P.Family.bit (CalledAtKey g.F.FnMut ip_back) _ (λ f. f.0.now)
    (λ f k v b f' asked. record { prefix = asked.called.met.1.0; shows = asked.called.met.1.1 ∙ ap g.P.Family.as_ip asked.shows ∙ g.met.P.Family.back_is k; called = asked.called.met.1.2 })
    (TakesKey g.F.FnMut ip_back) _ (λ f k v may p is p' here. may p' (here ∙ ap g.P.Family.as_ip is ∙ g.met.P.Family.back_is k)) _ (listing c.args.set.now.entries) c.requires

pub returns-clause-kept : goal.returns-clause-kept
returns-clause-kept g c =
    let calls = c.retain_by_ref.ensures.kept in
    let same = unchanged_to _ (λ f. f.0.ghost_name) (λ f k v b f' asked. asked.called.met.0) _ _ _ _ calls in
    subst (λ f. RetainsEntriesTo (CalledAtKey g.F.FnMut ip_back) c.args.test.now (under g.P.Family.bit (listing c.args.set.now.entries)) (under g.P.Family.bit (listing c.retain_by_ref.new.self.entries)) f) (sym (c.test-1.given.1 (sym same)))
    (retains_of_family g.P.Family.bit (CalledAtKey g.F.FnMut ip_back) _ (λ f. f.0.now)
    (λ f k v b f' asked. record { prefix = asked.called.met.1.0; shows = asked.called.met.1.1 ∙ ap g.P.Family.as_ip asked.shows ∙ g.met.P.Family.back_is k; called = asked.called.met.1.2 }) _ _ _ _ calls)
