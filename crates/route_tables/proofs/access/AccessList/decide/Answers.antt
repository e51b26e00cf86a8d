-- The decision of each precedence.
use Rattle.std.proofs.Common.{◌≡◌, ◌↔◌, ◌∙◌, ap, subst, sym}
use Rattle.prefix_trie_joint.specs.Networks.{ip_path}
use Rattle.route_tables.specs.Access.{IsAllowed, IsAllowing, IsDenyFirstDecision, IsLongestDecision, decision, deny_first_decision, longest_decision}
use Rattle.route_tables.specs.declared.access.Precedence.TheVariants.{DenyFirst, Longest}
use Rattle.route_tables.proofs.AccessLists.{deny_first_allows, longest_allows}
use Rattle.route_tables.proofs.access.AccessList.decide.Goals as goal

pub returns-in-Longest-clause-value : goal.returns-in-Longest-clause-value
returns-in-Longest-clause-value c =
    c.longest_decision.ensures.value ∙ ap (λ m. longest_decision m (ip_path c.args.address.now)) c.self.view_is
    ∙ ap (λ p. decision p c.args.self.now (ip_path c.args.address.now)) (sym c.in-Longest.is)

pub returns-in-Longest-clause-longest : goal.returns-in-Longest-clause-longest
returns-in-Longest-clause-longest c _ = subst (λ m. IsLongestDecision m (ip_path c.args.address.now) c.longest_decision.result) c.self.view_is c.longest_decision.ensures.in_words

pub returns-in-Longest-clause-deny_first : goal.returns-in-Longest-clause-deny_first
returns-in-Longest-clause-deny_first c other = absurd (let e : Longest ≡ DenyFirst = sym c.in-Longest.is ∙ other in cc)

pub returns-in-Longest-clause-allowed : goal.returns-in-Longest-clause-allowed
returns-in-Longest-clause-allowed c =
    subst (λ p. IsAllowing c.longest_decision.result ↔ IsAllowed p c.args.self.now (ip_path c.args.address.now)) (sym c.in-Longest.is)
    (longest_allows c.match_laws.ensures c.args.self.now (ip_path c.args.address.now) c.longest_decision.result
    (subst (λ m. IsLongestDecision m (ip_path c.args.address.now) c.longest_decision.result) c.self.view_is c.longest_decision.ensures.in_words))

pub returns-in-DenyFirst-clause-value : goal.returns-in-DenyFirst-clause-value
returns-in-DenyFirst-clause-value c =
    c.deny_first_decision.ensures.value ∙ ap (λ m. deny_first_decision m (ip_path c.args.address.now)) c.self.view_is
    ∙ ap (λ p. decision p c.args.self.now (ip_path c.args.address.now)) (sym c.in-DenyFirst.is)

pub returns-in-DenyFirst-clause-longest : goal.returns-in-DenyFirst-clause-longest
returns-in-DenyFirst-clause-longest c other = absurd (let e : DenyFirst ≡ Longest = sym c.in-DenyFirst.is ∙ other in cc)

pub returns-in-DenyFirst-clause-deny_first : goal.returns-in-DenyFirst-clause-deny_first
returns-in-DenyFirst-clause-deny_first c _ = subst (λ m. IsDenyFirstDecision m (ip_path c.args.address.now) c.deny_first_decision.result) c.self.view_is c.deny_first_decision.ensures.in_words

pub returns-in-DenyFirst-clause-allowed : goal.returns-in-DenyFirst-clause-allowed
returns-in-DenyFirst-clause-allowed c =
    subst (λ p. IsAllowing c.deny_first_decision.result ↔ IsAllowed p c.args.self.now (ip_path c.args.address.now)) (sym c.in-DenyFirst.is)
    (deny_first_allows c.args.self.now (ip_path c.args.address.now) c.deny_first_decision.result
    (subst (λ m. IsDenyFirstDecision m (ip_path c.args.address.now) c.deny_first_decision.result) c.self.view_is c.deny_first_decision.ensures.in_words))
