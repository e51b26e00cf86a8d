-- The rules of a list: what a text adds to it, and which decisions allow: for `AccessList`.
use Rattle.std.proofs.Common.{◌≡◌, ◌↔◌, ◌∙◌, ℕ, true, false, cond, Bool, List, [], ◌∷◌, All, None, Some, ap, arith, codes, inl, inr, is_some, length, subst, sym, suc, true≢false}
use Rattle.std.proofs.lemmas.List.Elements.{All-append, All-cons, All-nil}
use Rattle.std.specs.FinMap.{get, get-empty, get-insert}
use Rattle.std.specs.Option.{option_map_or}
use Rattle.std.specs.Ordering.{eq_by_cmp}
use Rattle.prefix_trie.specs.Terms.{listing_cmp, no_entries, with_entry, IsLongestMatch}
use Rattle.prefix_trie_bits.specs.Laws.Matches.{MatchLaws}
use Rattle.prefix_trie_bits.specs.Order.{listing_total}
use Rattle.prefix_trie_joint.specs.Networks.{ip_path}
use Rattle.prefix_trie_joint.specs.declared.prefix.IpPrefix.{IpPrefix}
use Rattle.route_tables.specs.Access.{IsAllowed, IsAllowing, IsDenyFirstDecision, IsLongestDecision}
use Rattle.route_tables.specs.Loads.{with_routes}
use Rattle.route_tables.specs.Routes.{AreFieldsOf, Gives, HasRoutes, IsOfKind, IsRule, IsValue, Route, routes_to}
use Rattle.route_tables.specs.Rules.{HasRules}
use Rattle.route_tables.specs.Tables.{Values}
use Rattle.route_tables.specs.declared.access.Decision.{Decision}
use Rattle.route_tables.specs.declared.access.Decision.TheVariants.{Allowed, Denied, Unlisted}
use Rattle.route_tables.specs.declared.access.Precedence.TheVariants.{DenyFirst, Longest}
use Rattle.route_tables.specs.declared.load.Reading.{Reading}
use Rattle.route_tables.specs.declared.load.TableKind.{TableKind}
use Rattle.route_tables.specs.declared.load.TableKind.TheVariants.{AccessList}

-- a list without entries has rules alone
pub no_rules : HasRules no_entries
no_rules s value is = let none : None ≡ Some value = sym (get-empty listing_cmp s) ∙ is in cc

rules_with : (m : Values) (s : List Bool) (rule : List ℕ) → HasRules m → IsRule rule → HasRules (with_entry m s rule)
rules_with m s rule old is_rule t value is =
    elim (eq_by_cmp listing_cmp t s) as (λ b. cond b (Some rule) (get m t) ≡ Some value → IsRule value) [
      | true ↦ λ same. let e : rule ≡ value = cc in subst IsRule e is_rule
      | false ↦ λ other. old t value other
    ] (sym (get-insert listing_total m s rule t) ∙ is)

-- rules are added to rules
pub rules_after : (routes : List Route) (m : Values) → HasRules m → All (λ route. IsRule route.1) routes → HasRules (with_routes routes m)
rules_after [] m old all = old
rules_after (route ∷ routes) m old all =
    rules_after routes (with_entry m (ip_path route.0) route.1) (rules_with m (ip_path route.0) route.1 old (all 0 route (omega arith))) (λ k d less. all (suc k) d (omega arith))

rule_of_value : (kind : TableKind) (later : List (List ℕ)) (value : List ℕ) → kind ≡ AccessList → IsValue kind later value → IsRule value
rule_of_value kind [] value is_list is = subst (λ k. IsOfKind k value) is_list is.1
rule_of_value kind (field ∷ later) value is_list is = subst (λ k. IsOfKind k value) is_list is.2.of_kind

rule_of_fields : (reading : Reading) (first : List ℕ) (later : List (List ℕ)) (networks : List IpPrefix) (value : List ℕ) → reading.kind ≡ AccessList
    → AreFieldsOf reading first later networks value → IsRule value
rule_of_fields reading first later networks value is_list (inl are) = rule_of_value reading.kind later value is_list are.is_value
rule_of_fields reading first later networks value is_list (inr (last, rest, split, are)) = rule_of_value reading.kind rest value is_list are.is_value

all_to : (value : List ℕ) (networks : List IpPrefix) → IsRule value → All (λ route. IsRule route.1) (routes_to value networks)
all_to value [] rule = All-nil _
all_to value (network ∷ networks) rule = All-cons (λ route. IsRule route.1) (network, value) (routes_to value networks) rule (all_to value networks rule)

all_given : (reading : Reading) (line : List ℕ) (routes : List Route) → reading.kind ≡ AccessList → Gives reading line routes → All (λ route. IsRule route.1) routes
all_given reading line routes is_list (inl (none, blank)) = subst (All (λ route. IsRule route.1)) (sym none) (All-nil _)
all_given reading line routes is_list (inr (networks, value, route, gives)) =
    subst (All (λ route. IsRule route.1)) (sym gives) (all_to value networks (rule_of_fields reading route.first route.later networks value is_list route.are_fields))

-- the lines of an access list give rules
pub all_rules : (reading : Reading) (lines : List (List ℕ)) (routes : List Route) → reading.kind ≡ AccessList → HasRoutes reading lines routes → All (λ route. IsRule route.1) routes
all_rules reading [] routes is_list none = subst (All (λ route. IsRule route.1)) (sym none) (All-nil _)
all_rules reading (line ∷ lines) routes is_list (given, rest, gives, has, is) =
    subst (All (λ route. IsRule route.1)) (sym is) (All-append (λ route. IsRule route.1) given rest (all_given reading line given is_list gives) (all_rules reading lines rest is_list has))

module _ (laws : MatchLaws (List ℕ)) (m : Values) (q : List Bool) where
  one_rule : (s t : List Bool) → IsLongestMatch m q (s, codes "deny") → IsLongestMatch m q (t, codes "allow") → ⊥
  one_rule s t is also =
      let same : Some (s, codes "deny") ≡ Some (t, codes "allow") = sym ((laws.longest_is m q (s, codes "deny")).1 is) ∙ (laws.longest_is m q (t, codes "allow")).1 also in
      let lengths : length (codes "deny") ≡ length (codes "allow") = ap (λ o. option_map_or (λ e. length e.1) o 0) same in omega arith

  -- a decision of the longest match allows what is allowed
  pub longest_allows : (d : Decision) → IsLongestDecision m q d → IsAllowing d ↔ IsAllowed Longest m q
  longest_allows (Allowed network) is = (λ _. (ip_path network, is), λ _. tt)
  longest_allows (Denied network) is = (λ none. absurd none, λ also. one_rule (ip_path network) also.0 is also.1)
  longest_allows Unlisted is = (λ none. absurd none, λ also. true≢false (sym also.1.matches.begins_it ∙ is also.0 (ap is_some also.1.matches.stored)))

-- and so does a decision where networks with `deny` come first
pub deny_first_allows : (m : Values) (q : List Bool) (d : Decision) → IsDenyFirstDecision m q d → IsAllowing d ↔ IsAllowed DenyFirst m q
deny_first_allows m q (Allowed network) is = (λ _. ((ip_path network, is.0), is.1), λ _. tt)
deny_first_allows m q (Denied network) is = (λ none. absurd none, λ also. also.1 (ip_path network, is))
deny_first_allows m q Unlisted is = (λ none. absurd none, λ also. is.0 also.0)
