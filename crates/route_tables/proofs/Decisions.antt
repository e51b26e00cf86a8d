-- What the longest network that contains an address says, and which network with a value is the shortest: for decisions.
use Rattle.std.proofs.Common.{◌≡◌, ℕ, Bool, true, false, cond, List, [], ◌∷◌, Option, None, Some, MatchOption, ap, bytes_eq, codes, filter, inl, inr, is_some, refl, subst, sym, true≢false, ◌∙◌, arith}
use Rattle.std.proofs.lemmas.Slice.Eq.{bytes_eq-Decides}
use Rattle.std.specs.FinMap.{contains_key}
use Rattle.std.specs.List.{Contains}
use Rattle.std.specs.Option.{option_map}
use Rattle.prefix_trie.specs.Terms.{covers, first_item, prefix_pair, prefix_pairs, IsLongestMatch, IsMatch}
use Rattle.prefix_trie_bits.specs.Laws.Matches.{MatchLaws}
use Rattle.prefix_trie_joint.specs.Networks.{ip_back, ip_path}
use Rattle.prefix_trie_joint.specs.declared.prefix.IpPrefix.{IpPrefix}
use Rattle.route_tables.specs.Access.{covers_with, decision_by_match, decision_of, shortest_with, IsCoveredBy}
use Rattle.route_tables.specs.Routes.{IsRule}
use Rattle.route_tables.specs.Tables.{Values}
use Rattle.route_tables.specs.declared.access.Decision.{Decision}
use Rattle.route_tables.specs.declared.access.Decision.TheVariants.{Unlisted}
use Rattle.route_tables.proofs.Lists.{filter_of_map, from_filter, in_filter, in_here}

not_in : {X : Type 0} (x : X) → ¬ (Contains [] x)
not_in x (k, less, is) = omega arith

-- the first network with this value in a walk
abbrev pub first_with : List ℕ → List (IpPrefix × List ℕ) → Option IpPrefix
first_with rule walk = option_map (λ e. e.0) (first_item (filter (λ e. bytes_eq rule e.1) walk))

first_back : (es : List (List Bool × List ℕ)) → option_map (λ e. e.0) (first_item (prefix_pairs ip_back es)) ≡ option_map (λ e. ip_back e.0) (first_item es)
first_back [] = refl
first_back (e ∷ es) = refl

-- the walk over all covers gives the shortest network with the value
pub first_of_covers : (m : Values) (q : List Bool) (rule : List ℕ) (walk : List (IpPrefix × List ℕ)) → walk ≡ prefix_pairs ip_back (covers m q)
    → first_with rule walk ≡ shortest_with m q rule
first_of_covers m q rule walk is =
    ap (first_with rule) is ∙ ap (λ es. option_map (λ e. e.0) (first_item es)) (filter_of_map (λ e. (ip_back e.0, e.1)) (λ e. bytes_eq rule e.1) (covers m q))
    ∙ first_back (covers_with m q rule)

-- the search goes on after a network with another value, and ends at one with the value or with no network left
pub first_later : (rule : List ℕ) (p : IpPrefix) (value : List ℕ) (rest left : List (IpPrefix × List ℕ)) → left ≡ (p, value) ∷ rest → bytes_eq rule value ≡ false
    → first_with rule left ≡ first_with rule rest
first_later rule p value rest left split other =
    ap (first_with rule) split
    ∙ ap (λ b. option_map (λ e. e.0) (first_item (cond b ((p, value) ∷ filter (λ e. bytes_eq rule e.1) rest) (filter (λ e. bytes_eq rule e.1) rest)))) other

pub first_here : (rule : List ℕ) (p : IpPrefix) (value : List ℕ) (rest left : List (IpPrefix × List ℕ)) → left ≡ (p, value) ∷ rest → bytes_eq rule value ≡ true
    → first_with rule left ≡ Some p
first_here rule p value rest left split same =
    ap (first_with rule) split
    ∙ ap (λ b. option_map (λ e. e.0) (first_item (cond b ((p, value) ∷ filter (λ e. bytes_eq rule e.1) rest) (filter (λ e. bytes_eq rule e.1) rest)))) same

module _ (laws : MatchLaws (List ℕ)) (m : Values) (paths : (s : List Bool) → contains_key m s ≡ true → ip_path (ip_back s) ≡ s) (q : List Bool) (rule : List ℕ) where
  of_list : (es : List (List Bool × List ℕ)) → covers_with m q rule ≡ es
      → MatchOption (option_map (λ e. ip_back e.0) (first_item es)) (¬ (IsCoveredBy m q rule)) (λ network. IsMatch m q (ip_path network, rule))
  of_list [] none = λ covered.
      let at = in_filter (λ e. bytes_eq rule e.1) (covers m q) (covered.0, rule) ((bytes_eq-Decides rule rule).1 refl) ((laws.are_matches m q (covered.0, rule)).1 covered.1) in
      not_in (covered.0, rule) (subst (λ l. Contains l (covered.0, rule)) none at)
  of_list (e ∷ es) some =
      let w = from_filter (λ e. bytes_eq rule e.1) (covers m q) e (subst (λ l. Contains l e) (sym some) (in_here e es e refl)) in
      let here : IsMatch m q e = (laws.are_matches m q e).0 w.0 in
      let value : rule ≡ e.1 = (bytes_eq-Decides rule e.1).0 w.1 in
      subst (λ s. IsMatch m q (s, rule)) (sym (paths e.0 (ap is_some here.stored))) (subst (λ v. IsMatch m q (e.0, v)) (sym value) here)

  -- the shortest network with the value has the value and contains the address, or no network does
  pub shortest_is : MatchOption (shortest_with m q rule) (¬ (IsCoveredBy m q rule)) (λ network. IsMatch m q (ip_path network, rule))
  shortest_is = of_list (covers_with m q rule) refl

-- the decision of a pair
decide_pair : Option (IpPrefix × List ℕ) → Decision
decide_pair None = Unlisted
decide_pair (Some pair) = decision_of pair.0 pair.1

pair_of_match : (found : Option (List Bool × List ℕ)) → decide_pair (prefix_pair ip_back found) ≡ decision_by_match found
unfolding decide_pair
pair_of_match None = refl
pair_of_match (Some e) = refl

-- the decision of the network and the value that a lookup returns
pub decision_of_found : (found : Option (List Bool × List ℕ)) (network : IpPrefix) (value : List ℕ) → Some (network, value) ≡ prefix_pair ip_back found
    → decision_of network value ≡ decision_by_match found
unfolding decide_pair
decision_of_found found network value is = ap decide_pair is ∙ pair_of_match found

pub decision_of_none : (found : Option (List Bool × List ℕ)) → None ≡ prefix_pair ip_back found → Unlisted ≡ decision_by_match found
unfolding decide_pair
decision_of_none found is = ap decide_pair is ∙ pair_of_match found

-- the decision of a rule
pub rule_allows : (network : IpPrefix) (rule : List ℕ) (m : Values) (q : List Bool) → bytes_eq rule (codes "allow") ≡ true → IsLongestMatch m q (ip_path network, rule)
    → IsLongestMatch m q (ip_path network, codes "allow")
rule_allows network rule m q same is = subst (λ v. IsLongestMatch m q (ip_path network, v)) ((bytes_eq-Decides rule (codes "allow")).0 same) is

pub rule_denies : (network : IpPrefix) (rule : List ℕ) (m : Values) (q : List Bool) → IsRule rule → bytes_eq rule (codes "allow") ≡ false
    → IsLongestMatch m q (ip_path network, rule) → IsLongestMatch m q (ip_path network, codes "deny")
rule_denies network rule m q (inl allow) other is = absurd (true≢false (sym ((bytes_eq-Decides rule (codes "allow")).1 allow) ∙ other))
rule_denies network rule m q (inr deny) other is = subst (λ v. IsLongestMatch m q (ip_path network, v)) deny is
