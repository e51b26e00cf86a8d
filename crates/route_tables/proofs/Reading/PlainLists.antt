-- The fewest networks of the addresses of lines without values: for `fewest_of_plain`.
use Rattle.std.proofs.Common.{◌≡◌, ◌∙◌, ◌≤◌, ℕ, Bool, true, false, cond, All, List, [], ◌∷◌, Some, None, is_some, length, map, refl, sym, ap}
use Rattle.std.proofs.lemmas.List.Elements.{All-head, All-tail}
use Rattle.std.specs.FinMap.{get, get-empty}
use Rattle.prefix_trie.specs.Laws.Lookups.{LookupLaws}
use Rattle.prefix_trie.specs.Terms.{no_entries, number, shortest_match, with_entry}
use Rattle.prefix_trie_bits.proofs.Model.Members.{get-with_entry}
use Rattle.prefix_trie_bits.specs.Laws.Listings.{ListingLaws}
use Rattle.prefix_trie_bits.specs.Laws.Matches.{MatchLaws}
use Rattle.prefix_trie_bits.specs.Model.Order.{same_string}
use Rattle.prefix_trie_bits.specs.Networks.{network_back, network_path}
use Rattle.address_ranges.specs.Breaks.{has_address}
use Rattle.address_ranges.specs.Networks.{AreFewest}
use Rattle.address_ranges.specs.declared.joint.JointAddressSet.{JointAddressSet}
use Rattle.prefix_trie_joint.specs.Joined.{joined}
use Rattle.prefix_trie_joint.specs.declared.prefix.IpPrefix.TheVariants.{V4, V6}
use Rattle.prefix_trie_joint.proofs.Changes.{none_joined, with_ipv4, with_ipv6}
use Rattle.prefix_trie_joint.proofs.Matches.{covered_ipv4, covered_ipv6}
use Rattle.route_tables.specs.AddressLists.{IsOfSet}
use Rattle.route_tables.specs.Fewest.{HasOnly, IsFewest}
use Rattle.route_tables.specs.Loads.{with_routes}
use Rattle.route_tables.specs.PlainLists.{AreFewestOfLines, without_value}
use Rattle.route_tables.specs.Routes.{HasRoutes, Route}
use Rattle.route_tables.specs.Tables.{Values}
use Rattle.route_tables.specs.declared.load.Reading.{Reading}
use Rattle.route_tables.specs.declared.plain_lists.FewestNetworks.{FewestNetworks}
use Rattle.route_tables.proofs.OneValue.{bare_pairs, fewest_of_one}

only_none : HasOnly [] no_entries
only_none s v has = absurd (none_some (sym (get-empty _ s) ∙ has))
  where
    none_some : {v : List ℕ} → ¬ (None ≡ Some v)
    none_some e = cc

only_with : (m : Values) (s v : List _) → v ≡ [] → HasOnly [] m → HasOnly [] (with_entry m s v)
only_with m s v empty only t u is = by_key (same_string t s) (sym (get-with_entry m s v t) ∙ is)
  where
    by_key : (b : Bool) → cond b (Some v) (get m t) ≡ Some u → u ≡ []
    by_key true e = (let f : v ≡ u = cc in sym f ∙ empty)
    by_key false e = only t u e

-- the tables of the routes of each family, none of which has a value
record Families (routes : List Route) (m : Values) : Type 0 where
  ipv4 : Values
  ipv6 : Values
  entries : joined ipv4 ipv6 ≡ with_routes routes m
  only_ipv4 : HasOnly [] ipv4
  only_ipv6 : HasOnly [] ipv6

families : (routes : List Route) (a b : Values) → All (λ route. route.1 ≡ []) routes → HasOnly [] a → HasOnly [] b → Families routes (joined a b)
families [] a b empty of_a of_b = record { ipv4 = a; ipv6 = b; entries = refl; only_ipv4 = of_a; only_ipv6 = of_b }
families ((V4 p, v) ∷ routes) a b empty of_a of_b =
    let s = network_path 32 p in
    let first = All-head (λ route. route.1 ≡ []) (V4 p, v) routes empty in
    let rest = families routes (with_entry a s v) b (All-tail (λ route. route.1 ≡ []) (V4 p, v) routes empty) (only_with a s v first of_a) of_b in
    record { ipv4 = rest.ipv4; ipv6 = rest.ipv6; entries = rest.entries ∙ ap (with_routes routes) (with_ipv4 a b (with_entry a s v) s v refl); only_ipv4 = rest.only_ipv4; only_ipv6 = rest.only_ipv6 }
families ((V6 p, v) ∷ routes) a b empty of_a of_b =
    let s = network_path 128 p in
    let first = All-head (λ route. route.1 ≡ []) (V6 p, v) routes empty in
    let rest = families routes a (with_entry b s v) (All-tail (λ route. route.1 ≡ []) (V6 p, v) routes empty) of_a (only_with b s v first of_b) in
    record { ipv4 = rest.ipv4; ipv6 = rest.ipv6; entries = rest.entries ∙ ap (with_routes routes) (with_ipv6 a b (with_entry b s v) s v refl); only_ipv4 = rest.only_ipv4; only_ipv6 = rest.only_ipv6 }

-- the networks of a set of a family
pub record IsListed (w : ℕ) (test : ℕ → Bool) (networks : List (ℕ × ℕ)) : Type 0 where
  pub short : All (λ s. length s ≤ w) (map (network_path w) networks)
  pub bare : All (λ p. network_back w (network_path w p) ≡ p) networks
  pub fewest : AreFewest w test (map (network_path w) networks)

module _ {P : Type 0} (lookups : LookupLaws P (List ℕ)) (matches : MatchLaws (List ℕ)) (listed : ListingLaws (List ℕ)) where
  fewest_of : (w : ℕ) (m : Values) (test : ℕ → Bool) (networks : List (ℕ × ℕ)) → HasOnly [] m → ((q : List Bool) → length q ≡ w → test (number q) ≡ is_some (shortest_match m q))
      → IsListed w test networks → IsFewest w (network_back w) m (without_value networks)
  fewest_of w m test networks only covered are =
      fewest_of_one lookups matches listed w [] m only test covered (map (network_path w) networks) are.short are.fewest
      (network_back w) (without_value networks) (bare_pairs w (network_path w) (network_back w) [] networks are.bare)

  pub fewest_of_lines : {A : Type 0} → (reading : Reading) (lines : List (List ℕ)) (routes : List Route) (set : JointAddressSet A) (fewest : FewestNetworks)
      → HasRoutes reading lines routes → All (λ route. route.1 ≡ []) routes → IsOfSet (with_routes routes no_entries) set
      → IsListed 32 (has_address set.ipv4) fewest.ipv4.items → IsListed 128 (has_address set.ipv6) fewest.ipv6.items → AreFewestOfLines reading lines fewest
  fewest_of_lines reading lines routes set fewest has empty of_set ipv4 ipv6 =
      let none : joined no_entries no_entries ≡ no_entries = none_joined no_entries no_entries refl refl in
      let of = families routes no_entries no_entries empty only_none only_none in
      let whole = of.entries ∙ ap (with_routes routes) none in record {
        routes = routes;
        has = has;
        of_ipv4 = of.ipv4;
        of_ipv6 = of.ipv6;
        entries = whole;
        ipv4 = fewest_of 32 of.ipv4 (has_address set.ipv4) fewest.ipv4.items of.only_ipv4
            (λ q long. of_set (false ∷ q) long ∙ ap (λ m. is_some (shortest_match m (false ∷ q))) (sym whole) ∙ covered_ipv4 of.ipv4 of.ipv6 q) ipv4;
        ipv6 = fewest_of 128 of.ipv6 (has_address set.ipv6) fewest.ipv6.items of.only_ipv6
            (λ q long. of_set (true ∷ q) long ∙ ap (λ m. is_some (shortest_match m (true ∷ q))) (sym whole) ∙ covered_ipv6 of.ipv4 of.ipv6 q) ipv6;
      }
