-- Reading the addresses of texts: what a network, a line and all lines add. For `AddressList`.
use Rattle.std.proofs.Common.{◌≡◌, ◌∙◌, ◌||◌, ℕ, ◌<◌, ◌≤◌, ◌^◌, Bool, true, false, true≢false, List, [], ◌∷◌, ◌++◌, is_some, length, map, All, inl, inr, refl, sym, ap, ap₂, subst, arith}
use Rattle.std.proofs.Math.Nat.{min-le_right}
use Rattle.std.proofs.lemmas.List.{length-take}
use Rattle.std.proofs.lemmas.List.Elements.{All-append, All-cons, All-nil}
use Rattle.std.specs.FinMap.{contains_key, get-empty}
use Rattle.prefix_trie.specs.Terms.{begins, digits, no_entries, number, shortest_match, with_entry, Entries}
use Rattle.prefix_trie_bits.proofs.Model.Members.{has-inserted, is-same_string, of-key, or-left, or-right, some-key}
use Rattle.prefix_trie_bits.proofs.Model.NodeSets.{key_cases}
use Rattle.prefix_trie_bits.specs.Begins.{same_bool}
use Rattle.prefix_trie_bits.specs.BitStrings.{length-digits, number-lt}
use Rattle.prefix_trie_bits.specs.Networks.{network_path}
use Rattle.prefix_trie_bits.specs.Laws.Matches.{MatchLaws}
use Rattle.prefix_trie_bits.specs.Model.Order.{same_string}
use Rattle.address_ranges.specs.Appends.{is_inside}
use Rattle.address_ranges.specs.Networks.{first_address, past_address}
use Rattle.address_ranges.proofs.Addresses.{network_has}
use Rattle.prefix_trie_joint.proofs.Families.{begins_apart, begins_apart_too, begins_ipv4, begins_ipv6}
use Rattle.route_tables.specs.AddressLists.{AddsRoutes, AreCovered, Covers, is_in}
use Rattle.route_tables.specs.Loads.{with_routes}
use Rattle.route_tables.specs.Routes.{Route}
use Rattle.route_tables.specs.Tables.{Values}
use Rattle.route_tables.specs.declared.address_list.AddressList.{AddressList}
use Rattle.route_tables.proofs.Loads.{routes_in_parts}

module _ {T : Type 0} (laws : MatchLaws T) where
  -- a map with one key more covers the addresses of its network too
  covered_with : (m : Entries T) (s : List Bool) (v : T) (q : List Bool) → is_some (shortest_match (with_entry m s v) q) ≡ (is_some (shortest_match m q) || begins s q)
  covered_with m s v q = same_bool _ _ there back
    where
      of : (n : Entries T) (t : List Bool) → contains_key n t ≡ true → begins t q ≡ true → is_some (shortest_match n q) ≡ true
      of n t has front = laws.some_shortest n q ∙ of-key n (λ t. begins t q) t has front

      there : is_some (shortest_match (with_entry m s v) q) ≡ true → (is_some (shortest_match m q) || begins s q) ≡ true
      there h =
          let (t, has, front) = some-key (with_entry m s v) (λ t. begins t q) (sym (laws.some_shortest (with_entry m s v) q) ∙ h) in
          elim (key_cases m s t v has) [
            | inl is ↦ or-right (is_some (shortest_match m q)) (begins s q) (subst (λ u. begins u q ≡ true) is front)
            | inr earlier ↦ or-left (is_some (shortest_match m q)) (begins s q) (of m t earlier front)
          ]

      back : (is_some (shortest_match m q) || begins s q) ≡ true → is_some (shortest_match (with_entry m s v) q) ≡ true
      back h = elim (is_some (shortest_match m q)) as (λ b. is_some (shortest_match m q) ≡ b → (b || begins s q) ≡ true → is_some (shortest_match (with_entry m s v) q) ≡ true) [
        | true ↦ λ e _.
            let (t, has, front) = some-key m (λ t. begins t q) (sym (laws.some_shortest m q) ∙ e) in
            of (with_entry m s v) t (has-inserted m s v t ∙ or-right (same_string t s) (contains_key m t) has) front
        | false ↦ λ _ front. of (with_entry m s v) s (has-inserted m s v s ∙ or-left (same_string s s) (contains_key m s) (is-same_string s s refl)) front
      ] refl h

  none_covered : (q : List Bool) → is_some (shortest_match (no_entries {T = T}) q) ≡ false
  none_covered q = elim (is_some (shortest_match (no_entries {T = T}) q)) as (λ b. is_some (shortest_match (no_entries {T = T}) q) ≡ b → b ≡ false) [
    | true ↦ λ e. absurd (
        let (t, has, front) = some-key (no_entries {T = T}) (λ t. begins t q) (sym (laws.some_shortest (no_entries {T = T}) q) ∙ e) in
        true≢false (sym has ∙ ap is_some (get-empty _ t)))
    | false ↦ λ _. refl
  ] refl

or_none : (b : Bool) → b ≡ (b || false)
or_none true = refl
or_none false = refl

-- a set with the addresses of one network more, in words of questions
one_more : (w : ℕ) (s q : List Bool) (has after : ℕ → Bool) → length s ≤ w → length q ≡ w
    → ((n : ℕ) → n < 2 ^ w → after n ≡ (has n || is_inside (first_address w s) (past_address w s) n)) → after (number q) ≡ (has (number q) || begins s q)
one_more w s q has after fits long adds =
    adds (number q) (subst (λ k. number q < 2 ^ k) long (number-lt q)) ∙ ap (λ b. has (number q) || b) (network_has w s q long fits)

module _ (laws : MatchLaws (List ℕ)) where
  pub none_read : (ipv4 ipv6 : ℕ → Bool) → ((n : ℕ) → ipv4 n ≡ false) → ((n : ℕ) → ipv6 n ≡ false) → AreCovered no_entries (is_in ipv4 ipv6)
  none_read ipv4 ipv6 none4 none6 [] at = absurd at
  none_read ipv4 ipv6 none4 none6 (false ∷ q) at = none4 (number q) ∙ sym (none_covered laws (false ∷ q))
  none_read ipv4 ipv6 none4 none6 (true ∷ q) at = none6 (number q) ∙ sym (none_covered laws (true ∷ q))

  pub ipv4_added : (m : Values) (s : List Bool) (v : List ℕ) (ipv4 after ipv6 : ℕ → Bool) → length s ≤ 32
      → ((n : ℕ) → n < 2 ^ 32 → after n ≡ (ipv4 n || is_inside (first_address 32 s) (past_address 32 s) n))
      → AreCovered m (is_in ipv4 ipv6) → AreCovered (with_entry m (false ∷ s) v) (is_in after ipv6)
  ipv4_added m s v ipv4 after ipv6 fits adds old [] at = absurd at
  ipv4_added m s v ipv4 after ipv6 fits adds old (false ∷ q) at =
      one_more 32 s q ipv4 after fits at adds ∙ ap₂ (λ a b. a || b) (old (false ∷ q) at) (sym (begins_ipv4 s q)) ∙ sym (covered_with laws m (false ∷ s) v (false ∷ q))
  ipv4_added m s v ipv4 after ipv6 fits adds old (true ∷ q) at =
      old (true ∷ q) at ∙ or_none (is_some (shortest_match m (true ∷ q))) ∙ ap (λ b. is_some (shortest_match m (true ∷ q)) || b) (sym (begins_apart s q))
      ∙ sym (covered_with laws m (false ∷ s) v (true ∷ q))

  pub ipv6_added : (m : Values) (s : List Bool) (v : List ℕ) (ipv4 ipv6 after : ℕ → Bool) → length s ≤ 128
      → ((n : ℕ) → n < 2 ^ 128 → after n ≡ (ipv6 n || is_inside (first_address 128 s) (past_address 128 s) n))
      → AreCovered m (is_in ipv4 ipv6) → AreCovered (with_entry m (true ∷ s) v) (is_in ipv4 after)
  ipv6_added m s v ipv4 ipv6 after fits adds old [] at = absurd at
  ipv6_added m s v ipv4 ipv6 after fits adds old (true ∷ q) at =
      one_more 128 s q ipv6 after fits at adds ∙ ap₂ (λ a b. a || b) (old (true ∷ q) at) (sym (begins_ipv6 s q)) ∙ sym (covered_with laws m (true ∷ s) v (true ∷ q))
  ipv6_added m s v ipv4 ipv6 after fits adds old (false ∷ q) at =
      old (false ∷ q) at ∙ or_none (is_some (shortest_match m (false ∷ q))) ∙ ap (λ b. is_some (shortest_match m (false ∷ q)) || b) (sym (begins_apart_too s q))
      ∙ sym (covered_with laws m (true ∷ s) v (false ∷ q))

-- no routes, and those of two parts
pub adds_none : (list : AddressList) → AddsRoutes list [] list
adds_none list = record { covers = λ m old. old; no_values = λ none. (none, λ k d lt. absurd (omega (arith, lt))) }

pub adds_both : (before list after : AddressList) (routes given : List Route) → AddsRoutes before routes list → AddsRoutes list given after → AddsRoutes before (routes ++ given) after
adds_both before list after routes given first later = record {
  covers = λ m old. subst (λ n. Covers n after) (sym (routes_in_parts routes given m)) (later.covers (with_routes routes m) (first.covers m old));
  no_values = λ none.
      let (none_given, given_empty) = later.no_values none in
      let (none_before, routes_empty) = first.no_values none_given in
      (none_before, All-append (λ route. route.1 ≡ []) routes given routes_empty given_empty);
}

-- the path of a network is no longer than an address
pub path_short : (w : ℕ) (network : ℕ × ℕ) → length (network_path w network) ≤ w
path_short w network =
    let e = length-take network.1 (digits w network.0) in
    let l = min-le_right network.1 (length (digits w network.0)) in
    let d = length-digits w network.0 in
    omega (arith, e, l, d)

-- sets that have the addresses that are gathered cover what the list covers
pub finished : (m : Values) (ipv4 ipv6 a b : ℕ → Bool) → ((n : ℕ) → n < 2 ^ 32 → a n ≡ ipv4 n) → ((n : ℕ) → n < 2 ^ 128 → b n ≡ ipv6 n)
    → AreCovered m (is_in ipv4 ipv6) → AreCovered m (is_in a b)
finished m ipv4 ipv6 a b same4 same6 old [] at = absurd at
finished m ipv4 ipv6 a b same4 same6 old (false ∷ q) at = same4 (number q) (subst (λ k. number q < 2 ^ k) at (number-lt q)) ∙ old (false ∷ q) at
finished m ipv4 ipv6 a b same4 same6 old (true ∷ q) at = same6 (number q) (subst (λ k. number q < 2 ^ k) at (number-lt q)) ∙ old (true ∷ q) at

pub paths_short : (w : ℕ) (networks : List (ℕ × ℕ)) → All (λ s. length s ≤ w) (map (network_path w) networks)
paths_short w [] = All-nil (λ s. length s ≤ w)
paths_short w (network ∷ networks) = All-cons (λ s. length s ≤ w) (network_path w network) (map (network_path w) networks) (path_short w network) (paths_short w networks)
