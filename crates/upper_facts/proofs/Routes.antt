-- Proves the facts of route tables: the listings of the examples compute.
use Rattle.std.proofs.Common.{◌≡◌, ◌↔◌, ◌∙◌, ◌⊎◌, ◌+◌, ◌<◌, ◌≤◌, ℕ, zero, suc, Bool, true, false, true≢false, cond, List, [], ◌∷◌, Option, bytes_eq, codes, filter, inl, inr, length, refl, sym, subst, ap, arith}
use Rattle.std.proofs.lemmas.List.Elements.{All-cons, All-head, All-nil}
use Rattle.std.proofs.lemmas.List.{length-map}
use Rattle.std.proofs.lemmas.Str.{chars-IsAscii}
use Rattle.std.specs.FinMap.{entries, entries-insert, len-entries, put}
use Rattle.std.specs.List.{Contains, list_any}
use Rattle.std.specs.Option.{option_map}
use Rattle.std.specs.Str.{IsAscii}
use Rattle.prefix_trie_bits.specs.Model.Order.{listing_cmp}
use Rattle.prefix_trie_bits.specs.Order.{listing_total}
unfoldable use Rattle.prefix_trie_bits.specs.Model.Bits.{begins, number}
use Rattle.prefix_trie_bits.specs.Networks.{network_back, network_path}
use Rattle.prefix_trie.specs.Terms.{first_item, last_item, no_entries, prefix_pairs, with_entry}
use Rattle.address_ranges.specs.Networks.{IsInside, is_between, is_covered_by}
use Rattle.prefix_trie_ops.proofs.Lists.{contains_cases, contains_here, contains_later, contains_none}
use Rattle.prefix_trie_joint.specs.Networks.{ip_back}
use Rattle.prefix_trie_joint.specs.declared.prefix.IpPrefix.{IpPrefix}
use Rattle.route_tables.specs.Access.{decision_by, decision_by_match}
use Rattle.route_tables.specs.AddressSets.{AreCoveredEntries}
use Rattle.route_tables.specs.Fewest.{IsFewest}
use Rattle.route_tables.specs.Lines.{is_hidden}
use Rattle.route_tables.specs.Networks.{AreFewestFor}
use Rattle.route_tables.specs.declared.access.Decision.{Decision}
use Rattle.upper_facts.specs.Routes.{RoutesHold, is_first, rules, same}
use Rattle.upper_facts.specs.Smallest.{halves, whole}
use Rattle.upper_facts.proofs.Smallest.{half_listed, halves_listed, one_entry, one_long, one_network, same_answers, whole_listed}

abbrev text : List ℕ
text = codes "a"

fewest : IsFewest 1 same (halves text) (([], text) ∷ [])
fewest = record {
  smallest = whole text;
  listed = sym (ap (prefix_pairs same) (whole_listed text));
  same = same_answers text;
  fewest = one_entry text;
}

not_fewest : ¬ (IsFewest 1 same (halves text) ((false ∷ [], text) ∷ (true ∷ [], text) ∷ []))
not_fewest is =
    let l = is.fewest (whole text) (λ q long. same_answers text q long ∙ sym (is.same q long)) in
    let a = one_long text in
    let b = ap length is.listed ∙ length-map (entries is.smallest) (λ e. (same e.0, e.1)) ∙ sym (len-entries is.smallest) in
    omega (arith, l, a, b)

range_covered : (q : List Bool) → length q ≡ 1 → is_covered_by ([] ∷ []) q ≡ is_between 0 1 (number q)
unfolding begins number
range_covered [] long = absurd (omega (arith, long))
range_covered (false ∷ []) long = refl
range_covered (true ∷ []) long = refl
range_covered (a ∷ b ∷ q) long = absurd (omega (arith, long))

range_once : (q : List Bool) → length q ≡ 1 → length (filter (λ s. begins s q) ([] ∷ [])) ≤ 1
unfolding begins
range_once q long = omega arith

range : AreFewestFor 1 0 1 ((0, 0) ∷ [])
unfolding number
range = (
  record {
    covered = range_covered;
    once = range_once;
    in_order = λ j k before within. absurd (omega (arith, before, within));
    shortest = one_network;
  },
  All-cons (λ n. network_back 1 (network_path 1 n) ≡ n) (0, 0) [] refl (All-nil (λ n. network_back 1 (network_path 1 n) ≡ n)),
)

host_bits : ¬ (AreFewestFor 1 0 1 ((1, 0) ∷ []))
unfolding number
host_bits h = (let e = ap (λ (n : ℕ × ℕ). n.0) (All-head (λ n. network_back 1 (network_path 1 n) ≡ n) (1, 0) [] h.1) in omega (arith, e))

-- ---- covered entries

first_covered : IsInside 1 is_first (false ∷ [])
unfolding number
first_covered zero low high = refl
first_covered (suc n) low high = absurd (omega (arith, high))

second_not : ¬ (IsInside 1 is_first (true ∷ []))
unfolding number
second_not h = true≢false (sym (h 1 (omega arith) (omega arith)))

module _ (v : ℕ) where
  abbrev first : List Bool × ℕ
  first = (false ∷ [], v)

  abbrev second : List Bool × ℕ
  second = (true ∷ [], v)

  cases : (e : List Bool × ℕ) → Contains (entries (halves v)) e → (first ≡ e) ⊎ (second ≡ e)
  cases e at = elim (contains_cases first e (second ∷ []) (subst (λ es. Contains es e) (halves_listed v) at)) [
    | inl is ↦ inl is
    | inr later ↦ elim (contains_cases second e [] later) [ inl is ↦ inr is | inr none ↦ absurd (contains_none e none) ]
  ]

  covered : AreCoveredEntries 1 same (halves v) is_first (first ∷ [])
  unfolding begins
  covered = record {
    keep = λ e. begins (false ∷ []) e.0;
    listed = sym (ap (λ es. prefix_pairs same (filter (λ e. begins (false ∷ []) e.0) es)) (halves_listed v));
    exact = λ e at. elim (cases e at) [
      | inl is ↦ subst (λ (e : List Bool × ℕ). (begins (false ∷ []) e.0 ≡ true) ↔ IsInside 1 is_first e.0) is (λ _. first_covered, λ _. refl)
      | inr is ↦ subst (λ (e : List Bool × ℕ). (begins (false ∷ []) e.0 ≡ true) ↔ IsInside 1 is_first e.0) is (λ bad. absurd (true≢false (sym bad)), λ h. absurd (second_not h))
    ];
  }

  -- if a test keeps two items, it keeps the second; if it keeps none, it does not keep the first
  two_kept : (p q : Bool) → 2 ≡ length (cond p (first ∷ cond q (second ∷ []) []) (cond q (second ∷ []) [])) → q ≡ true
  two_kept p true h = refl
  two_kept true false h = absurd (omega (arith, h))
  two_kept false false h = absurd (omega (arith, h))

  none_kept : (p q : Bool) → 0 ≡ length (cond p (first ∷ cond q (second ∷ []) []) (cond q (second ∷ []) [])) → p ≡ true → ⊥
  none_kept true q h is = omega (arith, h)
  none_kept false q h is = true≢false (sym is)

  count_kept : (es : List (List Bool × ℕ)) (keep : List Bool × ℕ → Bool) → es ≡ prefix_pairs same (filter keep (entries (halves v)))
      → length es ≡ length (filter keep (first ∷ second ∷ []))
  count_kept es keep listed =
      ap length listed ∙ length-map (filter keep (entries (halves v))) (λ e. (same e.0, e.1)) ∙ ap (λ ds. length (filter keep ds)) (halves_listed v)

  one_too_many : ¬ (AreCoveredEntries 1 same (halves v) is_first (first ∷ second ∷ []))
  one_too_many is =
      let also_in : Contains (entries (halves v)) second = subst (λ es. Contains es second) (sym (halves_listed v)) (contains_later first second (second ∷ []) (contains_here second [])) in
      second_not ((is.exact second also_in).0 (two_kept (is.keep first) (is.keep second) (count_kept _ is.keep is.listed)))

  one_missing : ¬ (AreCoveredEntries 1 same (halves v) is_first [])
  one_missing is =
      let is_in : Contains (entries (halves v)) first = subst (λ es. Contains es first) (sym (halves_listed v)) (contains_here first (second ∷ [])) in
      none_kept (is.keep first) (is.keep second) (count_kept [] is.keep is.listed) ((is.exact first is_in).1 first_covered)

-- ---- decisions

rules_listed : entries rules ≡ (false ∷ [], codes "deny") ∷ (false ∷ true ∷ [], codes "allow") ∷ []
rules_listed =
    entries-insert listing_total (with_entry no_entries (false ∷ []) (codes "deny")) (false ∷ true ∷ []) (codes "allow")
    ∙ ap (put listing_cmp (false ∷ true ∷ []) (codes "allow")) (half_listed (codes "deny"))

-- the decisions, from a listing
abbrev by_longest : List Bool → List (List Bool × List ℕ) → Decision
by_longest q es = decision_by_match (last_item (filter (λ e. begins e.0 q) es))

abbrev shortest : List ℕ → List Bool → List (List Bool × List ℕ) → Option IpPrefix
shortest value q es = option_map (λ e. ip_back e.0) (first_item (filter (λ e. bytes_eq value e.1) (filter (λ e. begins e.0 q) es)))

abbrev by_deny_first : List Bool → List (List Bool × List ℕ) → Decision
by_deny_first q es = decision_by (shortest (codes "deny") q es) (shortest (codes "allow") q es)

-- a text of one byte below 128 is one character
one_byte : (b : ℕ) → b < 128 → IsAscii (b ∷ [])
one_byte b low zero = low
one_byte b low (suc i) = omega arith

pub routes_hold : RoutesHold
unfolding begins
routes_hold = record {
  fewest = fewest;
  not_fewest = not_fewest;
  range = range;
  host_bits = host_bits;
  covered = covered;
  one_too_many = one_too_many;
  one_missing = one_missing;
  longest = ap (by_longest (false ∷ true ∷ [])) rules_listed;
  deny_first = ap (by_deny_first (false ∷ true ∷ [])) rules_listed;
  denied = ap (by_longest (false ∷ false ∷ [])) rules_listed;
  unlisted = ap (by_longest (true ∷ [])) rules_listed;
  unlisted_by_both = ap (by_deny_first (true ∷ [])) rules_listed;
  tab = ap (list_any is_hidden) (chars-IsAscii (9 ∷ []) (one_byte 9 (omega arith)));
  hyphen = ap (list_any is_hidden) (chars-IsAscii (45 ∷ []) (one_byte 45 (omega arith)));
  zero_width = refl;
  direction = refl;
}
