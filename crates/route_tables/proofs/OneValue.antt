-- In a table with one value, the fewest networks of its addresses, each with this value, are the fewest with the same values: for
-- `fewest_networks`.
use Rattle.std.proofs.Common.{◌≡◌, ◌∙◌, ◌≤◌, ℕ, Bool, true, false, true≢false, ◌&&◌, List, [], ◌∷◌, Option, Some, None, IfSome, MatchOption, Less, Bor, All, length, map, is_lt, is_some, refl, sym, ap, ap₂, subst, arith, T as IsT}
use Rattle.std.proofs.lemmas.List.{length-map}
use Rattle.std.proofs.lemmas.List.Elements.{All-cons, All-head, All-nil, All-tail}
use Rattle.std.specs.FinMap.{entries-from_sorted, from_sorted, get, is_sorted, len, len-entries}
use Rattle.std.specs.FinMap.Entries.{below_all}
use Rattle.std.specs.List.{list_any, Contains}
use Rattle.prefix_trie.specs.Laws.Lookups.{LookupLaws}
use Rattle.prefix_trie.specs.Terms.{begins, lent_item, listing, listing_cmp, prefix_pairs, shortest_match, number, Entries, IsLongestMatch, IsUncovered}
use Rattle.prefix_trie_bits.specs.Laws.Listings.{ListingLaws}
use Rattle.prefix_trie_bits.specs.Laws.Matches.{MatchLaws}
use Rattle.address_ranges.specs.Networks.{first_address, is_covered_by, past_address, AreFewest, AreInOrder}
use Rattle.prefix_trie_ops.proofs.SmallestSets.{covered_is_value}
use Rattle.prefix_trie_ops.specs.Smallest.{HaveSameAnswers, IsSmallest}
use Rattle.prefix_trie_ops.specs.Values.{value_of}
use Rattle.route_tables.specs.Fewest.{HasOnly, IsFewest}
use Rattle.route_tables.specs.Tables.{Values}
use Rattle.route_tables.proofs.Lists.{from_map, in_here, in_later}
use Rattle.route_tables.proofs.NetworkOrder.{after_first, before_listed, in_order_tail}
use Rattle.route_tables.proofs.ShortKeys.{no_fewer}

both : (a b : Bool) → IsT a → IsT b → IsT (a && b)
both true b p q = q
both false b p q = p

less : (s t : List Bool) → listing_cmp s t ≡ Less → IsT (is_lt (listing_cmp s t))
less s t e = subst (λ o. IsT (is_lt o)) (sym e) tt

module _ {X : Type 0} (w : ℕ) (v : X) where
  -- each string with the value
  abbrev pub with_value : List (List Bool) → List (List Bool × X)
  with_value ss = map (λ s. (s, v)) ss

  below : (s : List Bool) (ss : List (List Bool)) → length s ≤ w → ((t : List Bool) → Contains ss t → length t ≤ w) → ((t : List Bool) → Contains ss t → past_address w s ≤ first_address w t) → IsT (below_all listing_cmp s (with_value ss))
  below s [] fits short after = tt
  below s (t ∷ ss) fits short after =
      let here = in_here t ss t refl in
      both _ _ (less s t (before_listed w s t fits (short t here) (after t here))) (below s ss fits (λ u has. short u (in_later t ss u has)) (λ u has. after u (in_later t ss u has)))

  -- networks in order are in listing order
  pub sorted : (ss : List (List Bool)) → ((s : List Bool) → Contains ss s → length s ≤ w) → AreInOrder w ss → IsT (is_sorted listing_cmp (with_value ss))
  sorted [] short order = tt
  sorted (s ∷ ss) short order =
      both _ _ (below s ss (short s (in_here s ss s refl)) (λ t has. short t (in_later s ss t has)) (after_first w s ss order)) (sorted ss (λ t has. short t (in_later s ss t has)) (in_order_tail w s ss order))

each : (w : ℕ) (ss : List (List Bool)) → All (λ s. length s ≤ w) ss → (s : List Bool) → Contains ss s → length s ≤ w
each w ss short s (k, inside, is) = subst (λ t. length t ≤ w) is (short k s inside)

keys_of : {X : Type 0} (v : X) (ss : List (List Bool)) → map (λ e. e.0) (map {B = List Bool × X} (λ s. (s, v)) ss) ≡ ss
keys_of v [] = refl
keys_of v (s ∷ ss) = ap (λ ts. s ∷ ts) (keys_of v ss)

-- a map in which each value is the same
abbrev HasEach : {X : Type 0} → X → Entries X → Type 0
HasEach v m = (s : List Bool) (u : _) → get m s ≡ Some u → u ≡ v

-- two options with one value
same_option : {X : Type 0} (v : X) (o p : Option X) → IfSome o (λ u. u ≡ v) → IfSome p (λ u. u ≡ v) → is_some o ≡ is_some p → o ≡ p
same_option v None None f g e = refl
same_option v None (Some x) f g e = absurd (true≢false (sym e))
same_option v (Some x) None f g e = absurd (true≢false e)
same_option v (Some x) (Some y) f g e = ap Some (f ∙ sym g)

module _ {X : Type 0} {P : Type 0} (laws : LookupLaws P X) (v : X) where
  -- each lookup in such a map that finds something finds this value
  only_answer : (m : Entries X) → HasEach v m → (q : List Bool) → IfSome (value_of m q) (λ u. u ≡ v)
  only_answer m only q = of_value (value_of m q) (laws.value m q)
    where
      of_value : (o : Option X) → MatchOption o (IsUncovered m q) (λ u. (s : List Bool) × IsLongestMatch m q (s, u)) → IfSome o (λ u. u ≡ v)
      of_value None found = tt
      of_value (Some u) (s, found) = only s u found.matches.stored

  -- so lookups are the same in maps that cover the same addresses
  same_answers : (w : ℕ) (m n : Entries X) → HasEach v m → HasEach v n → ((q : List Bool) → length q ≡ w → is_some (shortest_match m q) ≡ is_some (shortest_match n q)) → HaveSameAnswers w m n
  same_answers w m n only only' same q long =
      same_option v (value_of m q) (value_of n q) (only_answer m only q) (only_answer n only' q) (sym (covered_is_value m q) ∙ same q long ∙ covered_is_value n q)

module _ {P : Type 0} (laws : LookupLaws P (List ℕ)) (matches : MatchLaws (List ℕ)) (listed : ListingLaws (List ℕ)) (w : ℕ) (value : List ℕ) (m : Values) (only : HasOnly value m)
    (test : ℕ → Bool) (covered : (q : List Bool) → length q ≡ w → test (number q) ≡ is_some (shortest_match m q))
    (ss : List (List Bool)) (short : All (λ s. length s ≤ w) ss) (of : AreFewest w test ss) where
  smallest : Values
  smallest = from_sorted (with_value w value ss)

  listing_is : listing smallest ≡ with_value w value ss
  unfolding smallest
  listing_is = entries-from_sorted listing_cmp (with_value w value ss) (sorted w value ss (each w ss short) of.in_order)

  only_value : HasEach value smallest
  only_value s u is =
      let (t, has, e) = from_map (λ s. (s, value)) ss (s, u) (subst (λ es. Contains es (s, u)) listing_is ((listed.has_each smallest s u).0 is)) in
      sym (ap (λ e. e.1) e)

  by_networks : (q : List Bool) → is_some (shortest_match smallest q) ≡ is_covered_by ss q
  by_networks q = matches.some_shortest smallest q ∙ ap (λ es. list_any (λ s. begins s q) (map (λ e. e.0) es)) listing_is ∙ ap (list_any (λ s. begins s q)) (keys_of value ss)

  same_covered : (q : List Bool) → length q ≡ w → is_some (shortest_match smallest q) ≡ is_some (shortest_match m q)
  same_covered q long = by_networks q ∙ of.covered q long ∙ covered q long

  count : len smallest ≡ length ss
  count = len-entries smallest ∙ ap length listing_is ∙ length-map ss (λ s. (s, value))

  least : IsSmallest w smallest
  least n same =
      let few = no_fewer matches w ss of.shortest n (λ q long. covered_is_value n q ∙ ap is_some (same q long) ∙ sym (covered_is_value smallest q) ∙ by_networks q) in
      omega (arith, few, count)

  pub fewest_of_one : {Q : Type 0} (back : List Bool → Q) (networks : List (Q × List ℕ)) → networks ≡ prefix_pairs back (with_value w value ss) → IsFewest w back m networks
  fewest_of_one back networks is = record {
    smallest = smallest;
    listed = is ∙ ap (prefix_pairs back) (sym listing_is);
    same = same_answers laws value w smallest m only_value only same_covered;
    fewest = least;
  }

module _ {P X : Type 0} (w : ℕ) (path : P → List Bool) (back : List Bool → P) where
  -- networks without host bits, each with a value, are those of their paths
  pub bare_pairs : (v : X) (networks : List P) → All (λ p. back (path p) ≡ p) networks → map (λ p. (p, v)) networks ≡ prefix_pairs back (with_value w v (map path networks))
  bare_pairs v [] bare = refl
  bare_pairs v (p ∷ ps) bare = ap₂ (λ x xs. (x, v) ∷ xs) (sym (All-head (λ p. back (path p) ≡ p) p ps bare)) (bare_pairs v ps (All-tail (λ p. back (path p) ≡ p) p ps bare))

  -- also if the value is lent
  pub lent_pairs : (v : Bor X) (networks : List P) → All (λ p. back (path p) ≡ p) networks → (pairs : List (P × Bor X)) → pairs ≡ map (λ p. (p, v)) networks
      → map lent_item pairs ≡ prefix_pairs back (with_value w v.now (map path networks))
  lent_pairs v networks bare pairs is = ap (map lent_item) is ∙ lent networks ∙ bare_pairs v.now networks bare
    where
      lent : (ps : List P) → map lent_item (map {B = P × Bor X} (λ p. (p, v)) ps) ≡ map (λ p. (p, v.now)) ps
      lent [] = refl
      lent (p ∷ ps) = ap (λ xs. (p, v.now) ∷ xs) (lent ps)

-- networks that fit have paths that are no longer than an address
pub short_paths : {P : Type 0} (w : ℕ) (path : P → List Bool) (IsFitting : P → Type 0) → ((p : P) → IsFitting p → length (path p) ≤ w) → (ps : List P) → All IsFitting ps
    → All (λ s. length s ≤ w) (map path ps)
short_paths w path IsFitting within [] fit = All-nil (λ s. length s ≤ w)
short_paths w path IsFitting within (p ∷ ps) fit =
    All-cons (λ s. length s ≤ w) (path p) (map path ps) (within p (All-head IsFitting p ps fit)) (short_paths w path IsFitting within ps (All-tail IsFitting p ps fit))
