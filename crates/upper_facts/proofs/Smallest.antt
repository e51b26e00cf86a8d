-- Proves the facts of smallest maps, smallest sets and shortest lists: the listings of the two maps compute.
use Rattle.std.proofs.Common.{◌≡◌, ◌∙◌, ◌≤◌, ℕ, zero, suc, Bool, true, false, true≢false, List, [], ◌∷◌, ◌++◌, filter, length, Option, is_some, refl, sym, ap, arith}
use Rattle.std.proofs.lemmas.List.Elements.{All-cons, All-nil}
use Rattle.std.specs.FinMap.{contains_key, empty_of_len, entries, entries-insert, find, get-entries, len, len-entries, put}
use Rattle.std.specs.Option.{option_map}
use Rattle.prefix_trie_bits.proofs.Model.SortedListings.{entries-empty}
use Rattle.prefix_trie_bits.specs.Model.Matches.{first_item, last_item}
use Rattle.prefix_trie_bits.specs.Model.Order.{listing_cmp}
use Rattle.prefix_trie_bits.specs.Order.{listing_total}
unfoldable use Rattle.prefix_trie_bits.specs.Model.Bits.{begins}
use Rattle.prefix_trie.specs.Terms.{Entries, no_entries, with_entry}
use Rattle.address_ranges.specs.Networks.{IsShortest, is_covered_by}
use Rattle.prefix_trie_ops.specs.Smallest.{HaveSameAnswers, IsSmallest}
use Rattle.prefix_trie_ops.specs.SmallestSets.{CoverSameAddresses, HasNoSiblings}
use Rattle.upper_facts.specs.Smallest.{SmallestHold, halves, whole}

module _ {T : Type 0} (v : T) where
  pub whole_listed : entries (whole v) ≡ ([], v) ∷ []
  whole_listed = entries-insert listing_total no_entries [] v ∙ ap (put listing_cmp [] v) (entries-empty T)

  pub half_listed : entries (with_entry no_entries (false ∷ []) v) ≡ (false ∷ [], v) ∷ []
  half_listed = entries-insert listing_total no_entries (false ∷ []) v ∙ ap (put listing_cmp (false ∷ []) v) (entries-empty T)

  pub halves_listed : entries (halves v) ≡ (false ∷ [], v) ∷ (true ∷ [], v) ∷ []
  halves_listed = entries-insert listing_total (with_entry no_entries (false ∷ []) v) (true ∷ []) v ∙ ap (put listing_cmp (true ∷ []) v) half_listed

module _ {T : Type 0} where
  -- the value of a question, whether it is covered, and whether a key is stored, from a listing
  abbrev value_in : List Bool → List (List Bool × T) → Option T
  value_in q es = option_map (λ e. e.1) (last_item (filter (λ e. begins e.0 q) es))

  abbrev pub covered_in : List Bool → List (List Bool × T) → Bool
  covered_in q es = is_some (first_item (filter (λ e. begins e.0 q) es))

  abbrev has_in : List Bool → List (List Bool × T) → Bool
  has_in s es = is_some (find listing_cmp s es)

  has : (m : Entries T) (s : List Bool) {es : List (List Bool × T)} → entries m ≡ es → contains_key m s ≡ has_in s es
  has m s listed = ap is_some (get-entries m s) ∙ ap (has_in s) listed

  -- a question has a value exactly if it is covered
  first_or_last : (es : List (List Bool × T)) → is_some (option_map (λ e. e.1) (last_item es)) ≡ is_some (first_item es)
  first_or_last [] = refl
  first_or_last (x ∷ []) = refl
  first_or_last (x ∷ y ∷ es) = first_or_last (y ∷ es)

  pub same_answers : (v : T) → HaveSameAnswers 1 (whole v) (halves v)
  unfolding begins
  same_answers v [] long = absurd (omega (arith, long))
  same_answers v (true ∷ []) long = ap (value_in (true ∷ [])) (whole_listed v) ∙ sym (ap (value_in (true ∷ [])) (halves_listed v))
  same_answers v (false ∷ []) long = ap (value_in (false ∷ [])) (whole_listed v) ∙ sym (ap (value_in (false ∷ [])) (halves_listed v))
  same_answers v (a ∷ b ∷ q) long = absurd (omega (arith, long))

  same_cover : (v : T) → CoverSameAddresses 1 (whole v) (halves v)
  unfolding begins
  same_cover v [] long = absurd (omega (arith, long))
  same_cover v (true ∷ []) long = ap (covered_in (true ∷ [])) (whole_listed v) ∙ sym (ap (covered_in (true ∷ [])) (halves_listed v))
  same_cover v (false ∷ []) long = ap (covered_in (false ∷ [])) (whole_listed v) ∙ sym (ap (covered_in (false ∷ [])) (halves_listed v))
  same_cover v (a ∷ b ∷ q) long = absurd (omega (arith, long))

  pub one_long : (v : T) → len (whole v) ≡ 1
  one_long v = len-entries (whole v) ∙ ap length (whole_listed v)

  pub two_long : (v : T) → len (halves v) ≡ 2
  two_long v = len-entries (halves v) ∙ ap length (halves_listed v)

  -- a map with some match is not empty
  some_entry : (v : T) (n : Entries T) → covered_in (true ∷ []) (entries n) ≡ true → len (whole v) ≤ len n
  some_entry v n there = elim (len n) as (λ k. len n ≡ k → len (whole v) ≤ k) [
    | zero ↦ λ none. absurd (true≢false (sym there ∙ ap (λ m. covered_in (true ∷ []) (entries m)) (empty_of_len n none) ∙ ap (covered_in (true ∷ [])) (entries-empty T)))
    | suc k ↦ λ _. (let l = one_long v in omega (arith, l))
  ] refl

  pub one_entry : (v : T) → IsSmallest 1 (whole v)
  unfolding begins
  one_entry v n same = some_entry v n (
      sym (first_or_last (filter (λ e. begins e.0 (true ∷ [])) (entries n)))
      ∙ ap is_some (same (true ∷ []) refl) ∙ ap (λ es. is_some (value_in (true ∷ []) es)) (whole_listed v))

  pub one_key : (v : T) (n : Entries T) → CoverSameAddresses 1 n (whole v) → len (whole v) ≤ len n
  unfolding begins
  one_key v n same = some_entry v n (same (true ∷ []) refl ∙ ap (covered_in (true ∷ [])) (whole_listed v))

pub one_network : IsShortest 1 ([] ∷ [])
unfolding begins
one_network [] short same = absurd (true≢false (sym (same (true ∷ []) refl)))
one_network (o ∷ os) short same = omega arith

same_networks : (q : List Bool) → length q ≡ 1 → is_covered_by ([] ∷ []) q ≡ is_covered_by ((false ∷ []) ∷ (true ∷ []) ∷ []) q
unfolding begins
same_networks [] long = absurd (omega (arith, long))
same_networks (true ∷ []) long = refl
same_networks (false ∷ []) long = refl
same_networks (a ∷ b ∷ q) long = absurd (omega (arith, long))

key_alone : (v : ℕ) → HasNoSiblings (whole v)
key_alone v [] there = has (whole v) (true ∷ []) (whole_listed v)
key_alone v (x ∷ s) there = has (whole v) ((x ∷ s) ++ true ∷ []) (whole_listed v)

pub smallest_hold : SmallestHold
smallest_hold = record {
  one_entry = one_entry;
  two_entries = λ v h. (let l = h (whole v) (same_answers v) in let a = one_long v in let b = two_long v in omega (arith, l, a, b));
  one_key = one_key;
  two_keys = λ v h. (let l = h (whole v) (same_cover v) in let a = one_long v in let b = two_long v in omega (arith, l, a, b));
  key_alone = key_alone;
  siblings = λ v h. true≢false (sym (has (halves v) (true ∷ []) (halves_listed v)) ∙ h [] (has (halves v) (false ∷ []) (halves_listed v)));
  one_network = one_network;
  two_networks = λ h. (let l = h ([] ∷ []) (All-cons (λ s. length s ≤ 1) [] [] (omega arith) (All-nil (λ s. length s ≤ 1))) same_networks in omega (arith, l));
}
