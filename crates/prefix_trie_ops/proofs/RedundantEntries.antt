-- Removing each entry whose longest shorter key has an equal value leaves every question the value that it had: for
-- `aggregate_consistent` and `aggregate`.
use Rattle.std.proofs.Common.{◌≡◌, ◌≢◌, ◌⊎◌, ◌+◌, ◌-◌, ◌<◌, ◌≤◌, eqb, ℕ, zero, suc, Bool, true, false, cond, not, filter, List, length, take, Option, Some, None, MatchOption, inl, inr, refl, sym, ap, subst, ◌∙◌, arith, rules, is_some, true≢false, eqb-true}
use Rattle.std.proofs.lemmas.Bool.{eqb-false}
use Rattle.std.proofs.lemmas.List.{take-take, length-take-le}
use Rattle.std.specs.Option.{option_map}
use Rattle.std.specs.FinMap.{get, contains_key, get-retain_keys, same_entries_map}
use Rattle.prefix_trie_bits.specs.Order.{listing_same}
use Rattle.prefix_trie_bits.proofs.Model.SortedListings.{entries-retained}
use Rattle.prefix_trie_bits.specs.Begins.{begins-take, begins-trans, take-begins, begins-length, begins-from-take}
use Rattle.prefix_trie.specs.Terms.{Entries, begins, listing, longest_match, IsLongestMatch, IsUncovered}
use Rattle.prefix_trie.specs.Laws.Lookups.{LookupLaws}
use Rattle.prefix_trie_ops.specs.Values.{value_of, value_above, are_equal, is_redundant, stays, without_redundant}

module _ {T : Type 0} where
  -- the question has a longest match, or no key covers it
  abbrev pub Looked : Entries T → List Bool → Type 0
  Looked m q = ((longest_match m q ≡ None) × IsUncovered m q) ⊎ ((e : List Bool × T) × (longest_match m q ≡ Some e) × IsLongestMatch m q e)

  pub looked : {P : Type 0} → LookupLaws P T → (m : Entries T) (q : List Bool) → Looked m q
  looked laws m q = elim (longest_match m q) as (λ r. longest_match m q ≡ r → Looked m q) [
    | None ↦ λ none. inl (none, subst (λ r. MatchOption r (IsUncovered m q) (IsLongestMatch m q)) none (laws.found m q))
    | Some e ↦ λ found. inr (e, found, subst (λ r. MatchOption r (IsUncovered m q) (IsLongestMatch m q)) found (laws.found m q))
  ] refl

  has : (m : Entries T) (s : List Bool) (v : T) → get m s ≡ Some v → contains_key m s ≡ true
  has m s v h = ap is_some h

  -- an entry that is the longest match is the one that `longest_match` returns
  pub same_longest : {P : Type 0} → LookupLaws P T → (m : Entries T) (q : List Bool) (e : List Bool × T) → IsLongestMatch m q e → longest_match m q ≡ Some e
  same_longest laws m q e is = elim (looked laws m q) [
    | inl none ↦ absurd (true≢false (sym is.matches.begins_it ∙ none.1 e.0 (has m e.0 e.1 is.matches.stored)))
    | inr some ↦
        let d = some.0 in
        let le : length e.0 ≤ length d.0 = some.2.longest e.0 (has m e.0 e.1 is.matches.stored) is.matches.begins_it in
        let ge : length d.0 ≤ length e.0 = is.longest d.0 (has m d.0 d.1 some.2.matches.stored) some.2.matches.begins_it in
        let long : length d.0 ≡ length e.0 = omega arith in
        let same : d.0 ≡ e.0 = sym (begins-take d.0 q some.2.matches.begins_it) ∙ ap (λ n. take n q) long ∙ begins-take e.0 q is.matches.begins_it in
        let value : Some d.1 ≡ Some e.1 = sym some.2.matches.stored ∙ ap (get m) same ∙ is.matches.stored in
        some.1 ∙ search rules
  ]

  module _ (eq : T → T → Bool) (m n : Entries T) (left_as : (s : List Bool) → get n s ≡ cond (is_redundant eq m s) None (get m s)) where
    left_key : (s : List Bool) → contains_key n s ≡ true → contains_key m s ≡ true
    left_key s h = elim (is_redundant eq m s) as (λ b. get n s ≡ cond b None (get m s) → contains_key m s ≡ true) [
      | true ↦ λ e. absurd (true≢false (sym h ∙ ap is_some e))
      | false ↦ λ e. ap is_some (sym e) ∙ h
    ] (left_as s)

    -- each entry that is removed has a shorter key with its value
    gone_above : ((x y : T) → eq x y ≡ true → x ≡ y) → (s : List Bool) (v : T) → get m s ≡ Some v → is_redundant eq m s ≡ true
        → (length s ≡ (length s - 1) + 1) × (value_of m (take (length s - 1) s) ≡ Some v)
    gone_above exact s v at h =
        elim (eqb (length s) 0) as (λ b. eqb (length s) 0 ≡ b → are_equal eq (cond b None (value_of m (take (length s - 1) s))) (Some v) ≡ true
        → (length s ≡ (length s - 1) + 1) × (value_of m (take (length s - 1) s) ≡ Some v)) [
          | true ↦ λ z e. absurd (true≢false (sym e))
          | false ↦ λ z e. let some : length s ≢ 0 = eqb-false (length s) 0 z in (omega arith, equal_is (value_of m (take (length s - 1) s)) v e)
        ] refl (ap (are_equal eq (value_above m s)) (sym at) ∙ h)
      where
        equal_is : (o : Option T) (w : T) → are_equal eq o (Some w) ≡ true → o ≡ Some w
        equal_is None w h = absurd (true≢false (sym h))
        equal_is (Some u) w h = ap Some (exact u w h)

    -- if the longest match was removed, each remaining key that begins the question begins its longest shorter part
    begins_above : (q s : List Bool) (v : T) (j : ℕ) → IsLongestMatch m q (s, v) → is_redundant eq m s ≡ true → length s ≡ j + 1
        → (t : List Bool) → contains_key n t ≡ true → begins t q ≡ true → begins t (take j s) ≡ true
    begins_above q s v j is gone long t there front =
        let le : length t ≤ length s = is.longest t (left_key t there) front in
        elim (eqb (length t) (length s)) as (λ b. eqb (length t) (length s) ≡ b → begins t (take j s) ≡ true) [
          | true ↦ λ e.
              let same : t ≡ s = sym (begins-take t q front) ∙ ap (λ k. take k q) (eqb-true (length t) (length s) e) ∙ begins-take s q is.matches.begins_it in
              absurd (true≢false (sym there ∙ ap (contains_key n) same ∙ ap is_some (left_as s) ∙ ap (λ b. is_some (cond b None (get m s))) gone))
          | false ↦ λ e.
              let ne : length t ≢ length s = eqb-false (length t) (length s) e in
              let less : length t ≤ j = omega arith in
              let less2 : j ≤ length s = omega arith in
              let first : take (length t) (take j s) ≡ t =
              ap (λ x. take (length t) (take j x)) (sym (begins-take s q is.matches.begins_it))
              ∙ ap (take (length t)) (take-take j (length s) q less2) ∙ take-take (length t) j q less ∙ begins-take t q front in
              begins-from-take t (take j s) (length t) first
        ] refl

    same_above : {P : Type 0} → LookupLaws P T → (q s : List Bool) (v : T) (j : ℕ) → IsLongestMatch m q (s, v) → is_redundant eq m s ≡ true → length s ≡ j + 1
        → longest_match n q ≡ longest_match n (take j s)
    same_above laws q s v j is gone long = elim (looked laws n (take j s)) [
      | inl none ↦ elim (looked laws n q) [
        | inl nothing ↦ nothing.0 ∙ sym none.0
        | inr some ↦
            let here : contains_key n some.0.0 ≡ true = ap is_some some.2.matches.stored in
            absurd (true≢false (sym (begins_above q s v j is gone long some.0.0 here some.2.matches.begins_it) ∙ none.1 some.0.0 here))
      ]
      | inr some ↦
          same_longest laws n q some.0 (record {
            matches = record { stored = some.2.matches.stored; begins_it = begins-trans some.0.0 (take j s) q some.2.matches.begins_it (begins-trans (take j s) s q (take-begins j s) is.matches.begins_it) };
            longest = λ t there front. some.2.longest t there (begins_above q s v j is gone long t there front);
          }) ∙ sym some.1
    ]

    at_match : {P : Type 0} → LookupLaws P T → ((x y : T) → eq x y ≡ true → x ≡ y) → (q : List Bool) → ((t : List Bool) → length t < length q → value_of n t ≡ value_of m t)
        → (s : List Bool) (v : T) → longest_match m q ≡ Some (s, v) → IsLongestMatch m q (s, v) → value_of n q ≡ value_of m q
    at_match laws exact q shorter s v found is = elim (is_redundant eq m s) as (λ b. is_redundant eq m s ≡ b → value_of n q ≡ value_of m q) [
      | false ↦ λ h.
          let here : get n s ≡ Some v = left_as s ∙ ap (λ b. cond b None (get m s)) h ∙ is.matches.stored in
          ap (option_map (λ e. e.1)) (same_longest laws n q (s, v) (record {
            matches = record { stored = here; begins_it = is.matches.begins_it };
            longest = λ t there front. is.longest t (left_key t there) front;
          }) ∙ sym found)
      | true ↦ λ h.
          let above = gone_above exact s v is.matches.stored h in
          let l : length s ≤ length q = begins-length s q is.matches.begins_it in
          let short : length s - 1 ≤ length s = omega arith in
          let t : length (take (length s - 1) s) ≡ length s - 1 = length-take-le (length s - 1) s short in
          let long : length s ≡ (length s - 1) + 1 = above.0 in
          ap (option_map (λ e. e.1)) (same_above laws q s v (length s - 1) is h above.0)
          ∙ shorter (take (length s - 1) s) (omega arith) ∙ above.1 ∙ sym (ap (option_map (λ e. e.1)) found)
    ] refl

    -- a question keeps its value if every shorter question does
    step : {P : Type 0} → LookupLaws P T → ((x y : T) → eq x y ≡ true → x ≡ y) → (q : List Bool) → ((t : List Bool) → length t < length q → value_of n t ≡ value_of m t)
        → value_of n q ≡ value_of m q
    step laws exact q shorter = elim (looked laws m q) [
      | inl none ↦ elim (looked laws n q) [
        | inl nothing ↦ ap (option_map (λ e. e.1)) (nothing.0 ∙ sym none.0)
        | inr some ↦ absurd (true≢false (sym some.2.matches.begins_it ∙ none.1 some.0.0 (left_key some.0.0 (ap is_some some.2.matches.stored))))
      ]
      | inr some ↦ at_match laws exact q shorter some.0.0 some.0.1 some.1 some.2
    ]

    within : {P : Type 0} → LookupLaws P T → ((x y : T) → eq x y ≡ true → x ≡ y) → (k : ℕ) (q : List Bool) → length q ≤ k → value_of n q ≡ value_of m q
    within laws exact zero q le = step laws exact q (λ t less. absurd (omega arith))
    within laws exact (suc k) q le = step laws exact q (λ t less. within laws exact k t (omega arith))

    pub same_values : {P : Type 0} → LookupLaws P T → ((x y : T) → eq x y ≡ true → x ≡ y) → (q : List Bool) → value_of n q ≡ value_of m q
    same_values laws exact q = within laws exact (length q) q (omega arith)

    -- no entry is left whose longest shorter key has an equal value
    pub none_left : {P : Type 0} → LookupLaws P T → ((x y : T) → eq x y ≡ true → x ≡ y) → (s : List Bool) → is_redundant eq n s ≡ false
    none_left laws exact s =
        let same : value_above n s ≡ value_above m s = ap (λ o. cond (eqb (length s) 0) None o) (same_values laws exact (take (length s - 1) s)) in
        elim (is_redundant eq m s) as (λ b. is_redundant eq m s ≡ b → is_redundant eq n s ≡ false) [
          | true ↦ λ h. ap (are_equal eq (value_above n s)) (left_as s ∙ ap (λ b. cond b None (get m s)) h) ∙ none_equal (value_above n s)
          | false ↦ λ h. ap (λ o. are_equal eq o (get n s)) same ∙ ap (are_equal eq (value_above m s)) (left_as s ∙ ap (λ b. cond b None (get m s)) h) ∙ h
        ] refl
      where
        none_equal : (o : Option T) → are_equal eq o None ≡ false
        none_equal None = refl
        none_equal (Some v) = refl

  -- a map whose listing has exactly the marked entries
  pub gone_entries : (eq : T → T → Bool) (m n : Entries T) → listing n ≡ filter (stays eq m) (listing m) → n ≡ without_redundant eq m
  gone_entries eq m n h = same_entries_map n (without_redundant eq m) (h ∙ sym (entries-retained m (λ s. not (is_redundant eq m s))))

  pub gone_get : (eq : T → T → Bool) (m n : Entries T) → n ≡ without_redundant eq m → (s : List Bool) → get n s ≡ cond (is_redundant eq m s) None (get m s)
  gone_get eq m n h s =
      ap (λ x. get x s) h ∙ get-retain_keys m (λ t. not (is_redundant eq m t)) s (λ x e. ap (λ t. not (is_redundant eq m t)) (sym (listing_same s x e))) ∙ turned (is_redundant eq m s)
    where
      turned : (b : Bool) → cond (not b) (get m s) None ≡ cond b None (get m s)
      turned true = refl
      turned false = refl
