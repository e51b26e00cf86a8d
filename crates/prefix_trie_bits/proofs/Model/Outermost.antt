-- The number of covered addresses is the sum over the outermost keys, which are those that begin with no other stored
-- key: for `address_count`.
use Rattle.prefix_trie_bits.proofs.Prelude.{◌≡◌, ℕ, zero, suc, ◌+◌, ◌-◌, ◌^◌, ◌≤◌, ◌<◌, Bool, true, false, cond, not, ◌||◌, nat_le, nat_lt, List, [], ◌∷◌, length, map, filter, Some, None, is_some, refl, sym, ap, ap₂, ◌∙◌, subst, arith, inl, inr, eq-eqb, Less, ◌==◌, true≢false, ne_eqb, nat_tests, list_any, entries_sorted, is_sorted, keys, contains_key, get, get-entries, find, begins, same_bool, begins-refl, begins-trans, begins-linear, begins-length, begins-same-length, listing_cmp, listing-extension, same_string, Entries, without_below, listing, is_root, full_strings, covered, addresses, address_total, AddressLaws}
use Rattle.std.proofs.Common.{T as IsT}
use Rattle.prefix_trie_bits.proofs.Model.Members.{or-cases, or-left, or-right, and-first, and-second, and-join, not-true, from-not, some-value, same_string-is, some-key, of-key, has-retained}
use Rattle.prefix_trie_bits.proofs.Model.SortedListings.{sorted-head, each-behind, found_first, not_less, entries-empty, entries-retained}
use Rattle.prefix_trie_bits.proofs.Model.Halves.{covered-suc, covered-root, covered-none, covered-most}

-- ---- counting

-- if no element passes both tests, the number that pass either is the sum of the two numbers
length-either : {X : Type 0} (p q r : X → Bool) → ((x : X) → p x ≡ (q x || r x)) → ((x : X) → q x ≡ true → r x ≡ false) → (xs : List X) → length (filter p xs) ≡ length (filter q xs) + length (filter r xs)
length-either p q r either apart [] = refl
length-either p q r either apart (x ∷ xs) =
    ap (λ b. length (cond b (x ∷ filter p xs) (filter p xs))) (either x) ∙
    by (q x) (r x) (apart x) (length-either p q r either apart xs)
  where
    by : (a b : Bool) → (a ≡ true → b ≡ false) → length (filter p xs) ≡ length (filter q xs) + length (filter r xs) → length (cond (a || b) (x ∷ filter p xs) (filter p xs)) ≡ length (cond a (x ∷ filter q xs) (filter q xs)) + length (cond b (x ∷ filter r xs) (filter r xs))
    by true true f e = absurd (true≢false (f refl))
    by true false f e = omega (arith, e)
    by false true f e = omega (arith, e)
    by false false f e = e

-- 2^(w - length k) strings of w bits begin with k
covered-one : (w : ℕ) (k : List Bool) → length k ≤ w → covered w (k ∷ []) ≡ 2 ^ (w - length k)
covered-one w [] h = covered-root w ([] ∷ []) refl ∙ all w
  where
    all : (a : ℕ) → 2 ^ a ≡ 2 ^ (a - 0)
    all a = let e : a ≡ a - 0 = omega arith in ap (λ n. 2 ^ n) e
covered-one zero (a ∷ k) h = absurd (omega (arith, h))
covered-one (suc w) (true ∷ k) h =
    covered-suc w ((true ∷ k) ∷ []) ∙ ap₂ (λ x y. x + y) (covered-none w) (covered-one w k (omega (arith, h))) ∙
    behind w (length k)
  where
    behind : (a b : ℕ) → 0 + 2 ^ (a - b) ≡ 2 ^ (suc a - suc b)
    behind a b = let e : suc a - suc b ≡ a - b = omega arith in rw e (omega arith)
covered-one (suc w) (false ∷ k) h =
    covered-suc w ((false ∷ k) ∷ []) ∙ ap₂ (λ x y. x + y) (covered-one w k (omega (arith, h))) (covered-none w) ∙
    before w (length k)
  where
    before : (a b : ℕ) → 2 ^ (a - b) + 0 ≡ 2 ^ (suc a - suc b)
    before a b = let e : suc a - suc b ≡ a - b = omega arith in rw e (omega arith)

-- ---- an outermost key

-- of two beginnings of one string, the first begins the second if the second does not begin it
apart-beginnings : (k j f : List Bool) → begins k f ≡ true → begins j f ≡ true → (begins j k ≡ true → j ≡ k) → begins k j ≡ true
apart-beginnings k j f e h outer =
    elim (nat_le (length k) (length j)) as (λ b. nat_le (length k) (length j) ≡ b → begins k j ≡ true) [
      | true ↦ λ l. let short : length k ≤ length j = grind (arith, nat_tests) in begins-linear k j f e h short
      | false ↦ λ l.
          let short : length j ≤ length k = grind (arith, nat_tests) in
          subst (λ x. begins k x ≡ true) (sym (outer (begins-linear j k f h e short))) (begins-refl k)
    ] refl

module _ {T : Type 0} where
  -- whether f begins with some key of m
  abbrev is_covered_in : Entries T → List Bool → Bool
  is_covered_in m f = list_any (λ j. begins j f) (keys m)

  kept-key : (m : Entries T) (k j : List Bool) → contains_key (without_below m k) j ≡ true → (begins k j ≡ false) × (contains_key m j ≡ true)
  kept-key m k j e =
      let both = sym (has-retained m (λ s. not (begins k s)) j) ∙ e in (
        from-not (begins k j) (and-first (not (begins k j)) (contains_key m j) both),
        and-second (not (begins k j)) (contains_key m j) both,
      )

  in-either : (m : Entries T) (k f : List Bool) → contains_key m k ≡ true → is_covered_in m f ≡ ((begins k f || false) || is_covered_in (without_below m k) f)
  in-either m k f has = same_bool _ _ one both
    where
      one : is_covered_in m f ≡ true → ((begins k f || false) || is_covered_in (without_below m k) f) ≡ true
      one e =
          let r = some-key m (λ j. begins j f) e in
          elim (begins k r.0) as (λ b. begins k r.0 ≡ b → ((begins k f || false) || is_covered_in (without_below m k) f) ≡ true) [
            | true ↦ λ h.
                or-left (begins k f || false) (is_covered_in (without_below m k) f) (or-left (begins k f) false (begins-trans k r.0 f h r.2))
            | false ↦ λ h.
                or-right (begins k f || false) (is_covered_in (without_below m k) f)
                (of-key (without_below m k) (λ j. begins j f) r.0 (has-retained m (λ s. not (begins k s)) r.0 ∙ and-join (not (begins k r.0)) (contains_key m r.0) (not-true (begins k r.0) h) r.1) r.2)
          ] refl

      here : (begins k f || false) ≡ true → is_covered_in m f ≡ true
      here e =
          elim (or-cases (begins k f) false e) [
            | inl h ↦ of-key m (λ j. begins j f) k has h
            | inr h ↦ absurd (true≢false (sym h))
          ]

      both : ((begins k f || false) || is_covered_in (without_below m k) f) ≡ true → is_covered_in m f ≡ true
      both e =
          elim (or-cases (begins k f || false) (is_covered_in (without_below m k) f) e) [
            | inl h ↦ here h
            | inr h ↦
                let r = some-key (without_below m k) (λ j. begins j f) h in
                of-key m (λ j. begins j f) r.0 (kept-key m k r.0 r.1).1 r.2
          ]

  not-both : (m : Entries T) (k f : List Bool) → ((s : List Bool) → contains_key m s ≡ true → begins s k ≡ true → s ≡ k) → (begins k f || false) ≡ true → is_covered_in (without_below m k) f ≡ false
  not-both m k f outer e =
      same_bool (is_covered_in (without_below m k) f) false
      (λ h.
      let r = some-key (without_below m k) (λ j. begins j f) h in
      let kept = kept-key m k r.0 r.1 in
      elim (or-cases (begins k f) false e) [
        | inl k_begins ↦ absurd (true≢false (sym (apart-beginnings k r.0 f k_begins r.2 (outer r.0 kept.1)) ∙ kept.0))
        | inr h2 ↦ absurd (true≢false (sym h2))
      ]
      )
      (λ h. absurd (true≢false (sym h)))

  pub addresses-outermost : (width : ℕ) (m : Entries T) (k : List Bool) → length k ≤ width → contains_key m k ≡ true → ((s : List Bool) → contains_key m s ≡ true → begins s k ≡ true → s ≡ k) → addresses width m ≡ 2 ^ (width - length k) + addresses width (without_below m k)
  unfolding covered
  addresses-outermost width m k h has outer =
      length-either (is_covered_in m) (λ f. begins k f || false) (is_covered_in (without_below m k)) (λ f. in-either m k f has) (λ f. not-both m k f outer) (full_strings width) ∙
      ap (λ n. n + addresses width (without_below m k)) (covered-one width k h)

  -- ---- the result

  -- if all addresses are covered, the result is `None`
  pub total-all : (width : ℕ) (m : Entries T) → 2 ^ width ≤ addresses width m → address_total width m ≡ None
  total-all width m h =
      let all : addresses width m ≡ 2 ^ width = omega (arith, covered-most width (keys m)) in
      ap (λ b. cond b None (Some (addresses width m))) (eq-eqb (addresses width m) (2 ^ width) all)

  pub total-number : (width : ℕ) (m : Entries T) (n : ℕ) → addresses width m ≡ n → n < 2 ^ width → Some n ≡ address_total width m
  total-number width m n e h =
      let less : (addresses width m == 2 ^ width) ≡ false = ne_eqb (addresses width m) (2 ^ width) (λ same. absurd (omega (arith, e, same, h))) in
      ap Some (sym e) ∙ ap (λ b. cond b None (Some (addresses width m))) (sym less)

  -- ---- counting along a listing

  -- no other key begins the first key of a listing
  first-outermost : (m : Entries T) (e : List Bool × T) (later : List (List Bool × T)) → listing m ≡ e ∷ later → (s : List Bool) → contains_key m s ≡ true → begins s e.0 ≡ true → s ≡ e.0
  first-outermost m e later is s has h =
      let v = some-value (get m s) has in
      let found : find listing_cmp s (e ∷ later) ≡ Some v.0 = subst (λ es. find listing_cmp s es ≡ Some v.0) is (sym (get-entries m s) ∙ v.1) in
      let sorted = subst (λ es. IsT (is_sorted listing_cmp es)) is (entries_sorted m) in
      elim (same_string s e.0) as (λ b. same_string s e.0 ≡ b → cond b (Some e.1) (find listing_cmp s later) ≡ Some v.0 → s ≡ e.0) [
        | true ↦ λ same _. same_string-is s e.0 same
        | false ↦ λ _ f. behind (each-behind e.0 later s v.0 (sorted-head e later sorted) f)
      ] refl found
    where
      behind : listing_cmp e.0 s ≡ Less → s ≡ e.0
      behind l =
          elim (nat_lt (length s) (length e.0)) as (λ b. nat_lt (length s) (length e.0) ≡ b → s ≡ e.0) [
            | true ↦ λ k.
                let shorter : length s < length e.0 = grind (arith, nat_tests) in
                absurd (not_less e.0 s l (listing-extension s e.0 h shorter))
            | false ↦ λ k.
                let longer : length e.0 ≤ length s = grind (arith, nat_tests) in
                begins-same-length s e.0 h (omega (arith, begins-length s e.0 h, longer))
          ] refl

  -- the addresses that m covers are n, and those that the items still to come cover
  pub record IsCounted (width : ℕ) (m : Entries T) (es : List (List Bool × T)) (n : ℕ) : Type 0 where
    pub left : Entries T
    pub listed : listing left ≡ es
    pub sum_is : addresses width m ≡ n + addresses width left

  pub counted-start : (width : ℕ) (m : Entries T) (es : List (List Bool × T)) (n : ℕ) → es ≡ listing m → n ≡ 0 → IsCounted width m es n
  counted-start width m es n e zero_is = record { left = m; listed = sym e; sum_is = omega (arith, zero_is) }

  -- the next item is outermost, and the items that begin with its key cover nothing new
  pub counted-next : (width : ℕ) (m : Entries T) (es : List (List Bool × T)) (n : ℕ) (e : List Bool × T) (later : List (List Bool × T)) → es ≡ e ∷ later → length e.0 ≤ width → IsCounted width m es n → IsCounted width m (filter (λ x. not (begins e.0 x.0)) later) (n + 2 ^ (width - length e.0))
  counted-next width m es n e later is h c =
      let first : listing c.left ≡ e ∷ later = c.listed ∙ is in
      let has : contains_key c.left e.0 ≡ true =
      ap is_some (get-entries c.left e.0 ∙ ap (find listing_cmp e.0) first ∙ found_first e later) in
      let more = addresses-outermost width c.left e.0 h has (first-outermost c.left e later first) in
      record {
        left = without_below c.left e.0;
        listed = entries-retained c.left (λ s. not (begins e.0 s)) ∙ ap (filter (λ x. not (begins e.0 x.0))) first ∙
            ap (λ b. cond (not b) (e ∷ filter (λ x. not (begins e.0 x.0)) later) (filter (λ x. not (begins e.0 x.0)) later)) (begins-refl e.0);
        sum_is = omega (arith, c.sum_is, more);
      }

  pub counted-end : (width : ℕ) (m : Entries T) (es : List (List Bool × T)) (n : ℕ) → es ≡ [] → IsCounted width m es n → addresses width m ≡ n
  counted-end width m es n e c =
      let none : addresses width c.left ≡ 0 = ap (λ xs. covered width (map (λ x. x.0) xs)) (c.listed ∙ e) ∙ covered-none width in
      omega (arith, c.sum_is, none)

  -- if the sum reaches 2^width, all addresses are covered
  pub counted-all : (width : ℕ) (m : Entries T) (es : List (List Bool × T)) (n : ℕ) → 2 ^ width ≤ n → IsCounted width m es n → address_total width m ≡ None
  counted-all width m es n h c = total-all width m (omega (arith, c.sum_is, h))

pub address_laws : (T : Type 0) → AddressLaws T
address_laws T = record {
  at_most = λ width m. covered-most width (keys m);
  of_no_entries = λ width. ap (covered width) (ap (map (λ e. e.0)) (entries-empty T)) ∙ covered-none width;
  of_root = λ width m has. total-all width m (subst (λ n. 2 ^ width ≤ n) (sym (covered-root width (keys m) (of-key m is_root [] has refl))) (omega arith));
  of_outermost = addresses-outermost;
}
