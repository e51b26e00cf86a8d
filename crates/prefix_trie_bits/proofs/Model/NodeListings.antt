-- The entries under a node are those of its places, one place after another: for `iter`, `children` and the counted
-- walks.
use Rattle.prefix_trie_bits.proofs.Prelude.{◌≡◌, ℕ, zero, suc, ◌<◌, ◌≤◌, Bool, true, false, cond, ◌&&◌, ◌||◌, nat_lt, ltb-true, List, [], ◌∷◌, ◌++◌, length, map, filter, flat_map, is_lt, is_some, Less, Option, Some, None, refl, sym, ap, ap₂, ◌∙◌, arith, append-nil, append_assoc, length-append, lt-ltb, le-ltb, flat_map-append, flat_map-map, entries, entries_sorted, get, contains_key, get-empty, get-entries, find, is_sorted, below_all, begins, same_bool, begins-append, begins-length, begins-trans, listing_cmp, listing-extension, same_string, strings, is_in, places, Entries, part_below, no_entries, listing, listing_below, pair_of, listing_at_place, listing_at_places}
use lib.Dec.{T as IsT}
use Rattle.prefix_trie_bits.proofs.Checks.{both, each}
use Rattle.prefix_trie_bits.proofs.Listing.{strings-short}
use Rattle.prefix_trie_bits.proofs.Model.Members.{and-first, and-second, same_string-is, get-part_below, same_entries}
use Rattle.prefix_trie_bits.proofs.Model.SortedListings.{t-true, true-t, lt-less, not_less, not_itself, sorted-tail, sorted-head, entries-retained, entries-empty}

-- ---- strings

-- s begins t if t is s, or if t goes on after s with 0 or with 1
begins-parts : (s t : List Bool) → begins s t ≡ (same_string s t || (begins (s ++ false ∷ []) t || begins (s ++ true ∷ []) t))
unfolding begins
begins-parts [] (true ∷ t) = refl
begins-parts (true ∷ s) (true ∷ t) = begins-parts s t
begins-parts (false ∷ s) (false ∷ t) = begins-parts s t
begins-parts s t = refl

-- strings that go on with 0 are listed before those that go on with 1
zero-before-one : (s t u : List Bool) → begins (s ++ false ∷ []) t ≡ true → begins (s ++ true ∷ []) u ≡ true → listing_cmp t u ≡ Less
unfolding begins
zero-before-one [] (false ∷ t) (true ∷ u) e f = refl
zero-before-one (true ∷ s) (true ∷ t) (true ∷ u) e f = zero-before-one s t u e f
zero-before-one (false ∷ s) (false ∷ t) (false ∷ u) e f = zero-before-one s t u e f
zero-before-one s t u e f = cc

-- a string is listed before the longer strings that it begins
before-longer : (b : Bool) (s t : List Bool) → begins (s ++ b ∷ []) t ≡ true → listing_cmp s t ≡ Less
before-longer b s t e =
    listing-extension s t (begins-trans s (s ++ b ∷ []) t (begins-append s (b ∷ [])) e)
    (omega (arith, begins-length (s ++ b ∷ []) t e, length-append s (b ∷ [])))

before-both : (s t u : List Bool) → same_string s t ≡ true → (begins (s ++ false ∷ []) u || begins (s ++ true ∷ []) u) ≡ true → listing_cmp t u ≡ Less
before-both s t u e f =
    elim (begins (s ++ false ∷ []) u) as (λ b. begins (s ++ false ∷ []) u ≡ b → (b || begins (s ++ true ∷ []) u) ≡ true → listing_cmp t u ≡ Less) [
      | true ↦ λ zero _. ap (λ x. listing_cmp x u) (sym (same_string-is s t e)) ∙ before-longer false s u zero
      | false ↦ λ _ one. ap (λ x. listing_cmp x u) (sym (same_string-is s t e)) ∙ before-longer true s u one
    ] refl f

shorter-test : (a b : ℕ) → nat_lt (suc a) (suc b) ≡ nat_lt a b
shorter-test a b =
    same_bool (nat_lt (suc a) (suc b)) (nat_lt a b)
    (λ e. let h : suc a < suc b = ltb-true (suc a) (suc b) e in lt-ltb a b (omega arith))
    (λ e. let h : a < b = ltb-true a b e in lt-ltb (suc a) (suc b) (omega arith))

-- ---- sorted lists of pairs

module _ {X : Type 0} where
  -- the pairs whose keys pass a test
  abbrev those : (List Bool → Bool) → List (List Bool × X) → List (List Bool × X)
  those p es = filter (λ e. p e.0) es

  none-behind : (p : List Bool → Bool) (s : List Bool) (es : List (List Bool × X)) → ((t : List Bool) → p t ≡ true → listing_cmp s t ≡ Less → ⊥) → IsT (below_all listing_cmp s es) → those p es ≡ []
  none-behind p s [] off h = refl
  none-behind p s (x ∷ es) off h =
      let all = t-true (is_lt (listing_cmp s x.0) && below_all listing_cmp s es) h in
      let less = lt-less (listing_cmp s x.0) (and-first (is_lt (listing_cmp s x.0)) (below_all listing_cmp s es) all) in
      let rest = none-behind p s es off (true-t (below_all listing_cmp s es) (and-second (is_lt (listing_cmp s x.0)) (below_all listing_cmp s es) all)) in
      elim (p x.0) as (λ b. p x.0 ≡ b → cond b (x ∷ those p es) (those p es) ≡ []) [
        | true ↦ λ e. absurd (off x.0 e less)
        | false ↦ λ _. rest
      ] refl

  -- if all strings that pass p are before all that pass q, the pairs that pass either are those that pass p, and then
  -- those that pass q
  pub two-tests : (p q : List Bool → Bool) → ((s t : List Bool) → p s ≡ true → q t ≡ true → listing_cmp s t ≡ Less) → (es : List (List Bool × X)) → IsT (is_sorted listing_cmp es) → those (λ s. p s || q s) es ≡ those p es ++ those q es
  two-tests p q apart [] h = refl
  two-tests p q apart (x ∷ es) h =
      let rest = two-tests p q apart es (sorted-tail x es h) in
      elim (q x.0) as (λ b. q x.0 ≡ b → cond (p x.0 || b) (x ∷ those (λ s. p s || q s) es) (those (λ s. p s || q s) es) ≡ cond (p x.0) (x ∷ those p es) (those p es) ++ cond b (x ∷ those q es) (those q es)) [
        | true ↦ λ here.
            let none = none-behind p x.0 es (λ t e l. not_less x.0 t l (apart t x.0 e here)) (sorted-head x es h) in
            elim (p x.0) as (λ b. p x.0 ≡ b → cond (b || true) (x ∷ those (λ s. p s || q s) es) (those (λ s. p s || q s) es) ≡ cond b (x ∷ those p es) (those p es) ++ x ∷ those q es) [
              | true ↦ λ e. absurd (not_itself x.0 x.0 (apart x.0 x.0 e here) refl)
              | false ↦ λ _. ap (λ ys. x ∷ ys) (rest ∙ ap (λ ys. ys ++ those q es) none) ∙ sym (ap (λ ys. ys ++ x ∷ those q es) none)
            ] refl
        | false ↦ λ _.
            elim (p x.0) as (λ b. cond (b || false) (x ∷ those (λ s. p s || q s) es) (those (λ s. p s || q s) es) ≡ cond b (x ∷ those p es) (those p es) ++ those q es) [
              | true ↦ ap (λ ys. x ∷ ys) rest
              | false ↦ rest
            ]
      ] refl

  -- the pairs with key s are the one that a lookup of s finds, or none
  of-one-key : (s : List Bool) (es : List (List Bool × X)) → IsT (is_sorted listing_cmp es) → those (same_string s) es ≡ pair_of s (find listing_cmp s es)
  of-one-key s [] h = refl
  of-one-key s (x ∷ es) h =
      elim (same_string s x.0) as (λ b. same_string s x.0 ≡ b → cond b (x ∷ those (same_string s) es) (those (same_string s) es) ≡ pair_of s (cond b (Some x.1) (find listing_cmp s es))) [
        | true ↦ λ e.
            let key : s ≡ x.0 = same_string-is s x.0 e in
            let none = none-behind (same_string s) x.0 es (λ t g l. not_itself x.0 t l (sym key ∙ same_string-is s t g)) (sorted-head x es h) in
            let item : x ≡ (s, x.1) = λ i. (sym key i, x.1) in
            λ i. item i ∷ none i
        | false ↦ λ _. of-one-key s es (sorted-tail x es h)
      ] refl

  -- the pairs whose keys begin with s: its own, then those that go on with 0, then those that go on with 1
  in-parts : (s : List Bool) (es : List (List Bool × X)) → IsT (is_sorted listing_cmp es) → those (begins s) es ≡ pair_of s (find listing_cmp s es) ++ (those (begins (s ++ false ∷ [])) es ++ those (begins (s ++ true ∷ [])) es)
  in-parts s es h =
      (λ i. those (λ t. begins-parts s t i) es)
      ∙ two-tests (same_string s) (λ t. begins (s ++ false ∷ []) t || begins (s ++ true ∷ []) t) (before-both s) es h
      ∙ ap₂ (λ xs ys. xs ++ ys) (of-one-key s es h) (two-tests (begins (s ++ false ∷ [])) (begins (s ++ true ∷ [])) (zero-before-one s) es h)

  -- what is listed for the place t under s: the entry of that string, or all entries under it if t has n bits
  abbrev at-string : ℕ → List (List Bool × X) → List Bool → List Bool → List (List Bool × X)
  at-string n es s t =
      cond (nat_lt (length t) n) (pair_of (s ++ t) (find listing_cmp (s ++ t) es)) (those (begins (s ++ t)) es)

  at-end : (n : ℕ) (es : List (List Bool × X)) (s : List Bool) → at-string (suc n) es s [] ≡ pair_of s (find listing_cmp s es)
  at-end n es s =
      ap (λ c. cond c (pair_of (s ++ []) (find listing_cmp (s ++ []) es)) (those (begins (s ++ [])) es)) (lt-ltb 0 (suc n) (omega arith))
      ∙ ap (λ q. pair_of q (find listing_cmp q es)) (append-nil s)

  at-further : (n : ℕ) (es : List (List Bool × X)) (s : List Bool) (b : Bool) (t : List Bool) → at-string (suc n) es s (b ∷ t) ≡ at-string n es (s ++ b ∷ []) t
  at-further n es s b t =
      ap₂ (λ c q. cond c (pair_of q (find listing_cmp q es)) (those (begins q) es)) (shorter-test (length t) n) (sym (append_assoc s (b ∷ []) t))

  at-half : (n : ℕ) (es : List (List Bool × X)) (s : List Bool) (b : Bool) → flat_map (at-string (suc n) es s) (map (λ t. b ∷ t) (strings n)) ≡ flat_map (at-string n es (s ++ b ∷ [])) (strings n)
  at-half n es s b =
      flat_map-map (at-string (suc n) es s) (λ t. b ∷ t) (strings n)
      ∙ (λ i. flat_map (λ t. at-further n es s b t i) (strings n))

  by-strings : (n : ℕ) (s : List Bool) (es : List (List Bool × X)) → IsT (is_sorted listing_cmp es) → those (begins s) es ≡ flat_map (at-string n es s) (strings n)
  unfolding strings
  by-strings zero s es h =
      sym (append-nil (those (begins (s ++ [])) es) ∙ ap (λ q. those (begins q) es) (append-nil s))
  by-strings (suc n) s es h =
      in-parts s es h
      ∙ ap₂ (λ xs ys. xs ++ ys) (sym (at-end n es s))
      (ap₂ (λ xs ys. xs ++ ys) (by-strings n (s ++ false ∷ []) es h ∙ sym (at-half n es s false)) (by-strings n (s ++ true ∷ []) es h ∙ sym (at-half n es s true))
      ∙ sym (flat_map-append (at-string (suc n) es s) (map (λ t. false ∷ t) (strings n)) (map (λ t. true ∷ t) (strings n))))

  all-begin : (es : List (List Bool × X)) → those (begins []) es ≡ es
  unfolding begins
  all-begin [] = refl
  all-begin (x ∷ es) = ap (λ ys. x ∷ ys) (all-begin es)

  -- places with nothing to list can be left out
  left-out : (f : List Bool → List (List Bool × X)) (test : List Bool → Bool) → ((t : List Bool) → length t ≤ 5 → test t ≡ false → f t ≡ []) → (ts : List (List Bool)) → each (λ t. nat_lt (length t) 6) ts ≡ true → flat_map f (filter test ts) ≡ flat_map f ts
  unfolding each
  left-out f test none [] h = refl
  left-out f test none (t ∷ ts) h =
      let b = both (nat_lt (length t) 6) (each (λ t. nat_lt (length t) 6) ts) h in
      let short : length t < 6 = ltb-true (length t) 6 b.0 in
      let rest = left-out f test none ts b.1 in
      elim (test t) as (λ b. test t ≡ b → flat_map f (cond b (t ∷ filter test ts) (filter test ts)) ≡ f t ++ flat_map f ts) [
        | true ↦ λ _. ap (λ ys. f t ++ ys) rest
        | false ↦ λ e. rest ∙ sym (ap (λ xs. xs ++ flat_map f ts) (none t (omega arith) e))
      ] refl

-- ---- the listing of a map

no-value : {X : Type 0} (o : Option X) (b : Bool) → (is_some o ≡ true → b ≡ false) → cond b o None ≡ None
no-value None true h = refl
no-value None false h = refl
no-value (Some v) b h = ap (λ c. cond c (Some v) None) (h refl)

module _ {T : Type 0} where
  -- all pairs under s, place by place
  pub listing_by_places : (m : Entries T) (s : List Bool) → listing_below m s ≡ listing_at_places m s (strings 5)
  listing_by_places m s =
      by-strings 5 s (entries m) (entries_sorted m)
      ∙ (λ i. flat_map (λ t. cond (nat_lt (length t) 5) (pair_of (s ++ t) (sym (get-entries m (s ++ t)) i)) (listing_below m (s ++ t))) (strings 5))

  -- places with nothing to list can be left out
  pub listing_by_some_places : (m : Entries T) (s : List Bool) (test : List Bool → Bool) → ((t : List Bool) → length t ≤ 5 → test t ≡ false → listing_at_place m s t ≡ []) → listing_at_places m s (filter test (strings 5)) ≡ listing_below m s
  listing_by_some_places m s test none =
      left-out (listing_at_place m s) test none (strings 5) strings-short ∙ sym (listing_by_places m s)

  -- only the places in the node's two bitmaps have something to list
  pub listing_by_node_places : (m : Entries T) (s : List Bool) (values children : ℕ) → ((t : List Bool) → length t ≤ 5 → is_in values children t ≡ false → listing_at_place m s t ≡ []) → listing_at_places m s (places values children) ≡ listing_below m s
  listing_by_node_places m s values children none = listing_by_some_places m s (is_in values children) none

  -- everything is under the root
  pub listing_of_root : (m : Entries T) → listing_below m [] ≡ listing m
  listing_of_root m = all-begin (listing m)

  -- a place of at most four bits lists the entry of its string
  pub listing_at_inner : (m : Entries T) (s t : List Bool) → length t ≤ 4 → listing_at_place m s t ≡ pair_of (s ++ t) (get m (s ++ t))
  listing_at_inner m s t short =
      ap (λ c. cond c (pair_of (s ++ t) (get m (s ++ t))) (listing_below m (s ++ t))) (lt-ltb (length t) 5 (omega arith))

  pub listing_at_value : (m : Entries T) (s t : List Bool) (v : T) → length t ≤ 4 → get m (s ++ t) ≡ Some v → listing_at_place m s t ≡ (s ++ t, v) ∷ []
  listing_at_value m s t v short e = listing_at_inner m s t short ∙ ap (pair_of (s ++ t)) e

  pub listing_at_no_value : (m : Entries T) (s t : List Bool) → length t ≤ 4 → get m (s ++ t) ≡ None → listing_at_place m s t ≡ []
  listing_at_no_value m s t short e = listing_at_inner m s t short ∙ ap (pair_of (s ++ t)) e

  -- a place of five bits lists all entries under that child
  pub listing_at_child : (m : Entries T) (s t : List Bool) → length t ≡ 5 → listing_at_place m s t ≡ listing_below m (s ++ t)
  listing_at_child m s t five =
      ap (λ c. cond c (pair_of (s ++ t) (get m (s ++ t))) (listing_below m (s ++ t))) (le-ltb (length t) 5 (omega arith))

  -- a string that begins no stored key has nothing under it
  pub listing_below_none : (m : Entries T) (q : List Bool) → ((k : List Bool) → contains_key m k ≡ true → begins q k ≡ false) → listing_below m q ≡ []
  listing_below_none m q none =
      sym (entries-retained m (begins q))
      ∙ ap entries (same_entries (part_below m q) no_entries (λ s. get-part_below m q s ∙ no-value (get m s) (begins q s) (none s) ∙ sym (get-empty listing_cmp s)))
      ∙ entries-empty T
