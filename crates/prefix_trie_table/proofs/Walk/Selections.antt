-- What a walk from a bit string gives, node by node on the string's search path.
use Rattle.prefix_trie_table.proofs.Prelude.{◌≡◌, ℕ, zero, suc, ◌<◌, ◌≤◌, Bool, true, false, not, cond, ◌&&◌, ◌||◌, nat_lt, ltb-true, List, [], ◌∷◌, ◌++◌, length, take, drop, filter, is_lt, is_le, Ordering, Less, Equal, Greater, Option, Some, None, inl, inr, refl, sym, ap, ap₂, ◌∙◌, subst, arith, cases_lt, false≢true, ordering_reverse, take-take, take_at, drop_at, filter-append, filter_agree, get, entries, entries_sorted, begins, same_bool, begins-from-take, take-begins, begins-rest, begins-take, begins-trans, begins-append, listing_cmp, listing_total, listing-refl, listing-common, listing-apart, strings, is_before, Entries, listing, listing_below, pair_of, listing_at_place, listing_at_places, both, each, strings-short, and-first, and-second, lt-less, two-tests, listing_by_places, listing_at_inner, listing_at_child, Start, At, After, Below, selected, behind, kept}
use Rattle.std.proofs.lemmas.List.{take-append-drop, take_all, append_assoc}
use Rattle.prefix_trie_table.proofs.Strings.SmallFacts.{no_or_yes}

-- whether a walk from q gives what k has
abbrev pub wanted : Start → List Bool → List Bool → Bool
wanted At q k = is_le (listing_cmp q k)
wanted After q k = is_lt (listing_cmp q k)
wanted Below q k = begins q k

-- ---- strings

or-false : (a : Bool) → a ≡ (a || false)
or-false true = refl
or-false false = refl

-- after the beginning c come the strings that begin with it, and those that differ from it and come
-- later
here-ordered : (f : Ordering → Bool) → f Less ≡ true → f Greater ≡ false → (c r k : List Bool) →
    f (listing_cmp (c ++ r) k) ≡ ((begins c k && f (listing_cmp (c ++ r) k)) || is_before c (take (length c) k))
unfolding begins
here-ordered f less greater [] r [] = or-false (f (listing_cmp r []))
here-ordered f less greater [] r (b ∷ k) = or-false (f (listing_cmp r (b ∷ k)))
here-ordered f less greater (a ∷ c) r [] = greater
here-ordered f less greater (true ∷ c) r (true ∷ k) = here-ordered f less greater c r k
here-ordered f less greater (true ∷ c) r (false ∷ k) = greater
here-ordered f less greater (false ∷ c) r (true ∷ k) = less
here-ordered f less greater (false ∷ c) r (false ∷ k) = here-ordered f less greater c r k

here-below : (c r k : List Bool) → begins (c ++ r) k ≡ ((begins c k && begins (c ++ r) k) || false)
unfolding begins
here-below [] r k = or-false (begins r k)
here-below (a ∷ c) r [] = refl
here-below (true ∷ c) r (true ∷ k) = here-below c r k
here-below (true ∷ c) r (false ∷ k) = refl
here-below (false ∷ c) r (true ∷ k) = refl
here-below (false ∷ c) r (false ∷ k) = here-below c r k

-- what two strings begin with counts for nothing
pub begins-common : (s t u : List Bool) → begins (s ++ t) (s ++ u) ≡ begins t u
unfolding begins
begins-common [] t u = refl
begins-common (true ∷ s) t u = begins-common s t u
begins-common (false ∷ s) t u = begins-common s t u

common : (x : Start) (b : Bool) (q k : List Bool) → wanted x (b ∷ q) (b ∷ k) ≡ wanted x q k
common At b q k = ap is_le (listing-common (b ∷ []) q k)
common After b q k = ap is_lt (listing-common (b ∷ []) q k)
common Below b q k = begins-common (b ∷ []) q k

passed-here : (x : Start) (c r k : List Bool) → wanted x (c ++ r) k ≡ ((begins c k && wanted x (c ++ r) k) || behind x c (take (length c) k))
passed-here At c r k = here-ordered is_le refl refl c r k
passed-here After c r k = here-ordered is_lt refl refl c r k
passed-here Below c r k = here-below c r k

passed-string : (x : Start) (p c r k : List Bool) →
    (begins p k && wanted x (p ++ c ++ r) k) ≡ ((begins (p ++ c) k && wanted x (p ++ c ++ r) k) || (begins p k && behind x c (take (length c) (drop (length p) k))))
unfolding begins
passed-string x [] c r k = passed-here x c r k
passed-string x (a ∷ p) c r [] = refl
passed-string x (true ∷ p) c r (true ∷ k) =
    subst (λ w. (begins p k && w) ≡ ((begins (p ++ c) k && w) || (begins p k && behind x c (take (length c) (drop (length p) k))))) (sym (common x true (p ++ c ++ r) k)) (passed-string x p c r k)
passed-string x (true ∷ p) c r (false ∷ k) = refl
passed-string x (false ∷ p) c r (true ∷ k) = refl
passed-string x (false ∷ p) c r (false ∷ k) =
    subst (λ w. (begins p k && w) ≡ ((begins (p ++ c) k && w) || (begins p k && behind x c (take (length c) (drop (length p) k))))) (sym (common x false (p ++ c ++ r) k)) (passed-string x p c r k)

-- what is after it comes after what is under it
apart-here : (c k l : List Bool) → begins c k ≡ true → is_before c (take (length c) l) ≡ true → listing_cmp k l ≡ Less
apart-here c k l e f =
    ap₂ listing_cmp (begins-rest c k e) (sym (take-append-drop (length c) l))
    ∙ listing-apart c (take (length c) l) (drop (length c) k) (drop (length c) l) (lt-less (listing_cmp c (take (length c) l)) f) (no_or_yes _ same)
  where
    same : begins c (take (length c) l) ≡ true → ⊥
    same g =
        let is : take (length c) l ≡ c = sym (take-take (length c) (length c) l (omega arith)) ∙ begins-take c (take (length c) l) g in
        false≢true (sym (ap is_lt (listing-refl c)) ∙ ap (is_before c) (sym is) ∙ f)

apart-string : (p c k l : List Bool) → begins (p ++ c) k ≡ true → begins p l ≡ true → is_before c (take (length c) (drop (length p) l)) ≡ true → listing_cmp k l ≡ Less
apart-string p c k l e f g =
    let under : k ≡ p ++ drop (length p) k = begins-rest p k (begins-trans p (p ++ c) k (begins-append p c) e) in
    ap₂ listing_cmp under (begins-rest p l f) ∙ listing-common p (drop (length p) k) (drop (length p) l)
    ∙ apart-here c (drop (length p) k) (drop (length p) l) (sym (begins-common p c (drop (length p) k)) ∙ ap (begins (p ++ c)) (sym under) ∙ e) g

behind-before : (x : Start) (c s : List Bool) → behind x c s ≡ true → is_before c s ≡ true
behind-before At c s e = e
behind-before After c s e = e
behind-before Below c s e = cc

-- a string is compared to a shorter one by its first bits
first-cmp : (n : ℕ) (r k : List Bool) → length r < n → listing_cmp r k ≡ listing_cmp r (take n k)
first-cmp zero r k h = absurd (omega (arith, h))
first-cmp (suc n) [] [] h = refl
first-cmp (suc n) [] (b ∷ k) h = refl
first-cmp (suc n) (a ∷ r) [] h = refl
first-cmp (suc n) (true ∷ r) (true ∷ k) h = first-cmp n r k (omega (arith, h))
first-cmp (suc n) (true ∷ r) (false ∷ k) h = refl
first-cmp (suc n) (false ∷ r) (true ∷ k) h = refl
first-cmp (suc n) (false ∷ r) (false ∷ k) h = first-cmp n r k (omega (arith, h))

turned : (o : Ordering) → is_le (ordering_reverse o) ≡ not (is_lt o)
turned Less = refl
turned Equal = refl
turned Greater = refl

end-below : (n : ℕ) (r k : List Bool) → length r < n → begins r k ≡ begins r (take n k)
end-below n r k h = same_bool _ _
    (λ e. begins-from-take r (take n k) (length r) (take-take (length r) n k (omega (arith, h)) ∙ begins-take r k e)) (λ e. begins-trans r (take n k) k e (take-begins n k))

end-here : (x : Start) (r k : List Bool) → length r < 5 → wanted x r k ≡ kept x r (take 5 k)
end-here At r k h = ap is_le (first-cmp 5 r k h ∙ listing_total.antisymm r (take 5 k)) ∙ turned (listing_cmp (take 5 k) r)
end-here After r k h = ap is_lt (first-cmp 5 r k h)
end-here Below r k h = end-below 5 r k h

end-string : (x : Start) (p r k : List Bool) → length r < 5 → (begins p k && wanted x (p ++ r) k) ≡ (begins p k && kept x r (take 5 (drop (length p) k)))
unfolding begins
end-string x [] r k h = end-here x r k h
end-string x (a ∷ p) r [] h = refl
end-string x (true ∷ p) r (true ∷ k) h = ap (λ b. begins p k && b) (common x true (p ++ r) k) ∙ end-string x p r k h
end-string x (true ∷ p) r (false ∷ k) h = refl
end-string x (false ∷ p) r (true ∷ k) h = refl
end-string x (false ∷ p) r (false ∷ k) h = ap (λ b. begins p k && b) (common x false (p ++ r) k) ∙ end-string x p r k h

-- ---- filters

module _ {X : Type 0} where
  filter-both : (p r : X → Bool) (xs : List X) → filter r (filter p xs) ≡ filter (λ x. p x && r x) xs
  filter-both p r [] = refl
  filter-both p r (x ∷ xs) = elim (p x) as (λ b. filter r (cond b (x ∷ filter p xs) (filter p xs)) ≡ cond (b && r x) (x ∷ filter (λ y. p y && r y) xs) (filter (λ y. p y && r y) xs)) [
    | true ↦ ap (λ ys. cond (r x) (x ∷ ys) ys) (filter-both p r xs)
    | false ↦ filter-both p r xs
  ]

  abbrev no_items : List X
  no_items = []

  cond-none : (b : Bool) → no_items ≡ cond b no_items no_items
  cond-none true = refl
  cond-none false = refl

  keep : (g b : Bool) (x : X) (ys zs : List X) → g ≡ b → zs ≡ cond b ys [] → cond g (x ∷ zs) zs ≡ cond b (x ∷ ys) []
  keep true true x ys zs e h = ap (λ us. x ∷ us) h
  keep true false x ys zs e h = cc
  keep false true x ys zs e h = cc
  keep false false x ys zs e h = h

  -- if a test has one result for all that pass another, all of them are kept or none
  pub one-match : (g p : X → Bool) (b : Bool) → ((x : X) → p x ≡ true → g x ≡ b) → (xs : List X) → filter g (filter p xs) ≡ cond b (filter p xs) []
  one-match g p b h [] = cond-none b
  one-match g p b h (x ∷ xs) = elim (p x) as (λ c. p x ≡ c → filter g (cond c (x ∷ filter p xs) (filter p xs)) ≡ cond b (cond c (x ∷ filter p xs) (filter p xs)) []) [
    | true ↦ λ e. keep (g x) b x (filter p xs) (filter g (filter p xs)) (h x e) (one-match g p b h xs)
    | false ↦ λ _. one-match g p b h xs
  ] refl

first-bits : (s t u : List Bool) → length t ≡ 5 → take 5 (drop (length s) ((s ++ t) ++ u)) ≡ t
first-bits s t u five = ap (λ k. take 5 (drop (length s) k)) (append_assoc s t u) ∙ ap (take 5) (drop_at s (t ++ u) (length s) refl) ∙ take_at t u 5 five

-- a pair passes if its place does
module _ {T : Type 0} (m : Entries T) (s : List Bool) (passes : List Bool × T → Bool) (test : List Bool → Bool)
    (value : (t : List Bool) → length t ≤ 4 → (v : T) → passes (s ++ t, v) ≡ test t)
    (child : (t : List Bool) → length t ≡ 5 → (e : List Bool × T) → begins (s ++ t) e.0 ≡ true → passes e ≡ test t) where
  pair-passes : (t : List Bool) (o : Option T) → length t ≤ 4 → filter passes (pair_of (s ++ t) o) ≡ cond (test t) (pair_of (s ++ t) o) []
  pair-passes t None h = cond-none (test t)
  pair-passes t (Some v) h = keep (passes (s ++ t, v)) (test t) (s ++ t, v) [] [] (value t h v) (cond-none (test t))

  at-place : (t : List Bool) → length t ≤ 5 → filter passes (listing_at_place m s t) ≡ cond (test t) (listing_at_place m s t) []
  at-place t h = elim (cases_lt (length t) 5) as (λ _. filter passes (listing_at_place m s t) ≡ cond (test t) (listing_at_place m s t) []) [
    | inl l ↦
        let is = listing_at_inner m s t (omega arith) in
        subst (λ es. filter passes es ≡ cond (test t) es []) (sym is) (pair-passes t (get m (s ++ t)) (omega arith))
    | inr g ↦
        let five : length t ≡ 5 = omega arith in
        subst (λ es. filter passes es ≡ cond (test t) es []) (sym (listing_at_child m s t five))
        (one-match passes (λ e. begins (s ++ t) e.0) (test t) (child t five) (listing m))
  ]

  module _ (some inside : List Bool → Bool) (is : (t : List Bool) → length t ≤ 5 → some t ≡ (inside t && test t))
      (none : (t : List Bool) → length t ≤ 5 → inside t ≡ false → listing_at_place m s t ≡ []) where
    one-place : (t : List Bool) → length t ≤ 5 → filter passes (listing_at_place m s t) ≡ cond (some t) (listing_at_place m s t) []
    one-place t h = elim (inside t) as (λ b. inside t ≡ b → filter passes (listing_at_place m s t) ≡ cond (some t) (listing_at_place m s t) []) [
      | true ↦ λ e. at-place t h ∙ ap (λ b. cond b (listing_at_place m s t) []) (sym (is t h ∙ ap (λ b. b && test t) e))
      | false ↦ λ e.
          let empty = none t h e in
          ap (filter passes) empty ∙ cond-none (some t) ∙ ap (λ es. cond (some t) es []) (sym empty)
    ] refl

    pub some-places : (ts : List (List Bool)) → each (λ t. nat_lt (length t) 6) ts ≡ true → listing_at_places m s (filter some ts) ≡ filter passes (listing_at_places m s ts)
    unfolding each
    some-places [] h = refl
    some-places (t ∷ ts) h =
        let b = both (nat_lt (length t) 6) (each (λ u. nat_lt (length u) 6) ts) h in
        let short : length t < 6 = ltb-true (length t) 6 b.0 in
        split (some t) ∙ ap₂ (λ xs ys. xs ++ ys) (sym (one-place t (omega arith))) (some-places ts b.1)
        ∙ sym (filter-append passes (listing_at_place m s t) (listing_at_places m s ts))
      where
        split : (b : Bool) → listing_at_places m s (cond b (t ∷ filter some ts) (filter some ts)) ≡ cond b (listing_at_place m s t) [] ++ listing_at_places m s (filter some ts)
        split true = refl
        split false = refl

-- the pairs at a node's places that pass a test are those below it whose places do
pub at_some_places : {T : Type 0} (m : Entries T) (s : List Bool) (test some inside : List Bool → Bool) → ((t : List Bool) → length t ≤ 5 → some t ≡ (inside t && test t)) →
    ((t : List Bool) → length t ≤ 5 → inside t ≡ false → listing_at_place m s t ≡ []) →
    listing_at_places m s (filter some (strings 5)) ≡ filter (λ e. test (take 5 (drop (length s) e.0))) (listing_below m s)
at_some_places m s test some inside is none =
    some-places m s (λ e. test (take 5 (drop (length s) e.0))) test
    (λ t h v. ap (λ k. test (take 5 k)) (drop_at s t (length s) refl) ∙ ap test (take_all 5 t (omega arith)))
    (λ t five e b. ap (λ k. test (take 5 (drop (length s) k))) (begins-rest (s ++ t) e.0 b) ∙ ap test (first-bits s t (drop (length (s ++ t)) e.0) five))
    some inside is none (strings 5) strings-short
    ∙ ap (filter (λ e. test (take 5 (drop (length s) e.0)))) (sym (listing_by_places m s))

-- ---- the search path

module _ {T : Type 0} (x : Start) (m : Entries T) where
  -- what is selected below p
  abbrev pub wanted_below : List Bool → List Bool → List (List Bool × T)
  wanted_below q p = filter (λ e. begins p e.0 && wanted x q e.0) (listing m)

  pub wanted_at_root : (q : List Bool) → wanted_below q [] ≡ selected x m q
  unfolding begins
  wanted_at_root q = at_root x
    where
      at_root : (y : Start) → filter (λ e. begins [] e.0 && wanted y q e.0) (listing m) ≡ selected y m q
      at_root At = refl
      at_root After = refl
      at_root Below = refl

  -- under a node that is passed it is what is selected under the child taken, and then what comes
  -- after that child
  pub wanted_passed : (p c r : List Bool) → wanted_below (p ++ c ++ r) p ≡ wanted_below (p ++ c ++ r) (p ++ c) ++ filter (λ e. behind x c (take (length c) (drop (length p) e.0))) (listing_below m p)
  wanted_passed p c r =
      filter_agree _ _ (λ e. passed-string x p c r e.0) (listing m)
      ∙ two-tests (λ k. begins (p ++ c) k && wanted x (p ++ c ++ r) k) (λ k. begins p k && behind x c (take (length c) (drop (length p) k)))
      (λ k l e f. apart-string p c k l (and-first (begins (p ++ c) k) _ e) (and-first (begins p l) _ f) (behind-before x c _ (and-second (begins p l) _ f)))
      (entries m) (entries_sorted m)
      ∙ ap (λ es. wanted_below (p ++ c ++ r) (p ++ c) ++ es) (sym (filter-both (λ e. begins p e.0) (λ e. behind x c (take (length c) (drop (length p) e.0))) (listing m)))

  -- under the node where the string ends it is what is kept there
  pub wanted_ended : (p r : List Bool) → length r < 5 → wanted_below (p ++ r) p ≡ filter (λ e. kept x r (take 5 (drop (length p) e.0))) (listing_below m p)
  wanted_ended p r h =
      filter_agree _ _ (λ e. end-string x p r e.0 h) (listing m)
      ∙ sym (filter-both (λ e. begins p e.0) (λ e. kept x r (take 5 (drop (length p) e.0))) (listing m))

  -- and nothing if nothing is stored
  pub wanted_none : (q p : List Bool) → listing_below m p ≡ [] → wanted_below q p ≡ []
  wanted_none q p h = sym (filter-both (λ e. begins p e.0) (λ e. wanted x q e.0) (listing m)) ∙ ap (filter (λ e. wanted x q e.0)) h
