-- The strings of a node's places are in listing order, each once: for `Places`.
use Rattle.prefix_trie_bits.proofs.Prelude.{◌≡◌, ℕ, zero, suc, ◌%◌, ◌/◌, ◌<◌, ◌≤◌, ◌↔◌, ◌⊎◌, Bool, true, false, cond, nat_eq, nat_lt, ltb-true, ◌&&◌, List, [], ◌∷◌, length, map, filter, refl, sym, ap, ◌∙◌, subst, inl, inr, arith, Ordering, Less, Contains, AllByRecursion, IsStrictlySortedBy, Contains-append_left, Contains-append_right, listing_cmp, strings, pick, is_before, is_in, places}
use Rattle.prefix_trie_bits.proofs.Checks.{both, each, at_index}
use Rattle.prefix_trie_bits.proofs.Listing.{strings-short}
use Rattle.prefix_trie_bits.proofs.Model.SortedListings.{lt-less}

-- ---- what a list contains

module _ {X : Type 0} where
  contains-first : (x : X) (xs : List X) → Contains (x ∷ xs) x
  contains-first x xs = (0, omega arith, refl)

  contains-later : (y x : X) (xs : List X) → Contains xs x → Contains (y ∷ xs) x
  contains-later y x xs (k, l, e) = (suc k, omega arith, e)

  contains-cases : (y x : X) (xs : List X) → Contains (y ∷ xs) x → (y ≡ x) ⊎ Contains xs x
  contains-cases y x xs (zero, l, e) = inl e
  contains-cases y x xs (suc k, l, e) = inr (k, omega arith, e)

  contains-none : (x : X) → Contains [] x → ⊥
  contains-none x (k, l, e) = omega arith

  contains-filter : (p : X → Bool) (x : X) (xs : List X) → Contains xs x → p x ≡ true → Contains (filter p xs) x
  contains-filter p x [] h t = absurd (contains-none x h)
  contains-filter p x (y ∷ ys) h t =
      elim (contains-cases y x ys h) [
        | inl e ↦
            let passes : p y ≡ true = ap p e ∙ t in
            subst (λ b. Contains (cond b (y ∷ filter p ys) (filter p ys)) x) (sym passes)
            (subst (λ z. Contains (y ∷ filter p ys) z) e (contains-first y (filter p ys)))
        | inr later ↦ more (p y) (contains-filter p x ys later t)
      ]
    where
      more : (b : Bool) → Contains (filter p ys) x → Contains (cond b (y ∷ filter p ys) (filter p ys)) x
      more true r = contains-later y x (filter p ys) r
      more false r = r

  filter-contains : (p : X → Bool) (x : X) (xs : List X) → Contains (filter p xs) x → Contains xs x × (p x ≡ true)
  filter-contains p x [] h = absurd (contains-none x h)
  filter-contains p x (y ∷ ys) h =
      go (p y) refl (λ r. let f = filter-contains p x ys r in (contains-later y x ys f.0, f.1)) h
    where
      go : (b : Bool) → p y ≡ b → (Contains (filter p ys) x → Contains (y ∷ ys) x × (p x ≡ true)) → Contains (cond b (y ∷ filter p ys) (filter p ys)) x → Contains (y ∷ ys) x × (p x ≡ true)
      go false e further r = further r
      go true e further r = elim (contains-cases y x (filter p ys) r) [
        | inl same ↦ (subst (λ z. Contains (y ∷ ys) z) same (contains-first y ys), sym (ap p same) ∙ e)
        | inr later ↦ further later
      ]

contains-map : {X Y : Type 0} (f : X → Y) (x : X) (xs : List X) → Contains xs x → Contains (map f xs) (f x)
contains-map f x [] h = absurd (contains-none x h)
contains-map f x (y ∷ ys) h = elim (contains-cases y x ys h) [
  | inl e ↦ subst (λ z. Contains (f y ∷ map f ys) (f z)) e (contains-first (f y) (map f ys))
  | inr later ↦ contains-later (f y) (f x) (map f ys) (contains-map f x ys later)
]

-- the list has each string of at most n bits
strings-contain : (n : ℕ) (s : List Bool) → length s ≤ n → Contains (strings n) s
unfolding strings
strings-contain zero [] l = contains-first [] []
strings-contain zero (b ∷ s) l = absurd (omega arith)
strings-contain (suc n) [] l = contains-first [] _
strings-contain (suc n) (false ∷ s) l =
    contains-later [] (false ∷ s) _
    (Contains-append_left (map (λ t. false ∷ t) (strings n)) (map (λ t. true ∷ t) (strings n)) (false ∷ s) (contains-map (λ t. false ∷ t) s (strings n) (strings-contain n s (omega arith))))
strings-contain (suc n) (true ∷ s) l =
    contains-later [] (true ∷ s) _
    (Contains-append_right (map (λ t. false ∷ t) (strings n)) (map (λ t. true ∷ t) (strings n)) (true ∷ s) (contains-map (λ t. true ∷ t) s (strings n) (strings-contain n s (omega arith))))

strings-within : (s : List Bool) → Contains (strings 5) s → length s ≤ 5
strings-within s (k, l, e) =
    let h : length s < 6 = ltb-true (length s) 6 (ap (λ t. nat_lt (length t) 6) (sym e) ∙ at_index (λ t. nat_lt (length t) 6) (strings 5) strings-short k s l) in
    omega arith

-- the places of two bitmaps are the strings of at most five bits whose bits are set
pub in_places : (values children : ℕ) (s : List Bool) → Contains (places values children) s ↔ ((length s ≤ 5) × (is_in values children s ≡ true))
in_places values children s = (
  λ h. let f = filter-contains (is_in values children) s (strings 5) h in (strings-within s f.0, f.1),
  λ h. contains-filter (is_in values children) s (strings 5) (strings-contain 5 s h.0) h.1,
)

-- ---- order

unfoldable ordered : List (List Bool) → Bool
ordered [] = true
ordered (s ∷ ss) = each (is_before s) ss && ordered ss

strings-ordered : ordered (strings 5) ≡ true
unfolding ordered each strings
strings-ordered = refl

all-before : (s : List Bool) (ss : List (List Bool)) → each (is_before s) ss ≡ true → AllByRecursion (λ t. listing_cmp s t ≡ Less) ss
unfolding each
all-before s [] h = tt
all-before s (t ∷ ss) h =
    let b = both (is_before s t) (each (is_before s) ss) h in
    (lt-less (listing_cmp s t) b.0, all-before s ss b.1)

sorted-of : (ss : List (List Bool)) → ordered ss ≡ true → IsStrictlySortedBy listing_cmp ss
unfolding ordered IsStrictlySortedBy
sorted-of [] h = tt
sorted-of (s ∷ ss) h =
    let b = both (each (is_before s) ss) (ordered ss) h in (all-before s ss b.0, sorted-of ss b.1)

module _ {X : Type 0} where
  all-picked : (P : X → Type 0) (xs : List X) (m : ℕ) → AllByRecursion P xs → AllByRecursion P (pick m xs)
  unfolding pick
  all-picked P [] m h = tt
  all-picked P (x ∷ xs) m h = go (nat_eq (m % 2) 1) (all-picked P xs (m / 2) h.1)
    where
      go : (b : Bool) → AllByRecursion P (pick (m / 2) xs) → AllByRecursion P (cond b (x ∷ pick (m / 2) xs) (pick (m / 2) xs))
      go true r = (h.0, r)
      go false r = r

  sorted-picked : (cmp : X → X → Ordering) (xs : List X) (m : ℕ) → IsStrictlySortedBy cmp xs → IsStrictlySortedBy cmp (pick m xs)
  unfolding pick IsStrictlySortedBy
  sorted-picked cmp [] m h = tt
  sorted-picked cmp (x ∷ xs) m h =
      go (nat_eq (m % 2) 1) (all-picked (λ y. cmp x y ≡ Less) xs (m / 2) h.0) (sorted-picked cmp xs (m / 2) h.1)
    where
      go : (b : Bool) → AllByRecursion (λ y. cmp x y ≡ Less) (pick (m / 2) xs) → IsStrictlySortedBy cmp (pick (m / 2) xs) → IsStrictlySortedBy cmp (cond b (x ∷ pick (m / 2) xs) (pick (m / 2) xs))
      go true a r = (a, r)
      go false a r = r

-- what a walk has still to give is in listing order
pub walk_sorted : (m : ℕ) → IsStrictlySortedBy listing_cmp (pick m (strings 5))
walk_sorted m = sorted-picked listing_cmp (strings 5) m (sorted-of (strings 5) strings-ordered)
