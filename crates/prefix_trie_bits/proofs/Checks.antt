-- Tests over all numbers below a bound, over a list or over all short strings: a proof computes such a test once, and
-- uses its result for each element.
use Rattle.prefix_trie_bits.proofs.Prelude.{◌≡◌, ℕ, zero, suc, ◌<◌, ◌≤◌, Bool, true, false, ◌&&◌, List, [], ◌∷◌, ◌++◌, length, map, refl, arith, inl, inr, get_or, beq, cases_eq, strings}
pub use Rattle.std.proofs.lemmas.Bool.{and_parts as both}

pub same : (x y : Bool) → beq x y ≡ true → x ≡ y
same true true h = refl
same false false h = refl
same x y h = cc

-- whether a test is true of each number below n
unfoldable pub below : (ℕ → Bool) → ℕ → Bool
below p zero = true
below p (suc n) = p n && below p n

pub at_below : (p : ℕ → Bool) (n : ℕ) → below p n ≡ true → (k : ℕ) → k < n → p k ≡ true
unfolding below
at_below p zero h k lt = absurd (omega arith)
at_below p (suc n) h k lt =
    let b = both (p n) (below p n) h in
    elim (cases_eq k n) [ inl e ↦ rw e b.0 | inr other ↦ at_below p n b.1 k (omega arith) ]

module _ {X : Type 0} where
  -- whether a test is true of each element of a list
  unfoldable pub each : (X → Bool) → List X → Bool
  each p [] = true
  each p (x ∷ xs) = p x && each p xs

  each-append : (p : X → Bool) (xs ys : List X) → each p (xs ++ ys) ≡ true → (each p xs ≡ true) × (each p ys ≡ true)
  unfolding each
  each-append p [] ys h = (refl, h)
  each-append p (x ∷ xs) ys h =
      let b = both (p x) (each p (xs ++ ys)) h in
      let r = each-append p xs ys b.1 in
      (rw (b.0, r.0) refl, r.1)

  pub at_index : (p : X → Bool) (xs : List X) → each p xs ≡ true → (k : ℕ) (d : X) → k < length xs → p (get_or xs k d) ≡ true
  unfolding each
  at_index p [] h k d lt = absurd (omega arith)
  at_index p (x ∷ xs) h zero d lt = (both (p x) (each p xs) h).0
  at_index p (x ∷ xs) h (suc k) d lt =
      at_index p xs (both (p x) (each p xs) h).1 k d (omega arith)

each-map : {X Y : Type 0} (p : Y → Bool) (f : X → Y) (xs : List X) → each p (map f xs) ≡ true → each (λ x. p (f x)) xs ≡ true
unfolding each
each-map p f [] h = refl
each-map p f (x ∷ xs) h =
    let b = both (p (f x)) (each p (map f xs)) h in
    rw (b.0, each-map p f xs b.1) refl

-- if a test is true of each listed string, it is true of each string of at most n bits
pub at_string : (n : ℕ) (p : List Bool → Bool) → each p (strings n) ≡ true → (s : List Bool) → length s ≤ n → p s ≡ true
unfolding each strings
at_string zero p h [] lt = (both (p []) true h).0
at_string zero p h (b ∷ s) lt = absurd (omega arith)
at_string (suc n) p h [] lt = (both (p []) _ h).0
at_string (suc n) p h (false ∷ s) lt =
    let b = both (p []) _ h in
    let r = each-append p (map (λ t. false ∷ t) (strings n)) (map (λ t. true ∷ t) (strings n)) b.1 in
    at_string n (λ t. p (false ∷ t)) (each-map p (λ t. false ∷ t) (strings n) r.0) s (omega arith)
at_string (suc n) p h (true ∷ s) lt =
    let b = both (p []) _ h in
    let r = each-append p (map (λ t. false ∷ t) (strings n)) (map (λ t. true ∷ t) (strings n)) b.1 in
    at_string n (λ t. p (true ∷ t)) (each-map p (λ t. true ∷ t) (strings n) r.1) s (omega arith)
