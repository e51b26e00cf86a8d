-- The number of full strings that begin with some string of a list is the sum over the two first bits: for
-- `address_laws`.
use Rattle.prefix_trie_bits.proofs.Prelude.{◌≡◌, ◌≤◌, subst, ℕ, suc, zero, ◌+◌, ◌^◌, Bool, true, false, cond, ◌&&◌, ◌||◌, List, [], ◌∷◌, length, map, filter, refl, sym, ap, ap₂, ◌∙◌, arith, true≢false, length-append, filter-append, list_any, begins, same_bit, is_root, full_strings, covered}

-- the strings of a list that begin with bit b, without that bit; an empty string stays
abbrev pub tails : Bool → List (List Bool) → List (List Bool)
tails b [] = []
tails b ([] ∷ ks) = [] ∷ tails b ks
tails b ((a ∷ k) ∷ ks) = cond (same_bit a b) (k ∷ tails b ks) (tails b ks)

unfoldable pub halves : ℕ → List (List Bool) → ℕ
halves zero ks = cond (list_any is_root ks) 1 0
halves (suc w) ks =
    elim (list_any is_root ks) as (λ _. ℕ) [
      | true ↦ 2 ^ suc w
      | false ↦ elim ks as (λ _. ℕ) [
        | [] ↦ 0
        | k ∷ rest ↦ halves w (tails false (k ∷ rest)) + halves w (tails true (k ∷ rest))
      ]
    ]

any-tails : (b : Bool) (s : List Bool) (ks : List (List Bool)) → list_any (λ k. begins k (b ∷ s)) ks ≡ list_any (λ k. begins k s) (tails b ks)
unfolding begins
any-tails b s [] = refl
any-tails b s ([] ∷ ks) = refl
any-tails b s ((a ∷ k) ∷ ks) =
    elim (same_bit a b) as (λ x. ((x && begins k s) || list_any (λ j. begins j (b ∷ s)) ks) ≡ list_any (λ j. begins j s) (cond x (k ∷ tails b ks) (tails b ks))) [
      | true ↦ ap (λ y. begins k s || y) (any-tails b s ks)
      | false ↦ any-tails b s ks
    ]

filter-tails : (b : Bool) (ks : List (List Bool)) (ss : List (List Bool)) → length (filter (λ s. list_any (λ k. begins k s) ks) (map (λ s. b ∷ s) ss)) ≡ length (filter (λ s. list_any (λ k. begins k s) (tails b ks)) ss)
filter-tails b ks [] = refl
filter-tails b ks (s ∷ ss) =
    ap (λ x. length (cond x ((b ∷ s) ∷ filter (λ t. list_any (λ k. begins k t) ks) (map (λ t. b ∷ t) ss)) (filter (λ t. list_any (λ k. begins k t) ks) (map (λ t. b ∷ t) ss)))) (any-tails b s ks)
    ∙ elim (list_any (λ k. begins k s) (tails b ks)) as (λ x. length (cond x ((b ∷ s) ∷ filter (λ t. list_any (λ k. begins k t) ks) (map (λ t. b ∷ t) ss)) (filter (λ t. list_any (λ k. begins k t) ks) (map (λ t. b ∷ t) ss))) ≡ length (cond x (s ∷ filter (λ t. list_any (λ k. begins k t) (tails b ks)) ss) (filter (λ t. list_any (λ k. begins k t) (tails b ks)) ss))) [
      | true ↦ ap suc (filter-tails b ks ss)
      | false ↦ filter-tails b ks ss
    ]

-- the number of covered strings is the sum of those that go on with 0 and with 1
pub covered-suc : (w : ℕ) (ks : List (List Bool)) → covered (suc w) ks ≡ covered w (tails false ks) + covered w (tails true ks)
unfolding covered full_strings
covered-suc w ks =
    ap length (filter-append (λ s. list_any (λ k. begins k s) ks) (map (λ s. false ∷ s) (full_strings w)) (map (λ s. true ∷ s) (full_strings w)))
    ∙ length-append (filter (λ s. list_any (λ k. begins k s) ks) (map (λ s. false ∷ s) (full_strings w))) (filter (λ s. list_any (λ k. begins k s) ks) (map (λ s. true ∷ s) (full_strings w)))
    ∙ ap₂ (λ a b. a + b) (filter-tails false ks (full_strings w)) (filter-tails true ks (full_strings w))

root-tails : (b : Bool) (ks : List (List Bool)) → list_any is_root ks ≡ true → list_any is_root (tails b ks) ≡ true
root-tails b [] e = absurd (true≢false (sym e))
root-tails b ([] ∷ ks) e = refl
root-tails b ((a ∷ k) ∷ ks) e =
    elim (same_bit a b) as (λ x. list_any is_root (cond x (k ∷ tails b ks) (tails b ks)) ≡ true) [
      | true ↦ elim (is_root k) as (λ y. (y || list_any is_root (tails b ks)) ≡ true) [ true ↦ refl | false ↦ root-tails b ks e ]
      | false ↦ root-tails b ks e
    ]

one-key : (ks : List (List Bool)) → covered 0 ks ≡ cond (list_any is_root ks) 1 0
unfolding covered full_strings begins
one-key ks = ap (λ x. length {A = List Bool} (cond x ([] ∷ []) [])) (roots ks) ∙ elim (list_any is_root ks) as (λ x. length {A = List Bool} (cond x ([] ∷ []) []) ≡ cond x 1 0) [ true ↦ refl | false ↦ refl ]
  where
    roots : (ks : List (List Bool)) → list_any (λ k. begins k []) ks ≡ list_any is_root ks
    roots [] = refl
    roots ([] ∷ ks) = refl
    roots ((a ∷ k) ∷ ks) = roots ks

double : (w a b : ℕ) → a ≡ 2 ^ w → b ≡ 2 ^ w → a + b ≡ 2 ^ suc w
double w a b e f = omega (arith, e, f)

-- if the empty string is in the list, all 2^w strings are covered
pub covered-root : (w : ℕ) (ks : List (List Bool)) → list_any is_root ks ≡ true → covered w ks ≡ 2 ^ w
covered-root zero ks e = one-key ks ∙ ap (λ b. cond b 1 0) e
covered-root (suc w) ks e =
    covered-suc w ks ∙ double w (covered w (tails false ks)) (covered w (tails true ks)) (covered-root w (tails false ks) (root-tails false ks e)) (covered-root w (tails true ks) (root-tails true ks e))

pub covered-none : (w : ℕ) → covered w [] ≡ 0
covered-none zero = one-key []
covered-none (suc w) = covered-suc w [] ∙ ap₂ (λ a b. a + b) (covered-none w) (covered-none w)

pub covered-halves : (w : ℕ) (ks : List (List Bool)) → covered w ks ≡ halves w ks
unfolding halves
covered-halves zero ks = one-key ks
covered-halves (suc w) ks =
    elim (list_any is_root ks) as (λ b. list_any is_root ks ≡ b → covered (suc w) ks ≡ elim b as (λ _. ℕ) [
      | true ↦ 2 ^ suc w
      | false ↦ elim ks as (λ _. ℕ) [
        | [] ↦ 0
        | k ∷ rest ↦ halves w (tails false (k ∷ rest)) + halves w (tails true (k ∷ rest))
      ]
    ]) [
      | true ↦ λ e. covered-root (suc w) ks e
      | false ↦ λ e. by (covered-halves w) ks
    ] refl
  where
    by : ((xs : List (List Bool)) → covered w xs ≡ halves w xs) → (ks : List (List Bool)) → covered (suc w) ks ≡ elim ks as (λ _. ℕ) [
      | [] ↦ 0
      | k ∷ rest ↦ halves w (tails false (k ∷ rest)) + halves w (tails true (k ∷ rest))
    ]
    by same [] = covered-none (suc w)
    by same (k ∷ rest) = covered-suc w (k ∷ rest) ∙ ap₂ (λ a b. a + b) (same (tails false (k ∷ rest))) (same (tails true (k ∷ rest)))

pub covered-most : (w : ℕ) (ks : List (List Bool)) → covered w ks ≤ 2 ^ w
covered-most zero ks = subst (λ n. n ≤ 1) (sym (one-key ks)) (elim (list_any is_root ks) as (λ b. ◌≤◌ (cond b 1 0) 1) [ true ↦ omega arith | false ↦ omega arith ])
covered-most (suc w) ks =
    subst (λ n. n ≤ 2 ^ suc w) (sym (covered-suc w ks))
    (omega (arith, covered-most w (tails false ks), covered-most w (tails true ks)))
