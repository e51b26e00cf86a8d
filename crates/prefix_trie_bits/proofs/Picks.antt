-- Picking the elements of a list at the set bits of a number: for `Places`.
use Rattle.prefix_trie_bits.proofs.Prelude.{◌≡◌, ℕ, zero, suc, ◌+◌, ◌-◌, ◌*◌, ◌/◌, ◌%◌, ◌^◌, ◌<◌, ◌≢◌, Bool, true, false, cond, ◌&&◌, eqb, List, [], ◌∷◌, length, refl, sym, ap, ap₂, ◌∙◌, arith, get_or, pow_pos, bit_and, filter, add-zero, pow-suc, inl, inr, bit_at, and_self, and_zero_l, and_block, shr_split, bit_at-zero, bit_at_cat_low, bit_at_cat_high, same_from_bits_below, cases_lt, has, pick}
use Rattle.prefix_trie_bits.proofs.Ranks.{has-low, has-suc, bit-set, bit-clear, has-from, mod-suc, low}

module _ {X : Type 0} where
  pub pick-none : (xs : List X) → pick 0 xs ≡ []
  unfolding pick
  pick-none [] = refl
  pick-none (x ∷ xs) = pick-none xs

  pub pick-same : (xs : List X) (a b : ℕ) → ((i : ℕ) → i < length xs → has a i ≡ has b i) → pick a xs ≡ pick b xs
  unfolding pick
  pick-same [] a b f = refl
  pick-same (x ∷ xs) a b f =
      ap₂ (λ t r. cond t (x ∷ r) r) (sym (has-low a) ∙ f 0 (omega arith) ∙ has-low b)
      (pick-same xs (a / 2) (b / 2) (λ i l. sym (has-suc a i) ∙ f (suc i) (omega arith) ∙ has-suc b i))

  -- if bit i says whether element i passes a test, the picked elements are those that pass
  pub pick-filter : (xs : List X) (p : X → Bool) (m : ℕ) (d : X) → ((i : ℕ) → i < length xs → has m i ≡ p (get_or xs i d)) → pick m xs ≡ filter p xs
  unfolding pick
  pick-filter [] p m d f = refl
  pick-filter (x ∷ xs) p m d f =
      ap₂ (λ t r. cond t (x ∷ r) r) (sym (has-low m) ∙ f 0 (omega arith))
      (pick-filter xs p (m / 2) d (λ i l. sym (has-suc m i) ∙ f (suc i) (omega arith)))

  -- if the bits are those of a that pass a test, the picked elements are those of a that pass
  pub pick-both : (xs : List X) (p : X → Bool) (m a : ℕ) (d : X) → ((i : ℕ) → i < length xs → has m i ≡ (has a i && p (get_or xs i d))) → pick m xs ≡ filter p (pick a xs)
  unfolding pick
  pick-both [] p m a d f = refl
  pick-both (x ∷ xs) p m a d f =
      ap₂ (λ t r. cond t (x ∷ r) r) (sym (has-low m) ∙ f 0 (omega arith) ∙ ap (λ t. t && p x) (has-low a))
      (pick-both xs p (m / 2) (a / 2) d (λ i l. sym (has-suc m i) ∙ f (suc i) (omega arith) ∙ ap (λ t. t && p (get_or xs i d)) (has-suc a i)))
      ∙ go (eqb (a % 2) 1)
    where
      go : (t : Bool) → cond (t && p x) (x ∷ filter p (pick (a / 2) xs)) (filter p (pick (a / 2) xs)) ≡ filter p (cond t (x ∷ pick (a / 2) xs) (pick (a / 2) xs))
      go true = refl
      go false = refl

  -- the lowest set bit picks the first element, and the other bits pick the rest
  pub pick-first : (xs : List X) (m t m' : ℕ) (d : X) → t < length xs → has m t ≡ true → ((i : ℕ) → i < t → has m i ≡ false) → has m' t ≡ false → ((i : ℕ) → i ≢ t → has m' i ≡ has m i) → pick m xs ≡ get_or xs t d ∷ pick m' xs
  unfolding pick
  pick-first [] m t m' d l h before gone others = absurd (omega arith)
  pick-first (x ∷ xs) m zero m' d l h before gone others =
      ap (λ t. cond t (x ∷ pick (m / 2) xs) (pick (m / 2) xs)) (sym (has-low m) ∙ h) ∙
      ap (λ r. x ∷ r) (pick-same xs (m / 2) (m' / 2) (λ i k. sym (has-suc m i) ∙ sym (others (suc i) (omega arith)) ∙ has-suc m' i)) ∙
      ap (λ t. x ∷ cond t (x ∷ pick (m' / 2) xs) (pick (m' / 2) xs)) (sym gone ∙ has-low m')
  pick-first (x ∷ xs) m (suc t) m' d l h before gone others =
      ap (λ b. cond b (x ∷ pick (m / 2) xs) (pick (m / 2) xs)) (sym (has-low m) ∙ before 0 (omega arith)) ∙
      pick-first xs (m / 2) t (m' / 2) d (omega arith) (sym (has-suc m t) ∙ h) (λ i k. sym (has-suc m i) ∙ before (suc i) (omega arith)) (sym (has-suc m' t) ∙ gone) (λ i ne. sym (has-suc m' i) ∙ others (suc i) (omega arith) ∙ has-suc m i) ∙
      ap (λ b. get_or xs t d ∷ cond b (x ∷ pick (m' / 2) xs) (pick (m' / 2) xs)) (sym (before 0 (omega arith)) ∙ sym (others 0 (omega arith)) ∙ has-low m')

-- ---- `m & (m - 1)`

bit_at-low : (m b i : ℕ) → i < b → bit_at (m % 2 ^ b) i ≡ bit_at m i
bit_at-low m b i l =
    sym (bit_at_cat_low (m / 2 ^ b) b (m % 2 ^ b) i l) ∙ ap (λ x. bit_at x i) (shr_split m b)

none-below : (m t : ℕ) → ((i : ℕ) → i < t → has m i ≡ false) → m % 2 ^ t ≡ 0
none-below m t before =
    same_from_bits_below t (m % 2 ^ t) 0 (low m t) (pow_pos t) (λ i l. bit_at-low m t i l ∙ bit-clear m i (before i l) ∙ sym (bit_at-zero i))

-- a number is an odd number shifted up by the position of its lowest set bit
cut-at : (m t : ℕ) → has m t ≡ true → ((i : ℕ) → i < t → has m i ≡ false) → m ≡ (m / 2 ^ suc t * 2 + 1) * 2 ^ t
cut-at m t h before =
    let e : m % 2 ^ suc t ≡ 1 * 2 ^ t + 0 =
    mod-suc m t ∙ ap₂ (λ x y. x * 2 ^ t + y) (bit-set m t h) (none-below m t before) in
    sym (shr_split m (suc t)) ∙ ap₂ (λ x y. m / 2 ^ suc t * x + y) (pow-suc 2 t) e ∙ regroup (m / 2 ^ suc t) (2 ^ t)
  where
    regroup : (a p : ℕ) → a * (p * 2) + (1 * p + 0) ≡ (a * 2 + 1) * p
    regroup a p = omega arith

pub without-lowest : (m t : ℕ) → has m t ≡ true → ((i : ℕ) → i < t → has m i ≡ false) → bit_and m (m - 1) ≡ m / 2 ^ suc t * 2 ^ suc t
without-lowest m t h before =
    let a = m / 2 ^ suc t in
    let e = cut-at m t h before in
    let f : m - 1 ≡ (a * 2 + 0) * 2 ^ t + (2 ^ t - 1) = minus a (2 ^ t) m e (pow_pos t) in
    ap₂ bit_and (e ∙ sym (add-zero _)) f ∙
    and_block t (a * 2 + 1) (a * 2 + 0) 0 (2 ^ t - 1) (pow_pos t) (less (2 ^ t) (pow_pos t)) ∙
    ap₂ (λ x y. x * 2 ^ t + y) (even a) (and_zero_l (2 ^ t - 1)) ∙
    regroup a (2 ^ t) ∙ ap (λ x. a * x) (sym (pow-suc 2 t))
  where
    minus : (a p n : ℕ) → n ≡ (a * 2 + 1) * p → 0 < p → n - 1 ≡ (a * 2 + 0) * p + (p - 1)
    minus a p n e l = rw e (omega arith)

    less : (p : ℕ) → 0 < p → p - 1 < p
    less p l = omega arith

    even : (a : ℕ) → bit_and (a * 2 + 1) (a * 2 + 0) ≡ a * 2
    even a =
        and_block 1 a a 1 0 (omega arith) (omega arith) ∙ ap (λ x. x * 2 + 0) (and_self a) ∙ add-zero (a * 2)

    regroup : (a p : ℕ) → a * 2 * p + 0 ≡ a * (p * 2)
    regroup a p = omega arith

pub lowest-gone : (m t : ℕ) → has m t ≡ true → ((i : ℕ) → i < t → has m i ≡ false) → has (bit_and m (m - 1)) t ≡ false
lowest-gone m t h before =
    has-from _ t 0 (ap (λ x. bit_at x t) (without-lowest m t h before ∙ sym (add-zero _)) ∙ bit_at_cat_low (m / 2 ^ suc t) (suc t) 0 t (omega arith) ∙ bit_at-zero t)

pub others-stay : (m t : ℕ) → has m t ≡ true → ((i : ℕ) → i < t → has m i ≡ false) → (i : ℕ) → i ≢ t → has (bit_and m (m - 1)) i ≡ has m i
others-stay m t h before i ne =
    ap (λ x. has x i) (without-lowest m t h before ∙ sym (add-zero _)) ∙
    elim (cases_lt i t) [
      | inl l ↦ ap (λ x. eqb x 1) (bit_at_cat_low (m / 2 ^ suc t) (suc t) 0 i (omega arith) ∙ bit_at-zero i) ∙ sym (before i l)
      | inr g ↦ ap (λ x. eqb x 1) (bit_at_cat_high (m / 2 ^ suc t) (suc t) 0 i (pow_pos (suc t)) (omega arith) ∙ sym (bit_at_cat_high (m / 2 ^ suc t) (suc t) (m % 2 ^ suc t) i (low m (suc t)) (omega arith)) ∙ ap (λ x. bit_at x i) (shr_split m (suc t)))
    ]
