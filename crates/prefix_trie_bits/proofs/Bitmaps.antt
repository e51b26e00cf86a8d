-- Which bits `|` and `&` of two bitmaps have, and those of two bitmaps packed into one word: for the walks over a
-- node's places and for the masks.
use Rattle.prefix_trie_bits.proofs.Prelude.{◌≡◌, ℕ, ◌-◌, ◌*◌, ◌^◌, ◌<◌, ◌≤◌, false, ◌&&◌, ◌||◌, eqb, bit_and, bit_or, min, max, refl, sym, ap, ◌∙◌, add-zero, pow_pos, bit_at, bit_at_or, bit_at_and, bit_at-lt, bit_at-zero, bit_at_above, bit_at_cat_low, bit_at_cat_high, has}
use Rattle.prefix_trie_bits.proofs.Ranks.{has-from, below_two}
pub use Rattle.std.proofs.Math.Bool.{or-false, or-true}

pub has-or : (a b i : ℕ) → has (bit_or a b) i ≡ (has a i || has b i)
has-or a b i =
    ap (λ x. eqb x 1) (bit_at_or a b i) ∙ below_two (λ x. eqb (max x (bit_at b i)) 1 ≡ (eqb x 1 || eqb (bit_at b i) 1))
    (below_two (λ y. eqb (max 0 y) 1 ≡ (eqb 0 1 || eqb y 1)) refl refl (bit_at b i) (bit_at-lt b i))
    (below_two (λ y. eqb (max 1 y) 1 ≡ (eqb 1 1 || eqb y 1)) refl refl (bit_at b i) (bit_at-lt b i)) (bit_at a i) (bit_at-lt a i)

pub has-and : (a b i : ℕ) → has (bit_and a b) i ≡ (has a i && has b i)
has-and a b i =
    ap (λ x. eqb x 1) (bit_at_and a b i) ∙ below_two (λ x. eqb (min x (bit_at b i)) 1 ≡ (eqb x 1 && eqb (bit_at b i) 1))
    (below_two (λ y. eqb (min 0 y) 1 ≡ (eqb 0 1 && eqb y 1)) refl refl (bit_at b i) (bit_at-lt b i))
    (below_two (λ y. eqb (min 1 y) 1 ≡ (eqb 1 1 && eqb y 1)) refl refl (bit_at b i) (bit_at-lt b i)) (bit_at a i) (bit_at-lt a i)

pub has-zero : (i : ℕ) → has 0 i ≡ false
has-zero i = ap (λ x. eqb x 1) (bit_at-zero i)

-- ---- a bitmap shifted up

pub has-shifted_low : (m k i : ℕ) → i < k → has (m * 2 ^ k) i ≡ false
has-shifted_low m k i l =
    has-from _ i 0 (ap (λ y. bit_at y i) (sym (add-zero (m * 2 ^ k))) ∙ bit_at_cat_low m k 0 i l ∙ bit_at-zero i)

pub has-shifted : (m k i : ℕ) → k ≤ i → has (m * 2 ^ k) i ≡ has m (i - k)
has-shifted m k i l =
    ap (λ x. eqb x 1) (ap (λ y. bit_at y i) (sym (add-zero (m * 2 ^ k))) ∙ bit_at_cat_high m k 0 i (pow_pos k) l)

pub has-above : (m w i : ℕ) → m < 2 ^ w → w ≤ i → has m i ≡ false
has-above m w i small l = has-from m i 0 (bit_at_above m w i small l)
