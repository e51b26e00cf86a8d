-- The rank of a bit, which is the number of set bits below it: for `rank` and the lists of a node.
use Rattle.prefix_trie_bits.proofs.Prelude.{◌≡◌, ℕ, zero, suc, ◌+◌, ◌-◌, ◌*◌, ◌/◌, ◌%◌, ◌^◌, ◌<◌, ◌≤◌, true, false, cond, eqb, refl, sym, ap, ap₂, ◌∙◌, subst, arith, inl, inr, one-add, pow_pos, eqb-true, bit_and, mod-eq_of_lt, bit_or, bit_at, bit_not, w32, count_ones, ones_cat, ones_le_self, zero_from_ones, and_le_l, mod-pow-add, mod_below, one_shl, or_lt, pow_below, bit_at-lt, bit_at-suc, bit_at_set_same, bit_at_set_other, bit_at_clear_same, bit_at_clear_other, bit_at_above, cases_lt, has, Sets, length, length-append, lt-ltb, Bool}
use Rattle.prefix_trie_bits.specs.Bitmaps.{bits_below, if_set}
unfoldable use Rattle.prefix_trie_bits.specs.Bitmaps.{has_bit, rank}
use Rattle.std.proofs.Common.{add-mul, mul_assoc}
use Rattle.std.proofs.Math.Pow.{pow-add, shl_lt, split}
use Rattle.std.proofs.lemmas.Nat.{mod-mul-add, mul-mod_first}

pub bit-set : (m k : ℕ) → has m k ≡ true → bit_at m k ≡ 1
bit-set m k h = eqb-true (bit_at m k) 1 h

-- a bit is 0 or 1, so what holds of both holds of it
pub below_two : (P : ℕ → Type 0) → P 0 → P 1 → (x : ℕ) → x < 2 → P x
below_two P a b zero l = a
below_two P a b (suc zero) l = b
below_two P a b (suc (suc x)) l = absurd (omega arith)

pub bit-clear : (m k : ℕ) → has m k ≡ false → bit_at m k ≡ 0
bit-clear m k = below_two (λ x. eqb x 1 ≡ false → x ≡ 0) (λ _. refl) (λ e. cc) (bit_at m k) (bit_at-lt m k)

pub has-from : (m k x : ℕ) → bit_at m k ≡ x → has m k ≡ eqb x 1
has-from m k x e = ap (λ y. eqb y 1) e

pub bit-of : (m k : ℕ) → cond (has m k) 1 0 ≡ bit_at m k
bit-of m k = below_two (λ x. cond (eqb x 1) 1 0 ≡ x) refl refl (bit_at m k) (bit_at-lt m k)

pub low : (m b : ℕ) → m % 2 ^ b < 2 ^ b
low m b = mod_below m (2 ^ b) (pow_pos b)

pub mod-suc : (m b : ℕ) → m % 2 ^ suc b ≡ bit_at m b * 2 ^ b + m % 2 ^ b
mod-suc m b = ap (λ k. m % 2 ^ k) (sym (one-add b)) ∙ mod-pow-add m 1 b

ones-bit : (x : ℕ) → x < 2 → count_ones x ≡ x
ones-bit zero l = let h : count_ones 0 ≤ 0 = ones_le_self 0 in omega arith
ones-bit (suc zero) l =
    let h : count_ones 1 ≤ 1 = ones_le_self 1 in
    let z = zero_from_ones 1 in
    some (count_ones 1) h (λ e. absurd (omega (arith, z e)))
  where
    some : (x : ℕ) → x ≤ 1 → (x ≡ 0 → ⊥) → x ≡ 1
    some zero l f = absurd (f refl)
    some (suc zero) l f = refl
    some (suc (suc x)) l f = absurd (omega arith)
ones-bit (suc (suc x)) l = absurd (omega arith)

pub ones-mod-suc : (m b : ℕ) → count_ones (m % 2 ^ suc b) ≡ bit_at m b + count_ones (m % 2 ^ b)
ones-mod-suc m b =
    ap count_ones (mod-suc m b) ∙ ones_cat b (bit_at m b) (m % 2 ^ b) (low m b) ∙ ap (λ x. x + count_ones (m % 2 ^ b)) (ones-bit (bit_at m b) (bit_at-lt m b))

-- for a bit below 32, `has_bit` is the bit of the bitmap
pub has_bit-is : (n b : ℕ) → b < 32 → has_bit n b ≡ has n b
unfolding has_bit
has_bit-is n b h = ap (λ t. cond t (has n b) false) (lt-ltb b 32 h)

pub if_set-length : (s : Bool) (b : ℕ) → length (if_set s b) ≡ cond s 1 0
if_set-length true b = refl
if_set-length false b = refl

-- the rank of bit b is the number of ones among the b lowest bits
rank-ones : (m b : ℕ) → b ≤ 32 → rank m b ≡ count_ones (m % 2 ^ b)
unfolding rank
rank-ones m zero h =
    let l : m % 2 ^ 0 < 1 = low m 0 in
    let e : m % 2 ^ 0 ≡ 0 = omega arith in
    sym (ap count_ones e ∙ ones-bit 0 (omega arith))
rank-ones m (suc b) h =
    length-append (bits_below m b) (if_set (has_bit m b) b)
    ∙ ap₂ (λ x y. x + y) (rank-ones m b (omega arith)) (if_set-length (has_bit m b) b ∙ ap (λ s. cond s 1 0) (has_bit-is m b (omega arith)) ∙ bit-of m b)
    ∙ omega (arith, ones-mod-suc m b)

-- a number that is shifted to the top of a word of 32 bits keeps its lowest bits alone
top_bits : (m b c : ℕ) → b + c ≡ 32 → m * 2 ^ c % 4294967296 ≡ m % 2 ^ b * 2 ^ c
top_bits m b c e =
    let word : 2 ^ b * 2 ^ c ≡ 4294967296 = sym (pow-add 2 b c) ∙ ap (λ k. 2 ^ k) e in
    let whole : m * 2 ^ c ≡ m / 2 ^ b * 4294967296 + m % 2 ^ b * 2 ^ c =
    ap (λ x. x * 2 ^ c) (sym (split m b)) ∙ add-mul (m / 2 ^ b * 2 ^ b) (m % 2 ^ b) (2 ^ c)
    ∙ ap (λ x. x + m % 2 ^ b * 2 ^ c) (mul_assoc (m / 2 ^ b) (2 ^ b) (2 ^ c) ∙ ap (λ w. m / 2 ^ b * w) word) in
    ap (λ x. x % 4294967296) whole ∙ mod-mul-add (m / 2 ^ b) 4294967296 (m % 2 ^ b * 2 ^ c) (subst (λ k. m % 2 ^ b * 2 ^ c < 2 ^ k) e (shl_lt b c (low m b)))

-- `(m << 1 << (31 - b)).count_ones()` is the rank of bit b
pub rank_is : (m b : ℕ) → b < 32 → count_ones (m * 2 % 4294967296 * 2 ^ (31 - b) % 4294967296) ≡ rank m b
rank_is m b l =
    let shift : 2 * 2 ^ (31 - b) ≡ 2 ^ (32 - b) = sym (pow-add 2 1 (31 - b)) ∙ ap (λ k. 2 ^ k) (omega (arith, l)) in
    let none : count_ones 0 ≡ 0 = ones-bit 0 (omega arith) in
    ap count_ones (mul-mod_first (m * 2) (2 ^ (31 - b)) 4294967296 ∙ ap (λ x. x % 4294967296) (mul_assoc m 2 (2 ^ (31 - b)) ∙ ap (λ x. m * x) shift)
    ∙ top_bits m b (32 - b) (omega (arith, l)) ∙ omega arith)
    ∙ ones_cat (32 - b) (m % 2 ^ b) 0 (pow_pos (32 - b)) ∙ omega (arith, none) ∙ sym (rank-ones m b (omega (arith, l)))

-- ---- the lowest bit

pub has-low : (m : ℕ) → has m 0 ≡ eqb (m % 2) 1
has-low m = ap (λ x. eqb (x % 2) 1) (let e : m / 2 ^ 0 ≡ m = omega arith in e)

pub has-suc : (m b : ℕ) → has m (suc b) ≡ has (m / 2) b
has-suc m b = ap (λ x. eqb x 1) (bit_at-suc m b)

-- ---- a bit set or cleared

pub count_ones_all : (m : ℕ) → m < 2 ^ 32 → rank m 32 ≡ count_ones m
count_ones_all m small = rank-ones m 32 (omega arith) ∙ ap count_ones (mod-eq_of_lt small)

-- `m | 1 << k` sets a bit that was clear
pub set_bit_sets : (m k : ℕ) → k < 32 → has m k ≡ false → Sets m k (bit_or m (1 * 2 ^ k % 4294967296))
set_bit_sets m k l h = record {
  clear = h;
  present = has-from _ k 1 (bit_at_set_same w32 m k l);
  others = λ d ne. ap (λ x. eqb x 1) (bit_at_set_other w32 m k l d ne);
}

-- `m & !(1 << k)` clears a bit that was set
pub clear_bit_sets : (m k : ℕ) → k < 32 → m < 2 ^ 32 → has m k ≡ true → Sets (bit_and m (bit_not w32 (1 * 2 ^ k % 4294967296))) k m
clear_bit_sets m k l small h = record {
  clear = has-from _ k 0 (bit_at_clear_same w32 m k l);
  present = h;
  others = λ d ne. elim (cases_lt d 32) [
    | inl below ↦ ap (λ x. eqb x 1) (sym (bit_at_clear_other w32 m k l d below ne))
    | inr above ↦ ap (λ x. eqb x 1) (bit_at_above m 32 d small above ∙ sym (bit_at_above _ 32 d (omega (arith, and_le_l m (bit_not w32 (1 * 2 ^ k % 4294967296)))) above))
  ];
}

pub set_bit_small : (m k : ℕ) → m < 2 ^ 31 → k < 31 → bit_or m (1 * 2 ^ k % 4294967296) < 2 ^ 31
set_bit_small m k small l =
    or_lt 31 m _ small (subst (λ x. x < 2 ^ 31) (sym (one_shl k 32 (omega arith))) (pow_below k 31 l))

pub clear_bit_small : (m k : ℕ) → m < 2 ^ 31 → bit_and m (bit_not w32 (1 * 2 ^ k % 4294967296)) < 2 ^ 31
clear_bit_small m k small =
    omega (arith, and_le_l m (bit_not w32 (1 * 2 ^ k % 4294967296)))
