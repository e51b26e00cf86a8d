-- The longest and the shortest string in a bitmap that begins a given string: for `longest_match` and
-- `shortest_match`.
use Rattle.prefix_trie_bits.proofs.Prelude.{◌≡◌, ℕ, suc, ◌+◌, ◌-◌, ◌*◌, ◌/◌, ◌%◌, ◌^◌, ◌<◌, ◌≤◌, Bool, true, ◌&&◌, List, length, take, sym, ap, ap₂, ◌∙◌, subst, arith, bit_and, pow_pos, pow-suc, inl, inr, bit_at, leading_zeros, trailing_zeros, w32, le-div, div_below, and_le_l, bit_at-zero, bit_at_above, bit_at-trailing_zeros, cases_lt, digits, begins, length-digits, begins-take, begins-length, take-begins, has, value_bit, has_first, HoldsValues, NoneBegins, IsLongest, IsShortest}
use Rattle.std.proofs.lemmas.List.{length-take-le}
use Rattle.std.proofs.lemmas.Bool.{false_from_ne_true as not-true}
use Rattle.prefix_trie_bits.proofs.Checks.{both}
use Rattle.prefix_trie_bits.proofs.Ranks.{bit-set, has-from}
use Rattle.prefix_trie_bits.proofs.Bitmaps.{has-and}
use Rattle.prefix_trie_bits.proofs.Strings.{top_length, length-short, string-bit, value_bit-longer}

none-of-zero : (x i : ℕ) → x ≡ 0 → has x i ≡ true → ⊥
none-of-zero x i e h =
    let k : bit_at x i ≡ 0 = ap (λ y. bit_at y i) e ∙ bit_at-zero i in omega (arith, bit-set x i h)

pub top-bit : (x j : ℕ) → 2 ^ j ≤ x → x < 2 ^ suc j → has x j ≡ true
top-bit x j l h =
    let up : x / 2 ^ j < 2 = div_below x (2 ^ j) 2 (pow_pos j) (double (2 ^ j) (2 ^ suc j) (pow-suc 2 j) h) in
    let down : 1 ≤ x / 2 ^ j = le-div 1 x (2 ^ j) (pow_pos j) (single (2 ^ j) l) in
    has-from x j 1 (one (x / 2 ^ j) down up)
  where
    double : (p q : ℕ) → q ≡ p * 2 → x < q → x < 2 * p
    double p q e k = omega arith

    single : (p : ℕ) → p ≤ x → 1 * p ≤ x
    single p k = omega arith

    one : (y : ℕ) → 1 ≤ y → y < 2 → y % 2 ≡ 1
    one y a b = omega arith

in-each : (a b i : ℕ) → has (bit_and a b) i ≡ true → (has a i ≡ true) × (has b i ≡ true)
in-each a b i h = both (has a i) (has b i) (sym (has-and a b i) ∙ h)

module _ (bitmap mask : ℕ) (rest : List Bool) (small : bitmap < 2 ^ 31) (holds : HoldsValues mask (λ s. begins s rest)) where
  in-both : (i : ℕ) → i ≤ 4 → i ≤ length rest → has_first bitmap rest i ≡ true → has (bit_and bitmap mask) (value_bit (take i rest)) ≡ true
  in-both i short within h =
      let n : length (take i rest) ≡ i = length-take-le i rest within in
      has-and bitmap mask (value_bit (take i rest)) ∙ ap₂ (λ x y. x && y) h (holds.bits (take i rest) (omega arith) ∙ take-begins i rest)

  pub none_begins : bit_and bitmap mask ≡ 0 → NoneBegins bitmap rest
  none_begins e i short within =
      not-true _ (λ h. none-of-zero (bit_and bitmap mask) (value_bit (take i rest)) e (in-both i short within h))

  bit-below : (b : ℕ) → has (bit_and bitmap mask) b ≡ true → b < 31
  bit-below b h = elim (cases_lt b 31) [
    | inl l ↦ l
    | inr g ↦ let z : bit_at bitmap b ≡ 0 = bit_at_above bitmap 31 b small g in
        absurd (omega (arith, bit-set bitmap b (in-each bitmap mask b h).0))
  ]

  -- a bit set in both the bitmap and the mask is the value bit of a beginning of `rest`
  found : (b : ℕ) → has (bit_and bitmap mask) b ≡ true → (n : ℕ) × (n ≤ 4) × (n ≤ length rest) × (b ≡ value_bit (take n rest)) × (has bitmap b ≡ true)
  found b h =
      let l = bit-below b h in
      let t = top_length (b + 1) (omega arith) (omega arith) in
      let n = 31 - leading_zeros w32 (b + 1) in
      let short = length-short b n l t.0 t.1 in
      let s = digits n (b + 1 - 1 * 2 ^ n % 4294967296) in
      let is : value_bit s ≡ b = string-bit b n l t.0 t.1 in
      let long : length s ≡ n = length-digits n (b + 1 - 1 * 2 ^ n % 4294967296) in
      let e : begins s rest ≡ true =
      sym (holds.bits s (subst (λ x. x ≤ 4) (sym long) short)) ∙ ap (λ x. has mask x) is ∙ (in-each bitmap mask b h).1 in
      let within : length s ≤ length rest = begins-length s rest e in
      (n, short, subst (λ x. x ≤ length rest) long within, sym is ∙ ap value_bit (sym (begins-take s rest e) ∙ ap (λ x. take x rest) long), (in-each bitmap mask b h).0)

  pub longest_is : (j : ℕ) → 2 ^ j ≤ bit_and bitmap mask → bit_and bitmap mask < 2 ^ suc j → IsLongest bitmap rest j
  longest_is j l h =
      let f = found j (top-bit (bit_and bitmap mask) j l h) in
      record {
        len = f.0;
        short = f.1;
        within = f.2;
        bit_is = f.3;
        set = f.4;
        none_longer = λ i above i-short i-within. not-true _ (λ st. over i above i-within (in-both i i-short i-within st));
      }
    where
      over : (i : ℕ) → (found j (top-bit (bit_and bitmap mask) j l h)).0 < i → i ≤ length rest → has (bit_and bitmap mask) (value_bit (take i rest)) ≡ true → ⊥
      over i above i-within st =
          let f = found j (top-bit (bit_and bitmap mask) j l h) in
          let a : length (take f.0 rest) ≡ f.0 = length-take-le f.0 rest f.2 in
          let b : length (take i rest) ≡ i = length-take-le i rest i-within in
          let longer : value_bit (take f.0 rest) < value_bit (take i rest) =
          value_bit-longer (take f.0 rest) (take i rest) (omega arith) in
          let up : suc j ≤ value_bit (take i rest) = omega (arith, f.3) in
          let z : bit_at (bit_and bitmap mask) (value_bit (take i rest)) ≡ 0 =
          bit_at_above (bit_and bitmap mask) (suc j) (value_bit (take i rest)) h up in
          omega (arith, z, bit-set _ _ st)

  pub shortest_is : (t : ℕ) → has (bit_and bitmap mask) t ≡ true → ((i : ℕ) → i < t → bit_at (bit_and bitmap mask) i ≡ 0) → IsShortest bitmap rest t
  shortest_is t h before =
      let f = found t h in
      record {
        len = f.0;
        short = f.1;
        within = f.2;
        bit_is = f.3;
        set = f.4;
        none_shorter = λ i below. not-true _ (λ st. under i below (in-both i (omega (arith, f.1)) (omega (arith, f.2)) st));
      }
    where
      under : (i : ℕ) → i < (found t h).0 → has (bit_and bitmap mask) (value_bit (take i rest)) ≡ true → ⊥
      under i below st =
          let f = found t h in
          let a : length (take f.0 rest) ≡ f.0 = length-take-le f.0 rest f.2 in
          let b : length (take i rest) ≡ i = length-take-le i rest (omega (arith, f.2)) in
          let shorter : value_bit (take i rest) < value_bit (take f.0 rest) =
          value_bit-longer (take i rest) (take f.0 rest) (omega arith) in
          let low : value_bit (take i rest) < t = omega (arith, f.3) in
          omega (arith, before (value_bit (take i rest)) low, bit-set _ _ st)

  pub longest_found : (bit_and bitmap mask ≡ 0 → ⊥) → IsLongest bitmap rest (31 - leading_zeros w32 (bit_and bitmap mask))
  longest_found ne =
      let t = top_length (bit_and bitmap mask) (omega arith) (omega (arith, and_le_l bitmap mask)) in
      longest_is (31 - leading_zeros w32 (bit_and bitmap mask)) t.0 t.1

  pub shortest_found : (bit_and bitmap mask ≡ 0 → ⊥) → IsShortest bitmap rest (trailing_zeros w32 (bit_and bitmap mask))
  shortest_found ne =
      let t = bit_at-trailing_zeros w32 (bit_and bitmap mask) (omega arith) (omega (arith, and_le_l bitmap mask)) in
      shortest_is (trailing_zeros w32 (bit_and bitmap mask)) (has-from _ _ 1 t.1) t.2
