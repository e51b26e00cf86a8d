-- The value bit of a string, and the string of a value bit: for the windows that the code reads.
use Rattle.prefix_trie_bits.proofs.Prelude.{◌≡◌, ℕ, suc, ◌+◌, ◌-◌, ◌*◌, ◌/◌, ◌%◌, ◌^◌, ◌<◌, ◌≤◌, Bool, List, ◌++◌, length, take, sym, ap, ap₂, ◌∙◌, subst, arith, inl, inr, pow_pos, pow-suc, min, mod-eq_of_lt, leading_zeros, w32, leading_top, pow_below, one_shl, cases_lt, cases_eq, take_all, take-take, number, digits, begins, zeros, same-from-number, number-lt, number-digits, length-digits, digits-number, bits-number, number-below, same_bool, begins-take, begins-from-take, begins-trans, take-begins, window-inside, window-of-front, value_bit}
use Rattle.std.proofs.lemmas.List.{length-take-le, length-append}
use Rattle.std.proofs.lemmas.Nat.{shr_below}
use Rattle.std.proofs.Math.Nat.{mul-add-div_right}
use Rattle.std.proofs.Common.{pow-add}
use Rattle.prefix_trie_bits.specs.BitStrings.{take-digits}

pub pow-le : (a b : ℕ) → a ≤ b → 2 ^ a ≤ 2 ^ b
pow-le a b l = elim (cases_eq a b) [
  | inl e ↦ let p : 2 ^ a ≡ 2 ^ b = ap (λ x. 2 ^ x) e in omega arith
  | inr ne ↦ omega (arith, pow_below a b (omega arith))
]

-- a string's value bit is one less than the number that is a 1 followed by its bits
pub value_bit-suc : (s : List Bool) → value_bit s + 1 ≡ 2 ^ length s + number s
value_bit-suc s = let p = pow_pos (length s) in omega arith

pub value_bit-high : (s : List Bool) → value_bit s + 1 < 2 ^ suc (length s)
value_bit-high s =
    let p : 2 ^ suc (length s) ≡ 2 ^ length s * 2 = pow-suc 2 (length s) in
    omega (arith, p, number-lt s, value_bit-suc s)

pub value_bit-low : (s : List Bool) → 2 ^ length s ≤ value_bit s + 1
value_bit-low s = omega (arith, value_bit-suc s)

pub value_bit-small : (s : List Bool) → length s ≤ 4 → value_bit s < 31
value_bit-small s l =
    let p : 2 ^ suc (length s) ≤ 32 = pow-le (suc (length s)) 5 (omega arith) in omega (arith, p, value_bit-high s)

-- a longer string has a higher bit
pub value_bit-longer : (s t : List Bool) → length s < length t → value_bit s < value_bit t
value_bit-longer s t l =
    omega (arith, value_bit-high s, value_bit-low t, pow-le (suc (length s)) (length t) (omega arith))

-- the length of a number
pub power-unique : (x a b : ℕ) → 2 ^ a ≤ x → x < 2 ^ suc a → 2 ^ b ≤ x → x < 2 ^ suc b → a ≡ b
power-unique x a b la ha lb hb =
    elim (cases_lt a b) [
      | inl l ↦ absurd (omega (arith, pow-le (suc a) b (omega arith)))
      | inr g ↦ elim (cases_eq a b) [ inl e ↦ e | inr ne ↦ absurd (omega (arith, pow-le (suc b) a (omega arith))) ]
    ]

-- ---- the string of a value bit

pub top_length : (x : ℕ) → 0 < x → x < 4294967296 → (2 ^ (31 - leading_zeros w32 x) ≤ x) × (x < 2 ^ suc (31 - leading_zeros w32 x))
top_length x p h =
    let t = leading_top 32 x p h in
    let e : t.0 ≡ 31 - leading_zeros w32 x = omega (arith, t.1) in
    (subst (λ n. 2 ^ n ≤ x) e t.2, subst (λ n. x < 2 ^ suc n) e t.3)

module _ (b n : ℕ) (small : b < 31) (above : 2 ^ n ≤ b + 1) (below : b + 1 < 2 ^ suc n) where
  pub length-short : n ≤ 4
  length-short =
      elim (cases_lt n 5) [ inl l ↦ omega arith | inr g ↦ let p : 32 ≤ 2 ^ n = pow-le 5 n g in absurd (omega arith) ]

  one-shifted : 1 * 2 ^ n % 4294967296 ≡ 2 ^ n
  one-shifted = one_shl n 32 (let h = length-short in omega arith)

  pub rest-sub : 1 * 2 ^ n % 4294967296 ≤ b + 1
  rest-sub = subst (λ x. x ≤ b + 1) (sym one-shifted) above

  pub rest-fits : b + 1 - 1 * 2 ^ n % 4294967296 < 2 ^ n
  rest-fits =
      let p : 2 ^ suc n ≡ 2 ^ n * 2 = pow-suc 2 n in
      subst (λ x. b + 1 - x < 2 ^ n) (sym one-shifted) (omega arith)

  pub string-bit : value_bit (digits n (b + 1 - 1 * 2 ^ n % 4294967296)) ≡ b
  string-bit =
      let r = b + 1 - 1 * 2 ^ n % 4294967296 in
      let e : r + 2 ^ n ≡ b + 1 = sum (1 * 2 ^ n % 4294967296) one-shifted in
      let k : number (digits n r) ≡ r = number-digits n r ∙ mod-eq_of_lt rest-fits in
      ap (λ l. 2 ^ l - 1 + number (digits n r)) (length-digits n r) ∙
      ap (λ x. 2 ^ n - 1 + x) k ∙ back (2 ^ n) r e (pow_pos n)
    where
      sum : (x : ℕ) → x ≡ 2 ^ n → b + 1 - x + 2 ^ n ≡ b + 1
      sum x e = omega arith

      back : (p r : ℕ) → r + p ≡ b + 1 → 0 < p → p - 1 + r ≡ b
      back p r e l = omega arith

  pub string-only : (s : List Bool) → value_bit s ≡ b → s ≡ digits n (b + 1 - 1 * 2 ^ n % 4294967296)
  string-only s e =
      let l : length s ≡ n =
      power-unique (b + 1) (length s) n (subst (λ x. 2 ^ length s ≤ x + 1) e (value_bit-low s)) (subst (λ x. x + 1 < 2 ^ suc (length s)) e (value_bit-high s)) above below in
      let k : number s ≡ b + 1 - 1 * 2 ^ n % 4294967296 =
      less (1 * 2 ^ n % 4294967296) (2 ^ length s) (number s) (one-shifted ∙ ap (λ x. 2 ^ x) (sym l)) (sym (value_bit-suc s) ∙ ap (λ x. x + 1) e) in
      sym (digits-number s) ∙ ap₂ digits l k
    where
      less : (x p m : ℕ) → x ≡ p → p + m ≡ b + 1 → m ≡ b + 1 - x
      less x p m e f = omega arith

-- ---- the windows that the code reads

-- the first bits of a key, with zeros after it, are those of a beginning that has them
front-is : (b z : List Bool) (len n : ℕ) → n ≤ len → len ≤ length b → take n (b ++ z) ≡ take n (take len b)
front-is b z len n h l = window-inside b z 0 n (omega (arith, h, l)) ∙ sym (window-of-front b len 0 n (omega (arith, h)))

length-front : (b : List Bool) (n : ℕ) → n ≤ 5 → length (take n (b ++ zeros 5)) ≡ n
length-front b n h = length-take-le n (b ++ zeros 5) (omega (arith, h, length-append b (zeros 5)))

pub front-small : (b : List Bool) (n x : ℕ) → n ≤ 5 → x ≡ number (take n (b ++ zeros 5)) → x < 2 ^ n
front-small b n x h e = subst (λ y. y < 2 ^ n) (sym e) (number-below n (take n (b ++ zeros 5)) (length-front b n h))

-- the string of a level and four bits
pub level-string : (b : List Bool) (len level pos : ℕ) → len ≤ length b → level ≡ min len 4 → pos ≡ number (take 4 (b ++ zeros 5)) → take level (digits 4 pos) ≡ take 4 (take len b)
level-string b len level pos l level-is pos-is =
    ap (λ s. take level s) (ap (digits 4) pos-is ∙ bits-number 4 (take 4 (b ++ zeros 5)) (length-front b 4 (omega arith))) ∙
    take-take level 4 (b ++ zeros 5) (omega arith) ∙
    front-is b (zeros 5) len level (omega arith) l ∙
    elim (cases_lt len 4) [
      | inl short ↦
          let n : length (take len b) ≡ len = length-take-le len b l in
          take_all level (take len b) (omega arith) ∙ sym (take_all 4 (take len b) (omega arith))
      | inr long ↦ let e : level ≡ 4 = omega arith in ap (λ m. take m (take len b)) e
    ]

-- what the first four bits decide
pub begins-four : (s t : List Bool) → length s ≤ 4 → begins s (take 4 t) ≡ begins s t
begins-four s t l =
    same_bool _ _
    (λ e. begins-trans s (take 4 t) t e (take-begins 4 t))
    (λ e. begins-from-take s (take 4 t) (length s) (take-take (length s) 4 t l ∙ begins-take s t e))

-- ---- what the code computes of a value bit

-- the first five bits, with zeros after the last, as one number
module _ (b : List Bool) (x : ℕ) (read : x ≡ number (take 5 (b ++ zeros 5))) where
  -- its upper n bits are the first n bits of the string
  upper : (n : ℕ) → n ≤ 5 → x / 2 ^ (5 - n) ≡ number (take n (b ++ zeros 5))
  upper n few =
      let all : 5 ≡ n + (5 - n) = omega (arith, few) in
      sym (mod-eq_of_lt (shr_below x n (5 - n) (subst (λ k. x < 2 ^ k) all (front-small b 5 x (omega arith) read))))
      ∙ sym (number-digits n (x / 2 ^ (5 - n))) ∙ ap number (sym (take-digits n 5 x few))
      ∙ ap (λ s. number (take n s)) (ap (digits 5) read ∙ bits-number 5 (take 5 (b ++ zeros 5)) (length-front b 5 (omega arith)))
      ∙ ap number (take-take n 5 (b ++ zeros 5) few)

  -- a 1 followed by the bits of the string, as the code computes it, is the value bit plus one
  pub value_bit_from_five : (len : ℕ) → len < 5 → len ≤ length b → (32 + x) / 2 ^ (5 - len) ≡ value_bit (take len b) + 1
  value_bit_from_five len short l =
      let few : len ≤ 5 = omega (arith, short) in
      let all : 5 ≡ len + (5 - len) = omega (arith, few) in
      ap (λ k. (k + x) / 2 ^ (5 - len)) (ap (λ k. 2 ^ k) all ∙ pow-add 2 len (5 - len))
      ∙ mul-add-div_right (pow_pos (5 - len)) (2 ^ len) x
      ∙ ap₂ (λ k m. 2 ^ k + m) (sym (length-take-le len b l)) (upper len few ∙ ap number (front-is b (zeros 5) len len (omega arith) l ∙ take-take len len b (omega arith)))
      ∙ sym (value_bit-suc (take len b))

  -- the child bit of a string of five bits or more
  pub child_bit_from_five : (len : ℕ) → 5 ≤ len → len ≤ length b → x ≡ number (take 5 (take len b))
  child_bit_from_five len more l = read ∙ ap number (front-is b (zeros 5) len 5 more l)

-- ---- one bit more

-- strings with the same value bit are equal
pub value_bit-injective : (s t : List Bool) → value_bit s ≡ value_bit t → s ≡ t
value_bit-injective s t e =
    let l : length s ≡ length t =
    power-unique (value_bit t + 1) (length s) (length t) (subst (λ x. 2 ^ length s ≤ x + 1) e (value_bit-low s)) (subst (λ x. x + 1 < 2 ^ suc (length s)) e (value_bit-high s)) (value_bit-low t) (value_bit-high t) in
    let p : 2 ^ length s ≡ 2 ^ length t = ap (λ n. 2 ^ n) l in
    same-from-number s t l (omega (arith, value_bit-suc s, value_bit-suc t))
