-- The bytes of an address are those of its number, filled up with zeros.
use Rattle.std.proofs.Common.{◌≡◌, ◌∙◌, ℕ, suc, ◌+◌, ◌-◌, ◌*◌, ◌/◌, ◌%◌, ◌^◌, ◌<◌, ◌≤◌, Bool, false, List, [], ◌∷◌, ◌++◌, length, take, drop, append_assoc, mul_assoc, refl, zero, sym, ap, subst, arith, inl, inr, length-append, pow-add}
use Rattle.std.proofs.lemmas.Bool.{cases_lt}
use Rattle.std.proofs.lemmas.List.{drop-append-le, drop-drop, length-drop, length-replicate, length-take-le, replicate-append-replicate, take-append-le}
use Rattle.std.proofs.Math.Nat.{mod-eq_of_lt}
use Rattle.std.proofs.lemmas.Nat.{shr_below, shr_high}
use Rattle.std.proofs.Math.Seq.{drop-append-add, take-add}
use Rattle.prefix_trie_bits.specs.Model.Bits.{bit, digits, number, zeros}
use Rattle.prefix_trie_bits.specs.BitStrings.{digits-number, drop-digits, number-digits, number-lt, take-digits}
use Rattle.prefix_trie_bits.specs.Windows.{length-filled}
use Rattle.prefix_trie_forwarding.specs.Keys.{first_of}
use Rattle.prefix_trie_forwarding.specs.Walks.{IsAddress, upper}

-- as many zeros as are read
padded : (d : List Bool) (n m j : ℕ) → n ≤ m → j ≤ length d + n → take j (d ++ zeros m) ≡ take j (d ++ zeros n)
padded d n m j few enough =
    ap (λ z. take j (d ++ z)) (ap zeros (let e : m ≡ n + (m - n) = omega arith in e) ∙ sym (replicate-append-replicate n (m - n) _)) ∙
    ap (take j) (sym (append_assoc d (zeros n) (zeros (m - n)))) ∙
    take-append-le j (d ++ zeros n) (zeros (m - n)) (omega (arith, length-append d (zeros n), length-replicate n false, enough))

pub any_zeros : (d : List Bool) (n m j : ℕ) → j ≤ length d + n → j ≤ length d + m → take j (d ++ zeros n) ≡ take j (d ++ zeros m)
any_zeros d n m j enough more = elim (cases_lt n m) [
  | inl l ↦ sym (padded d n m j (omega (arith, l)) enough)
  | inr g ↦ padded d m n j g more
]

module _ (b : List Bool) (w : ℕ) (fits : length b ≤ w) where
  -- the digits of the first number are the bits and then zeros
  pub digits_first : digits w (first_of w b) ≡ b ++ zeros (w - length b)
  digits_first =
      ap (λ n. digits n (first_of w b)) (sym (length-filled w b fits)) ∙ digits-number (b ++ zeros (w - length b))

  pub first_below : first_of w b < 2 ^ w
  first_below = subst (λ n. first_of w b < 2 ^ n) (length-filled w b fits) (number-lt (b ++ zeros (w - length b)))

  -- the first bits
  pub first_bits : (r k : ℕ) → r ≤ length b → w ≡ r + 8 * k → number (take r b) ≡ upper k (first_of w b)
  unfolding upper
  first_bits r k within size =
      let rest : w - r ≡ 8 * k = omega (arith, size) in
      ap number (sym (take-append-le r b (zeros (w - length b)) within)) ∙
      ap (λ s. number (take r s)) (sym digits_first) ∙
      ap number (take-digits r w (first_of w b) (omega (arith, size))) ∙
      number-digits r (first_of w b / 2 ^ (w - r)) ∙
      mod-eq_of_lt (shr_below (first_of w b) r (w - r) (subst (λ n. first_of w b < 2 ^ n) (let e : w ≡ r + (w - r) = omega (arith, size) in e) first_below)) ∙
      ap (λ n. first_of w b / 2 ^ n) rest

  -- eight bits
  pub byte_bits : (depth k : ℕ) → depth ≤ length b → w ≡ depth + 8 * suc k → number (take 8 (drop depth b ++ zeros 8)) ≡ upper k (first_of w b) % 256
  unfolding upper
  byte_bits depth k within size =
      ap number (any_zeros (drop depth b) 8 (w - length b) 8 (omega arith) (omega (arith, size, within, long))) ∙
      ap (λ s. number (take 8 s)) (sym (drop-append-le depth b (zeros (w - length b)) within)) ∙
      ap (λ s. number (take 8 (drop depth s))) (sym digits_first) ∙
      ap (λ s. number (take 8 s)) (drop-digits depth w (first_of w b) (omega (arith, size))) ∙
      ap number (take-digits 8 (w - depth) (first_of w b) (omega (arith, size))) ∙
      number-digits 8 (first_of w b / 2 ^ (w - depth - 8)) ∙
      ap (λ n. first_of w b / 2 ^ n % 256) (let e : w - depth - 8 ≡ 8 * k = omega (arith, size) in e)
    where
      long : length (drop depth b) + depth ≡ length b
      long = (let l = length-drop depth b in omega (arith, l, within))

-- the first number is an address
pub first_address : (b : List Bool) (r levels : ℕ) → length b ≤ r + 8 * levels → IsAddress (2 ^ r) levels (first_of (r + 8 * levels) b)
unfolding upper
first_address b r levels fits = shr_below (first_of (r + 8 * levels) b) r (8 * levels) (first_below b (r + 8 * levels) fits)

-- the number of a string in two parts
pub number_parts : (s t : List Bool) → number (s ++ t) ≡ number s * 2 ^ length t + number t
unfolding number
number_parts [] t = omega arith
number_parts (b ∷ s) t =
    let size = length-append s t in
    let e : 2 ^ length (s ++ t) ≡ 2 ^ length s * 2 ^ length t = ap (λ n. 2 ^ n) size ∙ pow-add 2 (length s) (length t) in
    let rest = number_parts s t in
    let first : bit b * 2 ^ length (s ++ t) ≡ bit b * 2 ^ length s * 2 ^ length t = ap (λ n. bit b * n) e ∙ sym (mul_assoc (bit b) (2 ^ length s) (2 ^ length t)) in
    omega (arith, first, rest)

pub number_joined : (s : List Bool) (d n : ℕ) → d + n ≤ length s → number (take d s) * 2 ^ n + number (take n (drop d s)) ≡ number (take (d + n) s)
number_joined s d n within =
    let long : length (take n (drop d s)) ≡ n = length-take-le n (drop d s) (let l = length-drop d s in omega (arith, l, within)) in
    sym (ap number (take-add d n s) ∙ number_parts (take d s) (take n (drop d s)) ∙ ap (λ k. number (take d s) * 2 ^ k + number (take n (drop d s))) long)

pub number_small : (s : List Bool) (n : ℕ) → n ≤ length s → number (take n s) < 2 ^ n
number_small s n within = subst (λ k. number (take n s) < 2 ^ k) (length-take-le n s within) (number-lt (take n s))

-- the first k of 24 bits
pub first_of_24 : (b : List Bool) (k top : ℕ) → k ≤ 24 → k ≤ length b → top ≡ number (take 24 (b ++ zeros 24)) → top / 2 ^ (24 - k) ≡ number (take k b)
first_of_24 b k top few within is =
    let s : List Bool = b ++ zeros 24 in
    let long : length (b ++ zeros 24) ≡ length b + 24 = length-append b (zeros 24) ∙ ap (λ n. length b + n) (length-replicate 24 false) in
    let size : k + (24 - k) ≡ 24 = omega (arith, few) in
    let joined = number_joined (b ++ zeros 24) k (24 - k) (omega (arith, size, long)) in
    let small = number_small (drop k (b ++ zeros 24)) (24 - k) (let l = length-drop k (b ++ zeros 24) in omega (arith, l, long, size)) in
    ap (λ n. n / 2 ^ (24 - k)) (is ∙ ap (λ n. number (take n (b ++ zeros 24))) (sym size) ∙ sym joined) ∙
    shr_high (number (take k (b ++ zeros 24))) (24 - k) (number (take (24 - k) (drop k (b ++ zeros 24)))) small ∙
    ap number (take-append-le k b (zeros 24) within)

-- bits past the end are zeros
pub zeros_taken : (n m : ℕ) → number (take n (zeros m)) ≡ 0
unfolding number
zeros_taken zero m = refl
zeros_taken (suc n) zero = refl
zeros_taken (suc n) (suc m) = let e = zeros_taken n m in omega (arith, e)

zeros_dropped : (k m : ℕ) → drop k (zeros m) ≡ zeros (m - k)
zeros_dropped zero m = ap zeros (let e : m ≡ m - 0 = omega arith in e)
zeros_dropped (suc k) zero = ap zeros (let e : 0 ≡ 0 - suc k = omega arith in e)
zeros_dropped (suc k) (suc m) = zeros_dropped k m ∙ ap zeros (let e : m - k ≡ suc m - suc k = omega arith in e)

pub past_end : (b : List Bool) (d n m : ℕ) → length b ≤ d → number (take n (drop d (b ++ zeros m))) ≡ 0
past_end b d n m past =
    ap (λ k. number (take n (drop k (b ++ zeros m)))) (let e : d ≡ length b + (d - length b) = omega (arith, past) in e) ∙
    ap (λ s. number (take n s)) (drop-append-add b (zeros m) (d - length b) ∙ zeros_dropped (d - length b) m) ∙
    zeros_taken n (m - (d - length b))

-- eight bits of an address and of zeros after it
pub byte_after : (b : List Bool) (d m n : ℕ) → d ≤ length b → 8 ≤ m → n ≤ 8 → take n (drop d (b ++ zeros m)) ≡ take n (drop d b ++ zeros 8)
byte_after b d m n within enough few = ap (take n) (drop-append-le d b (zeros m) within) ∙ any_zeros (drop d b) m 8 n (omega (arith, enough, few)) (omega (arith, few))

-- a byte by its two halves
pub halves : (r : List Bool) (x y : ℕ) → x ≡ number (take 4 (drop 0 (r ++ zeros 5))) → y ≡ number (take 4 (drop 4 (r ++ zeros 8))) → x * 16 + y ≡ number (take 8 (r ++ zeros 8))
halves r x y first second =
    let upper : number (take 4 (r ++ zeros 5)) ≡ number (take 4 (r ++ zeros 8)) = ap number (any_zeros r 5 8 4 (omega arith) (omega arith)) in
    let joined = number_joined (r ++ zeros 8) 4 4 (let l = length-append r (zeros 8) in omega (arith, l, length-replicate 8 false)) in
    omega (arith, first, second, upper, joined)

-- the byte after the first d bits, and what is after it
pub rest_byte : (b r : List Bool) (d : ℕ) → r ≡ drop d b ++ zeros d → number (take 8 (r ++ zeros 8)) ≡ number (take 8 (drop d b ++ zeros 8))
rest_byte b r d is =
    ap (λ r. number (take 8 (r ++ zeros 8))) is ∙ ap (λ s. number (take 8 s)) (append_assoc (drop d b) (zeros d) (zeros 8) ∙ ap (λ z. drop d b ++ z) (replicate-append-replicate d 8 false)) ∙
    ap number (any_zeros (drop d b) (d + 8) 8 8 (omega arith) (omega arith))

pub rest_after : (b r : List Bool) (d : ℕ) → d + 8 ≤ length b → r ≡ drop d b ++ zeros d → drop 8 r ++ zeros 8 ≡ drop (d + 8) b ++ zeros (d + 8)
rest_after b r d within is =
    ap (λ s. drop 8 s ++ zeros 8) is ∙
    ap (λ s. s ++ zeros 8) (drop-append-le 8 (drop d b) (zeros d) (let l = length-drop d b in omega (arith, l, within)) ∙ ap (λ s. s ++ zeros d) (drop-drop 8 d b)) ∙
    append_assoc (drop (d + 8) b) (zeros d) (zeros 8) ∙ ap (λ z. drop (d + 8) b ++ z) (replicate-append-replicate d 8 false)

pub lower_half : (r : List Bool) → 4 ≤ length r → number (take 4 (drop 4 (r ++ zeros 5))) ≡ number (take 4 (drop 4 (r ++ zeros 8)))
lower_half r within =
    ap (λ s. number (take 4 s)) (drop-append-le 4 r (zeros 5) within) ∙ ap number (any_zeros (drop 4 r) 5 8 4 (omega arith) (omega arith)) ∙
    ap (λ s. number (take 4 s)) (sym (drop-append-le 4 r (zeros 8) within))
