-- The upper 64 bits of an address as a number, and the address that begins with these bits.
use Rattle.std.proofs.Common.{◌≡◌, ◌∙◌, ℕ, ◌+◌, ◌-◌, ◌*◌, ◌/◌, ◌^◌, ◌<◌, ◌≤◌, Bool, false, List, ◌++◌, length, take, drop, ap, ap₂, subst, sym, arith, length-append, take_all, take_at, take-add, length-take-le}
use Rattle.std.proofs.lemmas.List.{length-drop, length-replicate, take-append-le}
use Rattle.prefix_trie_bits.specs.BitStrings.{bits-number, length-digits, number-below, number_of_digits}
use Rattle.prefix_trie_bits.specs.Model.Bits.{digits, number, zeros}
use Rattle.prefix_trie_bits.specs.Windows.{length-window, window-inside}
use Rattle.prefix_trie_fib.proofs.Chunks.{number_shifted}
use Rattle.prefix_trie_fib.proofs.NetworkIntervals.{number_parts, number_zeros}

-- the number of the first bits, with a window appended
joined : (b : List Bool) (d n u x : ℕ) → d + n ≤ length b → u ≡ number (take d b) → x ≡ number (take n (drop d b)) → u * 2 ^ n + x ≡ number (take (d + n) b)
joined b d n u x inside upper window =
    let long : length (take n (drop d b)) ≡ n = length-take-le n (drop d b) (omega (arith, inside, length-drop d b)) in
    let parts : number (take (d + n) b) ≡ number (take d b) * 2 ^ n + number (take n (drop d b)) =
    ap number (take-add d n b) ∙ number_parts (take d b) (take n (drop d b)) ∙ ap (λ k. number (take d b) * 2 ^ k + number (take n (drop d b))) long in
    ap₂ (λ p q. p * 2 ^ n + q) upper window ∙ sym parts

-- two times 30 bits and four more
pub upper_number : (b : List Bool) (first second third : ℕ) → 64 ≤ length b → first ≡ number (take 30 (b ++ zeros 30)) → second ≡ number (take 30 (drop 30 b ++ zeros 30 ++ zeros 30))
    → third ≡ number (take 4 (drop 60 (b ++ zeros 5))) → (first * 2 ^ 30 + second) * 2 ^ 4 + third ≡ number (take 64 b)
upper_number b first second third long one two three =
    let rest : 30 ≤ length (drop 30 b) = omega (arith, long, length-drop 30 b) in
    let one' : first ≡ number (take 30 b) = one ∙ ap number (take-append-le 30 b (zeros 30) (omega (arith, long))) in
    let two' : second ≡ number (take 30 (drop 30 b)) =
    two ∙ ap number (take-append-le 30 (drop 30 b ++ zeros 30) (zeros 30) (omega (arith, rest, length-append (drop 30 b) (zeros 30))) ∙ take-append-le 30 (drop 30 b) (zeros 30) rest) in
    let three' : third ≡ number (take 4 (drop 60 b)) = three ∙ ap number (window-inside b (zeros 5) 60 4 (omega (arith, long))) in
    joined b 60 4 (first * 2 ^ 30 + second) third (omega (arith, long)) (joined b 30 30 first second (omega (arith, long)) one' two') three'

pub upper_below : (b : List Bool) → 64 ≤ length b → number (take 64 b) < 2 ^ 64
upper_below b long = number-below 64 (take 64 b) (length-take-le 64 b long)

-- the first 30 of 64 bits
pub top_number : (half : ℕ) → half < 2 ^ 64 → half / 2 ^ 34 ≡ number (take 30 (digits 64 half ++ zeros 30))
top_number half low =
    let b : List Bool = digits 64 half in
    let long : length b ≡ 64 = length-digits 64 half in
    ap (λ n. n / 2 ^ 34) (sym (number_of_digits 64 half low)) ∙ subst (λ n. number b / 2 ^ (n - 30) ≡ number (take 30 b)) long (number_shifted b 30) ∙ ap number (sym (take-append-le 30 b (zeros 30) (omega (arith, long))))

-- the number of bits that are filled with zeros
pub filled_number : (s : List Bool) (k : ℕ) → number (s ++ zeros k) ≡ number s * 2 ^ k
filled_number s k =
    number_parts s (zeros k) ∙ ap₂ (λ n z. number s * 2 ^ n + z) (length-replicate k false) (number_zeros k) ∙ (let e : number s * 2 ^ k + 0 ≡ number s * 2 ^ k = omega arith in e)

-- ---- four bits at a time, from a number of 64 bits

module _ (w half i : ℕ) where
  -- the first bits of the number, and then zeros
  abbrev pub IsWritten : List Bool → Type 0
  IsWritten r = r ≡ take (4 * i) (digits 64 half) ++ zeros (w - 4 * i)

  pub nibble_written : (x : ℕ) (r q : List Bool) → i < 16 → IsWritten r → x ≡ number (take 4 (drop (4 * i) (digits 64 half ++ zeros 5))) → q ≡ take (4 * i) r ++ digits 4 x ++ zeros (w - (4 * i + 4))
      → q ≡ take (4 * (i + 1)) (digits 64 half) ++ zeros (w - 4 * (i + 1))
  nibble_written x r q inside held window is =
      let b : List Bool = digits 64 half in
      let long : length b ≡ 64 = length-digits 64 half in
      let front : take (4 * i) r ≡ take (4 * i) b = ap (λ s. take (4 * i) s) held ∙ take_at (take (4 * i) b) (zeros (w - 4 * i)) (4 * i) (length-take-le (4 * i) b (omega (arith, long, inside))) in
      let next : digits 4 x ≡ take 4 (drop (4 * i) b) =
      ap (λ n. digits 4 n) (window ∙ ap number (window-inside b (zeros 5) (4 * i) 4 (omega (arith, long, inside)))) ∙ bits-number 4 (take 4 (drop (4 * i) b)) (length-window b (4 * i) 4 (omega (arith, long, inside))) in
      is ∙ ap₂ (λ s t. s ++ t ++ zeros (w - (4 * i + 4))) front next ∙ ap (λ s. s ++ zeros (w - (4 * i + 4))) (sym (take-add (4 * i) 4 b))
      ∙ ap (λ k. take k b ++ zeros (w - k)) (let e : 4 * i + 4 ≡ 4 * (i + 1) = omega arith in e)

  pub all_written : (r : List Bool) → half < 2 ^ 64 → 16 ≤ i → i ≤ 16 → IsWritten r → number r ≡ half * 2 ^ (w - 64)
  all_written r low done most held =
      let b : List Bool = digits 64 half in
      let at : 4 * i ≡ 64 = omega (arith, done, most) in
      ap number (held ∙ ap (λ k. take k b ++ zeros (w - k)) at ∙ ap (λ s. s ++ zeros (w - 64)) (take_all 64 b (let l = length-digits 64 half in omega (arith, l))))
      ∙ filled_number b (w - 64) ∙ ap (λ n. n * 2 ^ (w - 64)) (number_of_digits 64 half low)
