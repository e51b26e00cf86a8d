-- Chunks of addresses: the number of an address's first bits.
use Rattle.std.proofs.Common.{◌≡◌, ◌∙◌, zero, suc, ℕ, ◌+◌, ◌-◌, ◌*◌, ◌/◌, ◌%◌, ◌^◌, ◌<◌, ◌≤◌, Bool, false, List, ◌++◌, length, length-append, take, drop, ap, sym, subst, arith, refl, append_assoc, pow_mono, take-append-drop}
use Rattle.std.proofs.Math.Seq.{drop-append-add, take-add}
use Rattle.std.proofs.lemmas.List.{length-drop, length-replicate, length-take-le, take-append-le, take-take}
use Rattle.std.proofs.lemmas.Nat.{field_of, mod_low, shl-shr, shr-shr, shr_high}
use Rattle.prefix_trie_bits.specs.BitStrings.{number-lt}
use Rattle.prefix_trie_bits.specs.Model.Bits.{number, zeros}
use Rattle.prefix_trie_bits.specs.Windows.{window-inside}
use Rattle.prefix_trie_fib.proofs.NetworkIntervals.{number_parts}

-- a string's number, by its first k bits and the rest
pub number_split : (s : List Bool) (k : ℕ) → (number s ≡ number (take k s) * 2 ^ (length s - k) + number (drop k s)) × (number (drop k s) < 2 ^ (length s - k))
number_split s k = (
  ap number (sym (take-append-drop k s)) ∙ number_parts (take k s) (drop k s) ∙ ap (λ n. number (take k s) * 2 ^ n + number (drop k s)) (length-drop k s),
  subst (λ n. number (drop k s) < 2 ^ n) (length-drop k s) (number-lt (drop k s)),
)

-- without its last bits, it is that of the first ones
pub number_shifted : (s : List Bool) (k : ℕ) → number s / 2 ^ (length s - k) ≡ number (take k s)
number_shifted s k = let (is, low) = number_split s k in ap (λ n. n / 2 ^ (length s - k)) is ∙ shr_high (number (take k s)) (length s - k) (number (drop k s)) low

-- an address is in the chunk of its first k bits
pub in_chunk : (w : ℕ) (q : List Bool) (k : ℕ) → length q ≡ w → (number (take k q) * 2 ^ (w - k) ≤ number q) × (number q < (number (take k q) + 1) * 2 ^ (w - k))
in_chunk w q k long =
    let (is, low) = number_split q k in
    let is' : number q ≡ number (take k q) * 2 ^ (w - k) + number (drop k q) = subst (λ n. number q ≡ number (take k q) * 2 ^ (n - k) + number (drop k q)) long is in
    let low' : number (drop k q) < 2 ^ (w - k) = subst (λ n. number (drop k q) < 2 ^ (n - k)) long low in
    (omega (arith, is'), omega (arith, is', low'))

zeros_dropped : (k m : ℕ) → drop k (zeros m) ≡ zeros (m - k)
zeros_dropped zero m = ap zeros (let e : m ≡ m - 0 = omega arith in e)
zeros_dropped (suc k) zero = ap zeros (let e : 0 ≡ 0 - suc k = omega arith in e)
zeros_dropped (suc k) (suc m) = zeros_dropped k m ∙ ap zeros (let e : m - k ≡ suc m - suc k = omega arith in e)

zeros_taken : (n m : ℕ) → number (take n (zeros m)) ≡ 0
unfolding number
zeros_taken zero m = refl
zeros_taken (suc n) zero = refl
zeros_taken (suc n) (suc m) = let e = zeros_taken n m in omega (arith, e)

-- ---- the first bits of an address and of 30 zeros after it, five at a time

module _ (b : List Bool) (d u x : ℕ) (few : d ≤ 25) where
  pub window_padded : d ≤ length b → number (take 5 (drop d (b ++ zeros 5))) ≡ number (take 5 (drop d (b ++ zeros 30)))
  window_padded inside =
      sym (ap number (window-inside (b ++ zeros 5) (zeros 25) d 5 (omega (arith, inside, length-append b (zeros 5), length-replicate 5 false))))
      ∙ ap (λ s. number (take 5 (drop d s))) (append_assoc b (zeros 5) (zeros 25))

  pub window_past : length b < d → 0 ≡ number (take 5 (drop d (b ++ zeros 30)))
  window_past past =
      let at : d ≡ length b + (d - length b) = omega (arith, past) in
      sym (ap (λ k. number (take 5 (drop k (b ++ zeros 30)))) at ∙ ap (λ s. number (take 5 s)) (drop-append-add b (zeros 30) (d - length b) ∙ zeros_dropped (d - length b) 30) ∙ zeros_taken 5 (30 - (d - length b)))

  pub window_joined : u ≡ number (take d (b ++ zeros 30)) → x ≡ number (take 5 (drop d (b ++ zeros 30))) → u * 32 + x ≡ number (take (d + 5) (b ++ zeros 30))
  window_joined upper window =
      let long : length (b ++ zeros 30) ≡ length b + 30 = length-append b (zeros 30) in
      let five : length (take 5 (drop d (b ++ zeros 30))) ≡ 5 = length-take-le 5 (drop d (b ++ zeros 30)) (omega (arith, long, few, length-drop d (b ++ zeros 30))) in
      let parts : number (take (d + 5) (b ++ zeros 30)) ≡ number (take d (b ++ zeros 30)) * 2 ^ 5 + number (take 5 (drop d (b ++ zeros 30))) =
      ap number (take-add d 5 (b ++ zeros 30)) ∙ number_parts (take d (b ++ zeros 30)) (take 5 (drop d (b ++ zeros 30))) ∙ ap (λ n. number (take d (b ++ zeros 30)) * 2 ^ n + number (take 5 (drop d (b ++ zeros 30)))) five in
      omega (arith, upper, window, parts)

  pub window_fits : number (take (d + 5) (b ++ zeros 30)) < 2 ^ 30
  window_fits =
      let long : length (take (d + 5) (b ++ zeros 30)) ≡ d + 5 = length-take-le (d + 5) (b ++ zeros 30) (omega (arith, few, length-append b (zeros 30))) in
      let small : number (take (d + 5) (b ++ zeros 30)) < 2 ^ (d + 5) = subst (λ n. number (take (d + 5) (b ++ zeros 30)) < 2 ^ n) long (number-lt (take (d + 5) (b ++ zeros 30))) in
      let most : 2 ^ (d + 5) ≤ 2 ^ 30 = pow_mono {i = d + 5} {j = 30} (omega (arith, few)) in
      omega (arith, small, most)

  pub upper_fits : u ≡ number (take d (b ++ zeros 30)) → u < 2 ^ 25
  upper_fits is =
      let long : length (take d (b ++ zeros 30)) ≡ d = length-take-le d (b ++ zeros 30) (omega (arith, few, length-append b (zeros 30))) in
      let small : number (take d (b ++ zeros 30)) < 2 ^ d = subst (λ n. number (take d (b ++ zeros 30)) < 2 ^ n) long (number-lt (take d (b ++ zeros 30))) in
      let most : 2 ^ d ≤ 2 ^ 25 = pow_mono {i = d} {j = 25} few in
      omega (arith, is, small, most)

-- the first k of 30 bits
pub chunk_number : (b : List Bool) (k top : ℕ) → k ≤ 30 → k ≤ length b → top ≡ number (take 30 (b ++ zeros 30)) → top / 2 ^ (30 - k) ≡ number (take k b)
chunk_number b k top few within is =
    let long : length (take 30 (b ++ zeros 30)) ≡ 30 = length-take-le 30 (b ++ zeros 30) (omega (arith, length-append b (zeros 30))) in
    ap (λ n. n / 2 ^ (30 - k)) is
    ∙ subst (λ n. number (take 30 (b ++ zeros 30)) / 2 ^ (n - k) ≡ number (take k (take 30 (b ++ zeros 30)))) long (number_shifted (take 30 (b ++ zeros 30)) k)
    ∙ ap number (take-take k 30 (b ++ zeros 30) few) ∙ ap number (take-append-le k b (zeros 30) within)

-- the first k bits and the p after them
pub part_number : (b : List Bool) (k p top : ℕ) → k + p ≤ 30 → k + p ≤ length b → top ≡ number (take 30 (b ++ zeros 30)) → number (take k b) * 2 ^ p + top / 2 ^ (30 - (k + p)) % 2 ^ p ≡ number (take (k + p) b)
part_number b k p top few within is =
    let finer : List Bool = take (k + p) b in
    let top_is : top / 2 ^ (30 - (k + p)) ≡ number finer = chunk_number b (k + p) top few within is in
    let (parts, small) = number_split finer k in
    let rest : length finer - k ≡ p = (let l = length-take-le (k + p) b within in omega (arith, l)) in
    let first : take k finer ≡ take k b = take-take k (k + p) b (omega arith) in
    let parts' : number finer ≡ number (take k b) * 2 ^ p + number (drop k finer) =
    parts ∙ ap (λ n. number (take k finer) * 2 ^ n + number (drop k finer)) rest ∙ ap (λ s. number s * 2 ^ p + number (drop k finer)) first in
    let small' : number (drop k finer) < 2 ^ p = subst (λ n. number (drop k finer) < 2 ^ n) rest small in
    let last : top / 2 ^ (30 - (k + p)) % 2 ^ p ≡ number (drop k finer) = ap (λ n. n % 2 ^ p) (top_is ∙ parts') ∙ mod_low (number (take k b)) p (number (drop k finer)) small' in
    ap (λ n. number (take k b) * 2 ^ p + n) last ∙ sym parts'

-- the bits between two places: those before them are shifted out to the left, and those after them to the right
pub field_shifted : (n rest p : ℕ) → rest ≤ 32 → p ≤ rest → n * 2 ^ (32 - rest) % 2 ^ 32 / 2 ^ (32 - p) ≡ n / 2 ^ (rest - p) % 2 ^ p
field_shifted n rest p most within =
    let k : ℕ = 32 - rest in
    ap (λ j. n * 2 ^ k % 2 ^ j / 2 ^ (32 - p)) (let e : 32 ≡ p + (32 - p) = omega (arith, most, within) in e)
    ∙ field_of (n * 2 ^ k) p (32 - p)
    ∙ ap (λ j. n * 2 ^ k / 2 ^ j % 2 ^ p) (let e : 32 - p ≡ k + (rest - p) = omega (arith, most, within) in e)
    ∙ ap (λ m. m % 2 ^ p) (sym (shr-shr (n * 2 ^ k) k (rest - p)) ∙ ap (λ m. m / 2 ^ (rest - p)) (shl-shr n k))
