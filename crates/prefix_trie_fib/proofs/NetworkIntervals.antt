-- A network has the addresses of an interval of numbers.
use Rattle.std.proofs.Common.{◌≡◌, ◌∙◌, ℕ, ◌+◌, ◌-◌, ◌*◌, ◌/◌, ◌^◌, ◌<◌, ◌≤◌, Bool, true, false, List, [], ◌∷◌, ◌++◌, length, take, drop, ap, ap₂, sym, subst, arith, length-append, take-append-drop, pow-add}
use Rattle.std.proofs.Math.Nat.{add-mul}
use Rattle.std.proofs.lemmas.List.{length-take-le, length-drop, length-replicate}
use Rattle.std.proofs.lemmas.Nat.{shr_high}
use Rattle.prefix_trie_bits.specs.Begins.{begins-rest, begins-from-take}
use Rattle.prefix_trie_bits.specs.BitStrings.{number-lt, same-from-number, number_of_digits, zero_bits}
use Rattle.prefix_trie_bits.specs.Model.Bits.{bit, begins, number, zeros}
use Rattle.prefix_trie_fib.specs.Line.{first_address, past_address}

-- the number of a string in two parts
pub number_parts : (s t : List Bool) → number (s ++ t) ≡ number s * 2 ^ length t + number t
unfolding number
number_parts [] t = omega arith
number_parts (b ∷ s) t =
    let long : 2 ^ length (s ++ t) ≡ 2 ^ length s * 2 ^ length t = ap (λ n. 2 ^ n) (length-append s t) ∙ pow-add 2 (length s) (length t) in
    sums b (2 ^ length (s ++ t)) (2 ^ length s) (2 ^ length t) (number (s ++ t)) (number s) (number t) long (number_parts s t)
  where
    sums : (c : Bool) (p a k x y z : ℕ) → p ≡ a * k → x ≡ y * k + z → bit c * p + x ≡ (bit c * a + y) * k + z
    sums true p a k x y z e f = let g = add-mul (1 * a) y k in let h : (1 * a) * k ≡ a * k = ap (λ m. m * k) (let o : 1 * a ≡ a = omega arith in o) in omega (arith, e, f, g, h)
    sums false p a k x y z e f = let g = add-mul (0 * a) y k in let h : (0 * a) * k ≡ 0 * k = ap (λ m. m * k) (let o : 0 * a ≡ 0 = omega arith in o) in omega (arith, e, f, g, h)

pub number_zeros : (k : ℕ) → number (zeros k) ≡ 0
number_zeros k = ap number (sym (zero_bits k)) ∙ number_of_digits k 0 (omega (arith, number-lt (zeros k), ap (λ n. 2 ^ n) (length-replicate k false)))

-- the first address of a string's network
pub first_is : (w : ℕ) (s : List Bool) → first_address w s ≡ number s * 2 ^ (w - length s)
first_is w s =
    number_parts s (zeros (w - length s))
    ∙ ap₂ (λ k n. number s * 2 ^ k + n) (length-replicate (w - length s) false) (number_zeros (w - length s)) ∙ (let z : number s * 2 ^ (w - length s) + 0 ≡ number s * 2 ^ (w - length s) = omega arith in z)

module _ (w : ℕ) (s q : List Bool) (long : length q ≡ w) where
  -- an address that begins with a string is within its network
  pub begins_within : begins s q ≡ true → (first_address w s ≤ number q) × (number q < past_address w s)
  begins_within e =
      let r : List Bool = drop (length s) q in
      let is : number q ≡ number s * 2 ^ length r + number r = ap number (begins-rest s q e) ∙ number_parts s r in
      let left : length r ≡ w - length s = length-drop (length s) q ∙ ap (λ n. n - length s) long in
      let is' : number q ≡ number s * 2 ^ (w - length s) + number r = is ∙ ap (λ k. number s * 2 ^ k + number r) left in
      let small : number r < 2 ^ (w - length s) = subst (λ k. number r < 2 ^ k) left (number-lt r) in
      (omega (arith, is', first_is w s), omega (arith, is', small, first_is w s))

  -- and conversely
  pub within_begins : length s ≤ w → first_address w s ≤ number q → number q < past_address w s → begins s q ≡ true
  within_begins fits lo hi =
      let t : List Bool = take (length s) q in
      let r : List Bool = drop (length s) q in
      let k : ℕ = w - length s in
      let left : length r ≡ w - length s = length-drop (length s) q ∙ ap (λ n. n - length s) long in
      let is : number q ≡ number t * 2 ^ (w - length s) + number r = ap number (sym (take-append-drop (length s) q)) ∙ number_parts t r ∙ ap (λ n. number t * 2 ^ n + number r) left in
      let small : number r < 2 ^ (w - length s) = subst (λ n. number r < 2 ^ n) left (number-lt r) in
      let rest : number q - first_address w s < 2 ^ (w - length s) = omega (arith, lo, hi) in
      let is' : number q ≡ number s * 2 ^ (w - length s) + (number q - first_address w s) = omega (arith, lo, first_is w s) in
      let tops : number t ≡ number s =
      sym (shr_high (number t) (w - length s) (number r) small) ∙ ap (λ n. n / 2 ^ (w - length s)) (sym is ∙ is') ∙ shr_high (number s) (w - length s) (number q - first_address w s) rest in
      begins-from-take s q (length s) (same-from-number t s (length-take-le (length s) q (omega (arith, long, fits))) tops)
