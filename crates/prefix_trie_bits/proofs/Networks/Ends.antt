-- The lowest and the highest address of a network, as numbers: for `network` and `last`.
use Rattle.std.proofs.Common.{◌≡◌, ℕ, zero, suc, ◌+◌, ◌-◌, ◌*◌, ◌/◌, ◌^◌, ◌<◌, ◌≤◌, Bool, true, List, [], ◌∷◌, ◌++◌, take, refl, sym, ap, ap₂, ◌∙◌, arith, pow-suc, pow_pos, one-add}
use Rattle.prefix_trie_bits.specs.Model.Bits.{number, digits, zeros}
use Rattle.prefix_trie_bits.specs.Networks.{ones}
use Rattle.prefix_trie_bits.specs.BitStrings.{digits-keep, digits-cat, take-digits, number-bits, extend-below}

-- a number is what its digits write
pub number_is : (w n : ℕ) (s : List Bool) → n < 2 ^ w → digits w n ≡ s → n ≡ number s
number_is w n s fits e = sym (number-bits w n fits) ∙ ap number e

one : digits 1 1 ≡ true ∷ []
unfolding digits
one = refl

-- the k digits of 2^k - 1 are ones
ones_digits : (k : ℕ) → digits k (2 ^ k - 1) ≡ ones k
unfolding digits
ones_digits zero = refl
ones_digits (suc k) =
    let double : 2 ^ suc k ≡ 2 ^ k * 2 = pow-suc 2 k in
    let some : 0 < 2 ^ k = pow_pos k in
    let low = 2 ^ k - 1 in
    let parts : 2 ^ suc k - 1 ≡ 1 * 2 ^ k + low = omega arith in
    let cut = digits-cat 1 k 1 low (omega arith) in
    let whole : digits (suc k) (2 ^ suc k - 1) ≡ digits 1 1 ++ digits k low = ap₂ digits (sym (one-add k)) parts ∙ cut in
    whole ∙ ap₂ ◌++◌ one (ones_digits k)

-- adding 2^(w - k) - 1 to a path followed by zeros gives the path followed by ones
pub last_is : (w v k n host : ℕ) → k ≤ w → v < 2 ^ w → n < 2 ^ w → digits w n ≡ take k (digits w v) ++ zeros (w - k) → host ≡ 2 ^ (w - k) - 1 → (n + host < 2 ^ w) × (n + host ≡ number (take k (digits w v) ++ ones (w - k)))
last_is w v k n host h small fits e is =
    let b = w - k in
    let high = v / 2 ^ b in
    let some : 0 < 2 ^ b = pow_pos b in
    let lower : high * 2 ^ b ≤ v = omega arith in
    let kept : n ≡ high * 2 ^ b = number_is w n _ fits (e ∙ sym (digits-keep w v k h)) ∙ number-bits w (high * 2 ^ b) (omega arith) in
    let none : w - (k + b) ≡ 0 = omega arith in
    let below = rw none at (extend-below w v k b (2 ^ b - 1) (omega arith) small (omega arith)) in
    let within : n + host < 2 ^ w = omega arith in
    let cut = digits-cat k b high (2 ^ b - 1) (omega arith) in
    let width : k + b ≡ w = omega arith in
    let sum : high * 2 ^ b + (2 ^ b - 1) ≡ n + host = omega arith in
    let bits : digits w (n + host) ≡ take k (digits w v) ++ ones b = ap₂ digits (sym width) (sym sum) ∙ cut ∙ ap₂ ◌++◌ (sym (take-digits k w v h)) (ones_digits b) in
    (within, number_is w (n + host) _ within bits)
