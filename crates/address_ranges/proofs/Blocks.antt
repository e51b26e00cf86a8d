-- Networks as blocks of numbers: two that share an address lie one in the other, and which blocks begin at an address.
use Rattle.std.proofs.Common.{◌≡◌, ◌∙◌, ℕ, ◌+◌, ◌-◌, ◌*◌, ◌/◌, ◌^◌, ◌<◌, ◌≤◌, Bool, true, false, not, List, Option, None, Some, [], ◌∷◌, ◌++◌, length, length-append, take, drop, inl, inr, ap, ap₂, sym, subst, arith, take-append-drop, pow-add, pow_pos, mul-le-mul_right}
use Rattle.std.proofs.lemmas.Bool.{cases_lt}
use Rattle.std.specs.Bool.{MatchBool}
use Rattle.std.specs.Option.{MatchOption}
use Rattle.std.proofs.lemmas.List.{length-take-le, length-drop}
use Rattle.std.proofs.lemmas.Nat.{shr_high}
use Rattle.prefix_trie_bits.specs.BitStrings.{number-lt, number-below}
use Rattle.prefix_trie_bits.specs.Model.Bits.{bit, number, zeros}
use Rattle.address_ranges.specs.Networks.{first_address, past_address}
use Rattle.address_ranges.specs.Appends.{end_of}
use Rattle.address_ranges.specs.Networks.{IsBlock}
use Rattle.address_ranges.proofs.Addresses.{first_is, number_parts}

-- a block of a length is made of blocks of a greater length
parts_of : (w k j : ℕ) → k ≤ j → j ≤ w → 2 ^ (w - k) ≡ 2 ^ (j - k) * 2 ^ (w - j)
parts_of w k j le short = ap (λ n. 2 ^ n) (let e : w - k ≡ (j - k) + (w - j) = omega arith in e) ∙ pow-add 2 (j - k) (w - j)

-- no network is empty
pub some_address : (w : ℕ) (s : List Bool) → first_address w s < past_address w s
some_address w s = let p = pow_pos (w - length s) in omega (arith, p)

-- no network passes the end of all addresses
pub past_within : (w : ℕ) (s : List Bool) → length s ≤ w → past_address w s ≤ 2 ^ w
past_within w s short =
    let p : ℕ = 2 ^ (w - length s) in
    let all : 2 ^ w ≡ 2 ^ length s * p = ap (λ n. 2 ^ n) (let e : w ≡ length s + (w - length s) = omega arith in e) ∙ pow-add 2 (length s) (w - length s) in
    let below : (number s + 1) * p ≤ 2 ^ length s * p = mul-le-mul_right p (let lt = number-lt s in omega (arith, lt)) in
    let one_more : (number s + 1) * p ≡ number s * p + p = omega arith in
    omega (arith, first_is w s, all, below, one_more)

-- of two networks that share an address, the one with the longer path lies in the other
pub nested : (w : ℕ) (t s : List Bool) → length t ≤ length s → length s ≤ w → (x : ℕ) → first_address w t ≤ x → x < past_address w t → first_address w s ≤ x → x < past_address w s
    → (first_address w t ≤ first_address w s) × (past_address w s ≤ past_address w t)
nested w t s le short x a b c d =
    let p : ℕ = 2 ^ (w - length s) in
    let m : ℕ = 2 ^ (length s - length t) in
    let size : 2 ^ (w - length t) ≡ m * p = parts_of w (length t) (length s) le short in
    let ft : first_address w t ≡ number t * (m * p) = first_is w t ∙ ap (λ k. number t * k) size in
    let fs : first_address w s ≡ number s * p = first_is w s in
    let assoc : number t * (m * p) ≡ number t * m * p = omega arith in
    let more : (number t * m + m) * p ≡ number t * m * p + m * p = omega arith in
    let one : (number s + 1) * p ≡ number s * p + p = omega arith in
    let low : number t * m ≤ number s = elim (cases_lt (number s) (number t * m)) [
      | inl lt ↦ absurd (let h : (number s + 1) * p ≤ number t * m * p = mul-le-mul_right p (omega (arith, lt)) in omega (arith, h, one, ft, fs, assoc, a, d))
      | inr ge ↦ ge
    ] in
    let high : number s + 1 ≤ number t * m + m = elim (cases_lt (number s) (number t * m + m)) [
      | inl lt ↦ omega (arith, lt)
      | inr ge ↦ absurd (let h : (number t * m + m) * p ≤ number s * p = mul-le-mul_right p ge in omega (arith, h, more, ft, fs, assoc, b, c, size))
    ] in
    let l : number t * m * p ≤ number s * p = mul-le-mul_right p low in
    let h : (number s + 1) * p ≤ (number t * m + m) * p = mul-le-mul_right p high in
    (omega (arith, l, ft, fs, assoc), omega (arith, h, ft, fs, assoc, one, more, size))

-- the number of a string with one more bit
number_last : (s : List Bool) (b : Bool) → number (s ++ b ∷ []) ≡ number s * 2 + bit b
unfolding number
number_last s b = number_parts s (b ∷ []) ∙ (let e : number s * 2 ^ 1 + (bit b * 2 ^ 0 + 0) ≡ number s * 2 + bit b = omega arith in e)

-- the halves of a network lie end to end
pub halves_of : (w : ℕ) (s : List Bool) → length s + 1 ≤ w
    → (first_address w (s ++ false ∷ []) ≡ first_address w s) × (past_address w (s ++ false ∷ []) ≡ first_address w (s ++ true ∷ [])) × (past_address w (s ++ true ∷ []) ≡ past_address w s)
halves_of w s fits =
    let p : ℕ = 2 ^ (w - (length s + 1)) in
    let size : (b : Bool) → 2 ^ (w - length (s ++ b ∷ [])) ≡ p = λ b. ap (λ n. 2 ^ (w - n)) (length-append s (b ∷ [])) in
    let whole : 2 ^ (w - length s) ≡ 2 ^ 1 * p = ap (λ n. 2 ^ n) (let e : w - length s ≡ 1 + (w - (length s + 1)) = omega (arith, fits) in e) ∙ pow-add 2 1 (w - (length s + 1)) in
    let twice : 2 ^ 1 * p ≡ 2 * p = omega arith in
    let half : (b : Bool) → first_address w (s ++ b ∷ []) ≡ (number s * 2 + bit b) * p = λ b. first_is w (s ++ b ∷ []) ∙ ap₂ (λ n k. n * k) (number_last s b) (size b) in
    let all : first_address w s ≡ number s * (2 * p) = first_is w s ∙ ap (λ n. number s * n) (whole ∙ twice) in
    let lower = half false in
    let upper = half true in
    let a : (number s * 2 + 0) * p ≡ number s * (2 * p) = omega arith in
    let b : (number s * 2 + 1) * p ≡ number s * (2 * p) + p = omega arith in
    let c : 2 * p ≡ p + p = omega arith in
    let size_low = size false in
    let size_high = size true in
    (omega (arith, lower, all, a), omega (arith, lower, upper, size_low, a, b), omega (arith, upper, all, size_high, whole, twice, b, c))

-- ---- blocks that begin at an address

-- if a block fits, a smaller one does
pub block_longer : (w at k j end : ℕ) → k ≤ j → j ≤ w → IsBlock w at k end → IsBlock w at j end
block_longer w at k j end le short block =
    let p : ℕ = 2 ^ (w - j) in
    let m : ℕ = 2 ^ (j - k) in
    let size : 2 ^ (w - k) ≡ m * p = parts_of w k j le short in
    let smaller : 1 * p ≤ m * p = mul-le-mul_right p (let q = pow_pos (j - k) in omega (arith, q)) in
    record {
      quotient = block.quotient * m;
      aligned = block.aligned ∙ ap (λ n. block.quotient * n) size ∙ (let e : block.quotient * (m * p) ≡ block.quotient * m * p = omega arith in e);
      fits = let f = block.fits in omega (arith, f, size, smaller);
    }

-- one address is a block
pub block_of_one : (w at end : ℕ) → at < end → IsBlock w at w end
block_of_one w at end lt =
    let one : 2 ^ (w - w) ≡ 2 ^ 0 = ap (λ n. 2 ^ n) (let e : w - w ≡ 0 = omega arith in e) in
    record { quotient = at; aligned = (let e : at ≡ at * 1 = omega arith in e) ∙ ap (λ n. at * n) (sym one); fits = omega (arith, lt, one) }

-- so a block does not fit for another reason than that it is too short
pub not_one : (w at len end : ℕ) → at < end → len ≤ w → (IsBlock w at len end → ⊥) → len < w
not_one w at len end lt short unfit = elim (cases_lt len w) [
  | inl less ↦ less
  | inr all ↦ absurd (unfit (subst (λ k. IsBlock w at k end) (let e : w ≡ len = omega (arith, all, short) in e) (block_of_one w at end lt)))
]

-- if the next larger network is no block, no larger one is
pub none_larger : (w at len end : ℕ) → len ≤ w → (0 < len → IsBlock w at (len - 1) end → ⊥) → (k : ℕ) → k < len → IsBlock w at k end → ⊥
none_larger w at len end short unfit k lt block = unfit (omega (arith, lt)) (block_longer w at k (len - 1) end (omega (arith, lt)) (omega (arith, short)) block)

-- a network is a block at its first address
pub block_of_network : (w end : ℕ) (t : List Bool) → past_address w t ≤ end → IsBlock w (first_address w t) (length t) end
block_of_network w end t by = record { quotient = number t; aligned = first_is w t; fits = by }

module _ (w : ℕ) (b : List Bool) (len : ℕ) (long : length b ≡ w) (short : len ≤ w) where
  -- an address is the first one of the network of its first bits, and some more
  pub parted : number b ≡ number (take len b) * 2 ^ (w - len) + number (drop len b)
  parted =
      ap number (sym (take-append-drop len b)) ∙ number_parts (take len b) (drop len b)
      ∙ ap (λ k. number (take len b) * 2 ^ k + number (drop len b)) (length-drop len b ∙ ap (λ n. n - len) long)

  pub rest_below : number (drop len b) < 2 ^ (w - len)
  rest_below = number-below (w - len) (drop len b) (length-drop len b ∙ ap (λ n. n - len) long)

  pub length_first : length (take len b) ≡ len
  length_first = length-take-le len b (omega (arith, long, short))

  pub first_of_first : first_address w (take len b) ≡ number (take len b) * 2 ^ (w - len)
  first_of_first = first_is w (take len b) ∙ ap (λ k. number (take len b) * 2 ^ (w - k)) length_first

  -- if a block begins at the address, it is the network of its first bits
  pub block_first : (q : ℕ) → number b ≡ q * 2 ^ (w - len) → first_address w (take len b) ≡ number b
  block_first q is =
      let p : ℕ = 2 ^ (w - len) in
      let none : 0 < p = pow_pos (w - len) in
      let same : number (take len b) ≡ q =
      sym (shr_high (number (take len b)) (w - len) (number (drop len b)) rest_below) ∙ ap (λ n. n / 2 ^ (w - len)) (sym parted ∙ is ∙ (let z : q * p ≡ q * p + 0 = omega arith in z))
      ∙ shr_high q (w - len) 0 none in
      first_of_first ∙ ap (λ n. n * 2 ^ (w - len)) same ∙ sym is

  -- and conversely
  pub first_block : (end : ℕ) → number b ≤ first_address w (take len b) → number b + 2 ^ (w - len) ≤ end → IsBlock w (number b) len end
  first_block end by fits = record { quotient = number (take len b); aligned = omega (arith, by, parted, first_of_first); fits = fits }

  -- what `keep` returns
  pub kept_first : (kept : List Bool) → kept ≡ take len b ++ zeros (w - len) → number kept ≡ first_address w (take len b)
  kept_first kept is = ap number (is ∙ ap (λ k. take len b ++ zeros (w - k)) (sym length_first))

  -- a block that begins at the address ends by the end of all addresses
  pub block_fits : number b ≤ first_address w (take len b) → number b + 2 ^ (w - len) ≤ 2 ^ w
  block_fits by =
      let e : first_address w (take len b) + 2 ^ (w - len) ≤ 2 ^ w = subst (λ k. first_address w (take len b) + 2 ^ (w - k) ≤ 2 ^ w) length_first (past_within w (take len b) (omega (arith, length_first, short))) in
      omega (arith, by, e)

  pub block_in_line : (end : ℕ) → IsBlock w (number b) len end → number b + 2 ^ (w - len) ≤ 2 ^ w
  block_in_line end block = let e = block_first block.quotient block.aligned in block_fits (omega (arith, e))

-- ---- ends of ranges

module _ {K : Type 0} (w : ℕ) (bits : K → List Bool) where
  pub end_of_all : (o : Option K) → o ≡ None → end_of w bits o ≡ 2 ^ w
  end_of_all o is = ap (end_of w bits) is

  pub end_at_key : (o : Option K) (k : K) → o ≡ Some k → end_of w bits o ≡ number (bits k)
  end_at_key o k is = ap (end_of w bits) is

  pub below_end : (k : K) → length (bits k) ≡ w → number (bits k) < 2 ^ w
  below_end k long = number-below w (bits k) long

pub match_true : (b : Bool) (P Q : Type 0) → b ≡ true → P → MatchBool b P Q
match_true true P Q e h = h
match_true false P Q e h = absurd (let x : false ≡ true = e in cc)

pub match_false : (b : Bool) (P Q : Type 0) → b ≡ false → Q → MatchBool b P Q
match_false true P Q e h = absurd (let x : true ≡ false = e in cc)
match_false false P Q e h = h

pub not_true : (b : Bool) → b ≡ true → not b ≡ false
not_true b e = ap not e

pub match_with : (b : Bool) (P P' Q Q' : Type 0) → (P → P') → (Q → Q') → MatchBool b P Q → MatchBool b P' Q'
match_with true P P' Q Q' f g h = f h
match_with false P P' Q Q' f g h = g h

-- the address after a block that ends before the range does
pub rest_is : {K : Type 0} (w : ℕ) (bits : K → List Bool) (o : Option K) (next end : ℕ) → end_of w bits o ≡ next → next < end → end ≤ 2 ^ w
    → MatchOption o (end ≡ next) (λ k. (number (bits k) ≡ next) × (number (bits k) < end))
rest_is w bits None next end is lt le = absurd (omega (arith, is, lt, le))
rest_is w bits (Some k) next end is lt le = (is, omega (arith, is, lt))
