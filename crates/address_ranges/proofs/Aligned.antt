-- The first address from another one on at which a network of a length begins.
use Rattle.std.proofs.Common.{Option, None, Some, ◌≡◌, ◌∙◌, ℕ, ◌+◌, ◌-◌, ◌*◌, ◌^◌, ◌<◌, ◌≤◌, Bool, List, length, take, inl, inr, ap, arith, pow_pos, mul-le-mul_right}
use Rattle.std.specs.Option.{IfSome, MatchOption}
use Rattle.std.proofs.lemmas.Bool.{cases_lt}
use Rattle.prefix_trie_bits.specs.Model.Bits.{number}
use Rattle.address_ranges.specs.Appends.{end_of}
use Rattle.address_ranges.specs.Networks.{IsBlock, first_address}
use Rattle.address_ranges.proofs.Blocks.{first_of_first, length_first, parted, past_within, rest_below}

-- a number below another multiple
pub rises : (m q p : ℕ) → q * p < m * p → (q + 1) * p ≤ m * p
rises m q p lt = elim (cases_lt q m) [
  | inl less ↦ mul-le-mul_right p (omega (arith, less))
  | inr ge ↦ absurd (let h : m * p ≤ q * p = mul-le-mul_right p ge in omega (arith, h, lt))
]

-- an address is the first one from another one on at which a network of the length begins
abbrev pub IsFirstAligned : ℕ → ℕ → ℕ → ℕ → Type 0
IsFirstAligned w len at first = (at ≤ first) × IsBlock w first len (first + 2 ^ (w - len)) × ((n : ℕ) → at ≤ n → IsBlock w n len (2 ^ w) → first ≤ n)

module _ (w : ℕ) (b : List Bool) (len : ℕ) (long : length b ≡ w) (short : len ≤ w) (front : ℕ) (kept : front ≡ first_address w (take len b)) where
  q : ℕ
  q = number (take len b)

  is_front : front ≡ number (take len b) * 2 ^ (w - len)
  is_front = kept ∙ first_of_first w b len long short

  front_by : front ≤ number b
  front_by = let e = parted w b len long short in let f = is_front in omega (arith, e, f)

  b_below : number b < front + 2 ^ (w - len)
  b_below = let e = parted w b len long short in let f = is_front in let r = rest_below w b len long short in omega (arith, e, f, r)

  pub front_fits : front + 2 ^ (w - len) ≤ 2 ^ w
  front_fits =
      let l = length_first w b len long short in
      let p = past_within w (take len b) (omega (arith, l, short)) in
      let e : first_address w (take len b) + 2 ^ (w - length (take len b)) ≡ first_address w (take len b) + 2 ^ (w - len) = ap (λ k. first_address w (take len b) + 2 ^ (w - k)) l in
      omega (arith, p, e, kept)

  pub aligned_here : number b ≤ front → IsFirstAligned w len (number b) front
  aligned_here le = (le, record { quotient = number (take len b); aligned = is_front; fits = omega arith }, λ n ge block. let h = front_by in omega (arith, ge, h))

  after_front : (n : ℕ) → front < number b → number b ≤ n → IsBlock w n len (2 ^ w) → front + 2 ^ (w - len) ≤ n
  after_front n lt ge block =
      let p : ℕ = 2 ^ (w - len) in
      let a = block.aligned in
      let f = is_front in
      let up : (number (take len b) + 1) * 2 ^ (w - len) ≤ block.quotient * 2 ^ (w - len) = rises block.quotient (number (take len b)) (2 ^ (w - len)) (omega (arith, a, f, lt, ge)) in
      let one : (number (take len b) + 1) * 2 ^ (w - len) ≡ number (take len b) * 2 ^ (w - len) + 2 ^ (w - len) = omega arith in
      omega (arith, up, one, f, a)

  pub aligned_after : {K : Type 0} (bits : K → List Bool) (IsKey : K → Type 0) (o : Option K) → front < number b → IfSome o IsKey → end_of w bits o ≡ front + 2 ^ (w - len)
      → MatchOption o ((n : ℕ) → number b ≤ n → IsBlock w n len (2 ^ w) → ⊥) (λ k. IsKey k × (number b ≤ number (bits k)) × IsBlock w (number (bits k)) len (number (bits k) + 2 ^ (w - len)) × ((n : ℕ) → number b ≤ n → IsBlock w n len (2 ^ w) → number (bits k) ≤ n))
  aligned_after bits IsKey None lt key is = λ n ge block. (
      let a = after_front n lt ge block in
      let f = block.fits in
      let p = pow_pos (w - len) in
      omega (arith, a, f, is, p))
  aligned_after bits IsKey (Some k) lt key is = (
    key,
    (let h = b_below in omega (arith, h, is)),
    record {
      quotient = number (take len b) + 1;
      aligned = (let f = is_front in let one : (number (take len b) + 1) * 2 ^ (w - len) ≡ number (take len b) * 2 ^ (w - len) + 2 ^ (w - len) = omega arith in omega (arith, is, f, one));
      fits = omega arith;
    },
    λ n ge block. (let a = after_front n lt ge block in omega (arith, a, is)),
  )

-- ---- a network that begins there ends in time, or none does

block_to : (w n len a b : ℕ) → a ≤ b → IsBlock w n len a → IsBlock w n len b
block_to w n len a b le block = record { quotient = block.quotient; aligned = block.aligned; fits = (let f = block.fits in omega (arith, f, le)) }

pub none_aligned : (w len at end : ℕ) → end ≤ 2 ^ w → ((n : ℕ) → at ≤ n → IsBlock w n len (2 ^ w) → ⊥) → (n : ℕ) → at ≤ n → IsBlock w n len end → ⊥
none_aligned w len at end le none n ge block = none n ge (block_to w n len end (2 ^ w) le block)

pub first_fits : (w len at end first : ℕ) → end ≤ 2 ^ w → ((n : ℕ) → at ≤ n → IsBlock w n len (2 ^ w) → first ≤ n) → (n : ℕ) → at ≤ n → IsBlock w n len end → first ≤ n
first_fits w len at end first le least n ge block = least n ge (block_to w n len end (2 ^ w) le block)

pub none_fits : (w len at end first : ℕ) → end ≤ 2 ^ w → IsBlock w first len (first + 2 ^ (w - len)) → ((n : ℕ) → at ≤ n → IsBlock w n len (2 ^ w) → first ≤ n) → (IsBlock w first len end → ⊥) → (n : ℕ) → at ≤ n → IsBlock w n len end → ⊥
none_fits w len at end first le aligned least unfit n ge block =
    let l = least n ge (block_to w n len end (2 ^ w) le block) in
    let f = block.fits in
    unfit (block_to w first len (first + 2 ^ (w - len)) end (omega (arith, l, f)) aligned)

pub end_by : {K : Type 0} (w : ℕ) (bits : K → List Bool) (o : Option K) → IfSome o (λ k. number (bits k) < 2 ^ w) → end_of w bits o ≤ 2 ^ w
end_by w bits None lt = omega arith
end_by w bits (Some k) lt = omega (arith, lt)
