-- How many addresses a set has: its ranges, one after the other.
use Rattle.std.proofs.Common.{◌≡◌, ◌∙◌, zero, suc, ℕ, ◌+◌, ◌-◌, ◌*◌, ◌^◌, ◌<◌, ◌≤◌, Bool, true, false, List, ◌++◌, length, get_or, take, drop, inl, inr, ap, ap₂, sym, subst, arith, add-zero}
use Rattle.std.proofs.Math.Pow.{pow_mono}
use Rattle.std.specs.Int.{from_bool}
use Rattle.std.proofs.lemmas.Bool.{cases_lt}
use Rattle.std.proofs.lemmas.List.{drop-take, length-take-le, take-append-drop, take-take}
use Rattle.prefix_trie_bits.specs.BitStrings.{number-below}
use Rattle.prefix_trie_bits.specs.Model.Bits.{number, zeros}
use Rattle.prefix_trie_bits.specs.Windows.{length-window, window-inside}
use Rattle.address_ranges.specs.Breaks.{AreBreaks, has_address, is_odd}
use Rattle.address_ranges.specs.Counts.{count_below}
use Rattle.address_ranges.specs.Networks.{break_or_end}
use Rattle.address_ranges.proofs.Addresses.{number_parts}
use Rattle.address_ranges.proofs.Breaks.{has-before}
use Rattle.address_ranges.proofs.Fewest.{break_here, break_past, break_rises, has_between}

module _ (test : ℕ → Bool) where
  -- no more numbers pass than there are
  pub count_most : (n : ℕ) → count_below test n ≤ n
  unfolding count_below
  count_most zero = omega arith
  count_most (suc n) = let h = count_most n in let b = at_most_one (test n) in omega (arith, h, b)
    where
      at_most_one : (b : Bool) → from_bool b ≤ 1
      at_most_one true = omega arith
      at_most_one false = omega arith

  -- where each number passes, the count rises by one for each
  pub count_all : (a d : ℕ) → ((n : ℕ) → a ≤ n → n < a + d → test n ≡ true) → count_below test (a + d) ≡ count_below test a + d
  unfolding count_below
  count_all a zero all = ap (count_below test) (add-zero a) ∙ sym (add-zero (count_below test a))
  count_all a (suc d) all =
      let h = count_all a d (λ n le lt. all n le (omega (arith, lt))) in
      let up : count_below test (a + suc d) ≡ count_below test (a + d) + from_bool (test (a + d)) = ap (count_below test) (let e : a + suc d ≡ suc (a + d) = omega arith in e) in
      let one : from_bool (test (a + d)) ≡ 1 = ap from_bool (all (a + d) (omega arith) (omega arith)) in
      omega (arith, h, one, up)

  -- where none passes, it stays
  pub count_none : (a d : ℕ) → ((n : ℕ) → a ≤ n → n < a + d → test n ≡ false) → count_below test (a + d) ≡ count_below test a
  unfolding count_below
  count_none a zero none = ap (count_below test) (add-zero a)
  count_none a (suc d) none =
      let h = count_none a d (λ n le lt. none n le (omega (arith, lt))) in
      let up : count_below test (a + suc d) ≡ count_below test (a + d) + from_bool (test (a + d)) = ap (count_below test) (let e : a + suc d ≡ suc (a + d) = omega arith in e) in
      let z : from_bool (test (a + d)) ≡ 0 = ap from_bool (none (a + d) (omega arith) (omega arith)) in
      omega (arith, h, z, up)

  pub count_all_to : (a b : ℕ) → a ≤ b → ((n : ℕ) → a ≤ n → n < b → test n ≡ true) → count_below test b ≡ count_below test a + (b - a)
  count_all_to a b le all =
      let is : a + (b - a) ≡ b = omega (arith, le) in
      subst (λ m. count_below test m ≡ count_below test a + (b - a)) is (count_all a (b - a) (λ n l u. all n l (omega (arith, u, is))))

  pub count_none_to : (a b : ℕ) → a ≤ b → ((n : ℕ) → a ≤ n → n < b → test n ≡ false) → count_below test b ≡ count_below test a
  count_none_to a b le none =
      let is : a + (b - a) ≡ b = omega (arith, le) in
      subst (λ m. count_below test m ≡ count_below test a) is (count_none a (b - a) (λ n l u. none n l (omega (arith, u, is))))

module _ (w : ℕ) (ns : List ℕ) (breaks : AreBreaks w ns) where
  -- before the first breakpoint there is no address
  pub counted_none : count_below (has_address ns) (break_or_end w ns 0) ≡ 0
  unfolding count_below
  counted_none = count_none_to (has_address ns) 0 (break_or_end w ns 0) (omega arith) (λ n a b. has-before ns n (above n b))
    where
      above : (n : ℕ) → n < break_or_end w ns 0 → (k : ℕ) → k < length ns → n < get_or ns k 0
      above n b k lt =
          let at = break_here w ns breaks 0 (omega (arith, lt)) in
          elim (cases_lt 0 k) [
            | inl less ↦ (let u = breaks.rising 0 k less lt in omega (arith, u, at, b))
            | inr ge ↦ (let is : 0 ≡ k = omega (arith, ge) in let e = ap (λ j. get_or ns j 0) is in omega (arith, e, at, b))
          ]

  module _ (i : ℕ) (lt : i < length ns) where
    -- a range has all addresses from its start on
    pub counted_range : is_odd (i + 1) ≡ true → count_below (has_address ns) (break_or_end w ns (i + 1)) ≡ count_below (has_address ns) (break_or_end w ns i) + (break_or_end w ns (i + 1) - get_or ns i 0)
    counted_range odd =
        let up = break_rises w ns breaks i lt in
        subst (λ b. count_below (has_address ns) (break_or_end w ns (i + 1)) ≡ count_below (has_address ns) b + (break_or_end w ns (i + 1) - get_or ns i 0)) (sym (break_here w ns breaks i lt))
        (count_all_to (has_address ns) (get_or ns i 0) (break_or_end w ns (i + 1)) (omega (arith, up)) (λ n a b. has_between w ns breaks i n lt a b ∙ odd))

    -- between ranges there is none
    pub counted_gap : is_odd (i + 1) ≡ false → count_below (has_address ns) (break_or_end w ns (i + 1)) ≡ count_below (has_address ns) (break_or_end w ns i)
    counted_gap even =
        let up = break_rises w ns breaks i lt in
        subst (λ b. count_below (has_address ns) (break_or_end w ns (i + 1)) ≡ count_below (has_address ns) b) (sym (break_here w ns breaks i lt))
        (count_none_to (has_address ns) (get_or ns i 0) (break_or_end w ns (i + 1)) (omega (arith, up)) (λ n a b. has_between w ns breaks i n lt a b ∙ even))

-- ---- a key as a number

-- the number of the first bits, and of some more
pub number_more : (b : List Bool) (d n x : ℕ) → d + n ≤ length b → x ≡ number (take n (drop d (b ++ zeros 5))) → number (take d b) * 2 ^ n + x ≡ number (take (d + n) b)
number_more b d n x fits is =
    let window = window-inside b (zeros 5) d n fits in
    let joined : take d b ++ take n (drop d b) ≡ take (d + n) b = take_split b d n in
    ap (λ y. number (take d b) * 2 ^ n + y) (is ∙ ap number window)
    ∙ ap (λ k. number (take d b) * 2 ^ k + number (take n (drop d b))) (sym (length-window b d n fits))
    ∙ sym (number_parts (take d b) (take n (drop d b))) ∙ ap number joined
  where
    take_split : (b : List Bool) (d n : ℕ) → take d b ++ take n (drop d b) ≡ take (d + n) b
    take_split b d n = ap₂ (λ s t. s ++ t) (sym (take-take d (d + n) b (omega arith))) (sym (drop-take d n b)) ∙ take-append-drop d (take (d + n) b)

-- a step of the loop: no product or sum is too large
pub value_step : (w : ℕ) (b : List Bool) (d n value shift x : ℕ) → length b ≡ w → w ≤ 128 → d + n ≤ w → value ≡ number (take d b) → x ≡ number (take n (drop d (b ++ zeros 5))) → shift ≡ 2 ^ n
    → (value * shift < 2 ^ 128) × (value * shift + x < 2 ^ 128) × (value * shift + x ≡ number (take (d + n) b))
value_step w b d n value shift x long short fits is window by =
    let all : value * shift + x ≡ number (take (d + n) b) =
    ap₂ (λ v s. v * s + x) is by ∙ number_more b d n x (omega (arith, fits, long)) window in
    let below = number-below (d + n) (take (d + n) b) (length-take-le (d + n) b (omega (arith, fits, long))) in
    let most : 2 ^ (d + n) ≤ 2 ^ 128 = pow_mono {i = d + n} {j = 128} (omega (arith, fits, short)) in
    (omega (arith, all, below, most), omega (arith, all, below, most), all)

-- ---- the addresses of a width

-- no breakpoint is after the end of all addresses
pub break_within : (w : ℕ) (ns : List ℕ) (i : ℕ) → AreBreaks w ns → break_or_end w ns i ≤ 2 ^ w
break_within w ns i breaks = elim (cases_lt i (length ns)) [
  | inl lt ↦ (let at = break_here w ns breaks i lt in let h = breaks.within i lt in omega (arith, at, h))
  | inr ge ↦ (let at = break_past w ns breaks i ge in omega (arith, at))
]

module _ (w : ℕ) (ns : List ℕ) (breaks : AreBreaks w ns) (i total first : ℕ) (lt : i < length ns) (odd : is_odd (i + 1) ≡ true) (at : get_or ns i 0 ≡ first) (so_far : total ≡ count_below (has_address ns) (break_or_end w ns i)) where
  -- there are no more addresses below a range than numbers
  pub total_by : total ≤ first
  total_by = let m = count_most (has_address ns) (break_or_end w ns i) in let h = break_here w ns breaks i lt in omega (arith, so_far, m, h, at)

  -- a range that ends at a number
  pub total_next : (past : ℕ) → past ≡ break_or_end w ns (i + 1) → (total + (past - first) ≤ past) × (total + (past - first) ≡ count_below (has_address ns) (break_or_end w ns (i + 1)))
  total_next past is =
      let up = break_rises w ns breaks i lt in
      let counted = counted_range w ns breaks i lt odd in (
        (let by = total_by in omega (arith, by, is, up, at)),
        ap₂ (λ t d. t + d) so_far (ap₂ (λ p f. p - f) is (sym at)) ∙ sym counted,
      )

  -- a range that ends at 2^128 ends with all addresses
  pub total_last : w ≤ 128 → 2 ^ 128 ≡ break_or_end w ns (i + 1) → total + (2 ^ 128 - first) ≡ count_below (has_address ns) (2 ^ w)
  total_last short is =
      let most : 2 ^ w ≤ 2 ^ 128 = pow_mono {i = w} {j = 128} short in
      let by = break_within w ns (i + 1) breaks in
      let whole : break_or_end w ns (i + 1) ≡ 2 ^ w = omega (arith, is, by, most) in
      (total_next (2 ^ 128) is).1 ∙ ap (count_below (has_address ns)) whole
