-- The first network of a length, within another one, that has no address of a set: the addresses from one on that a set does not have.
use Rattle.std.proofs.Common.{◌≡◌, ◌∙◌, ℕ, zero, suc, ◌+◌, ◌-◌, ◌^◌, ◌<◌, ◌≤◌, ◌&&◌, Bool, true, false, not, cond, leb, List, [], ◌∷◌, ◌++◌, length, drop, get_or, inl, inr, ap, sym, subst, arith, refl}
use Rattle.std.proofs.lemmas.Bool.{and_from, and_parts, cases_lt, le-leb, leb-true, lt-leb}
use Rattle.std.proofs.lemmas.List.{drop-map, get_or-drop, length-drop}
use Rattle.prefix_trie_bits.specs.Begins.{begins-append, begins-length, begins-linear, begins-trans}
use Rattle.prefix_trie_bits.specs.Model.Bits.{begins, number, zeros}
use Rattle.prefix_trie_bits.specs.Windows.{length-filled}
use Rattle.address_ranges.specs.Breaks.{AreBreaks, AreRising, IsRank, has_address, is_odd, numbers}
use Rattle.address_ranges.specs.Networks.{IsFree, IsInside, first_address, past_address}
use Rattle.address_ranges.specs.Walks.{HasNoneOfLength, ReturnsFirst}
use Rattle.address_ranges.proofs.Addresses.{begins_within, within_begins}
use Rattle.address_ranges.proofs.Blocks.{some_address}
use Rattle.address_ranges.proofs.Breaks.{from_first, has-before, odd-next, before_first}
use Rattle.address_ranges.proofs.NetworkWalks.{and_true}

-- ---- the breakpoints after an address

flip : (odd h : Bool) → not (cond odd (not h) h) ≡ cond (not odd) (not h) h
flip true true = refl
flip true false = refl
flip false true = refl
flip false false = refl

-- from the address on, the number of breakpoints before says whether membership is turned
from_rank : (ns : List ℕ) (from rank : ℕ) → IsRank ns from rank → (n : ℕ) → from ≤ n
    → has_address ns n ≡ cond (is_odd rank) (not (has_address (drop rank ns) n)) (has_address (drop rank ns) n)
from_rank ns from zero is n le = refl
from_rank [] from (suc rank) is n le = absurd (let h = is.inside in omega (arith, h))
from_rank (b ∷ ns) from (suc rank) is n le =
    from_first b ns n (let h = is.below 0 (omega arith) in omega (arith, h, le))
    ∙ ap not (from_rank ns from rank (record {
      inside = (let h = is.inside in omega (arith, h));
      below = λ k lt. is.below (suc k) (omega (arith, lt));
      above = λ k le lt. is.above (suc k) (omega (arith, le)) (omega (arith, lt));
    }) n le)
    ∙ flip (is_odd rank) (has_address (drop rank ns) n)
    ∙ ap (λ odd. cond odd (not (has_address (drop rank ns) n)) (has_address (drop rank ns) n)) (sym (odd-next rank))

module _ (w : ℕ) (ns : List ℕ) (from rank : ℕ) (are : AreBreaks w ns) (is : IsRank ns from rank) where
  at : (k : ℕ) → get_or (drop rank ns) k 0 ≡ get_or ns (rank + k) 0
  at k = get_or-drop rank ns k 0

  long : length (drop rank ns) ≡ length ns - rank
  long = length-drop rank ns

  above : (k : ℕ) → k < length (drop rank ns) → from < get_or (drop rank ns) k 0
  above k lt = (let h = is.above (rank + k) (omega arith) (omega (arith, lt, long)) in let e = at k in omega (arith, h, e))

  rest_rising : AreRising (drop rank ns)
  rest_rising j k lt in_it = (let h = are.rising (rank + j) (rank + k) (omega (arith, lt)) (omega (arith, in_it, long)) in let a = at j in let b = at k in omega (arith, h, a, b))

  rest_within : (k : ℕ) → k < length (drop rank ns) → get_or (drop rank ns) k 0 < 2 ^ w
  rest_within k lt = (let h = are.within (rank + k) (omega (arith, lt, long)) in let a = at k in omega (arith, h, a))

  -- they are breakpoints, also with the address before them
  rest_breaks : AreBreaks w (drop rank ns)
  rest_breaks = record { rising = rest_rising; within = rest_within }

  with_rising : AreRising (from ∷ drop rank ns)
  with_rising zero zero lt in_it = absurd (omega (arith, lt))
  with_rising zero (suc k) lt in_it = above k (omega (arith, in_it))
  with_rising (suc j) zero lt in_it = absurd (omega (arith, lt))
  with_rising (suc j) (suc k) lt in_it = rest_rising j k (omega (arith, lt)) (omega (arith, in_it))

  with_breaks : from < 2 ^ w → AreBreaks w (from ∷ drop rank ns)
  with_breaks fits = record { rising = with_rising; within = within }
    where
      within : (k : ℕ) → k < length (from ∷ drop rank ns) → get_or (from ∷ drop rank ns) k 0 < 2 ^ w
      within zero lt = fits
      within (suc k) lt = rest_within k (omega (arith, lt))

  -- an address that the set has is a breakpoint of the others
  odd_is : is_odd rank ≡ true → (n : ℕ) → has_address (drop rank ns) n ≡ (not (has_address ns n) && leb from n)
  odd_is odd n = elim (cases_lt n from) [
    | inl lt ↦ has-before (drop rank ns) n (λ k in_it. (let h = above k in_it in omega (arith, h, lt))) ∙ sym (ap (λ b. not (has_address ns n) && b) (lt-leb from n lt) ∙ off (not (has_address ns n)))
    | inr le ↦
        twice (has_address (drop rank ns) n)
        ∙ ap not (sym (from_rank ns from rank is n le ∙ ap (λ o. cond o (not (has_address (drop rank ns) n)) (has_address (drop rank ns) n)) odd))
        ∙ on (not (has_address ns n)) n le
  ]
    where
      off : (b : Bool) → (b && false) ≡ false
      off true = refl
      off false = refl

      twice : (h : Bool) → h ≡ not (not h)
      twice true = refl
      twice false = refl

      on : (b : Bool) (n : ℕ) → from ≤ n → b ≡ (b && leb from n)
      on b n le = and_true b ∙ ap (λ c. b && c) (sym (le-leb from n le))

  -- otherwise the others begin there
  even_is : is_odd rank ≡ false → (n : ℕ) → has_address (from ∷ drop rank ns) n ≡ (not (has_address ns n) && leb from n)
  even_is even n = elim (cases_lt n from) [
    | inl lt ↦ before_first from (drop rank ns) n with_rising lt ∙ sym (ap (λ b. not (has_address ns n) && b) (lt-leb from n lt) ∙ off (not (has_address ns n)))
    | inr le ↦
        from_first from (drop rank ns) n le
        ∙ ap not (sym (from_rank ns from rank is n le ∙ ap (λ o. cond o (not (has_address (drop rank ns) n)) (has_address (drop rank ns) n)) even))
        ∙ and_true (not (has_address ns n)) ∙ ap (λ c. not (has_address ns n) && c) (sym (le-leb from n le))
  ]
    where
      off : (b : Bool) → (b && false) ≡ false
      off true = refl
      off false = refl

-- the same of keys
module _ {K : Type 0} (bits : K → List Bool) (w : ℕ) (keys : List K) (from rank : ℕ) (are : AreBreaks w (numbers bits keys)) (is : IsRank (numbers bits keys) from rank) where
  pub rest_numbers : numbers bits (drop rank keys) ≡ drop rank (numbers bits keys)
  rest_numbers = sym (drop-map (λ k. number (bits k)) rank keys)

  pub breaks_from : AreBreaks w (numbers bits (drop rank keys))
  breaks_from = subst (AreBreaks w) (sym rest_numbers) (rest_breaks w (numbers bits keys) from rank are is)

  pub breaks_with : from < 2 ^ w → AreBreaks w (from ∷ numbers bits (drop rank keys))
  breaks_with fits = subst (λ ns. AreBreaks w (from ∷ ns)) (sym rest_numbers) (with_breaks w (numbers bits keys) from rank are is fits)

  pub others_odd : is_odd rank ≡ true → (n : ℕ) → has_address (numbers bits (drop rank keys)) n ≡ (not (has_address (numbers bits keys) n) && leb from n)
  others_odd odd n = ap (λ ns. has_address ns n) rest_numbers ∙ odd_is w (numbers bits keys) from rank are is odd n

  pub others_even : is_odd rank ≡ false → (n : ℕ) → has_address (from ∷ numbers bits (drop rank keys)) n ≡ (not (has_address (numbers bits keys) n) && leb from n)
  others_even even n = ap (λ ns. has_address (from ∷ ns) n) rest_numbers ∙ even_is w (numbers bits keys) from rank are is even n

-- ---- networks within another one

-- a network within another one begins among its addresses
within_at : (w : ℕ) (s t : List Bool) → length t ≤ w → begins s t ≡ true → (first_address w s ≤ first_address w t) × (first_address w t < past_address w s)
within_at w s t short b = begins_within w s (t ++ zeros (w - length t)) (length-filled w t short) (begins-trans s t (t ++ zeros (w - length t)) b (begins-append t (zeros (w - length t))))

-- and conversely, if it is not larger
at_within : (w : ℕ) (s t : List Bool) → length s ≤ length t → length t ≤ w → first_address w s ≤ first_address w t → first_address w t < past_address w s → begins s t ≡ true
at_within w s t le short lo hi =
    begins-linear s t (t ++ zeros (w - length t)) (within_begins w s (t ++ zeros (w - length t)) (length-filled w t short) (omega (arith, le, short)) lo hi) (begins-append t (zeros (w - length t))) le

-- the addresses that are left are those from the first one of a network on that a set does not have
module _ (w len : ℕ) (ns left after : List ℕ) (s : List Bool) (first : ℕ) (short : len ≤ w) (begin : first ≡ first_address w s) (is : (n : ℕ) → has_address left n ≡ (not (has_address ns n) && leb first n)) where
  is_left : (t : List Bool) → length t ≡ len → begins s t ≡ true → IsFree w ns t → IsInside w (has_address left) t
  is_left t long b free n lo hi =
      let at = within_at w s t (omega (arith, long, short)) b in
      is n ∙ and_from (not (has_address ns n)) (leb first n) (free n lo hi) (le-leb first n (let a = at.0 in omega (arith, a, lo, begin)))

  pub none_within : HasNoneOfLength w len left → (t : List Bool) → length t ≡ len → begins s t ≡ true → IsFree w ns t → ⊥
  none_within none t long b free = none t long (is_left t long b free)

  module _ (p : List Bool) (r : ReturnsFirst w len left p after) where
    pub found_free : IsFree w ns p
    found_free n lo hi = (and_parts (not (has_address ns n)) (leb first n) (sym (is n) ∙ r.inside n lo hi)).0

    pub found_first : (t : List Bool) → length t ≡ len → begins s t ≡ true → IsFree w ns t → first_address w p ≤ first_address w t
    found_first t long b free = r.first t long (is_left t long b free)

    starts : first ≤ first_address w p
    starts = let some = some_address w p in leb-true first (first_address w p) (and_parts (not (has_address ns (first_address w p))) (leb first (first_address w p)) (sym (is (first_address w p)) ∙ r.inside (first_address w p) (omega arith) some)).1

    -- if the first one is not within the network, none is
    pub none_after : begins s p ≡ false → (t : List Bool) → length t ≡ len → begins s t ≡ true → IsFree w ns t → ⊥
    none_after out t long b free =
        let le = found_first t long b free in
        let at = within_at w s t (omega (arith, long, short)) b in
        let size = begins-length s t b in
        let l = r.long in
        let e : begins s p ≡ true = at_within w s p (omega (arith, size, long, l)) (omega (arith, l, short)) (omega (arith, starts, begin)) (let a = at.1 in omega (arith, le, a)) in
        let h : true ≡ false = sym e ∙ out in
        cc
