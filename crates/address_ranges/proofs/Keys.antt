-- Breakpoints as keys: their numbers.
use Rattle.std.proofs.Common.{zero, suc, refl, None, Some, Ordering, Less, Equal, Greater, subst, ◌≡◌, ◌∙◌, ℕ, ◌<◌, ◌≤◌, Bool, true, false, leb, not, List, [], ◌∷◌, drop, length, get_or, sym, ap, inl, inr, arith}
use Rattle.std.proofs.lemmas.Bool.{cases_lt, leb-true, leb-false}
use Rattle.std.proofs.lemmas.List.{get_or-map, length-map}
use Rattle.std.specs.List.Sorted.{IsNonDecreasingBy, IsPartitionPoint}
use Rattle.prefix_trie_bits.specs.Model.Bits.{number}
use Rattle.address_ranges.specs.Breaks.{AreBreaks, AreRising, IsRank, StartsAtZero, has_address, numbers}
use Rattle.address_ranges.proofs.Breaks.{toggled_off, toggled_on}
use Rattle.std.specs.Bool.{MatchBool}
use Rattle.std.specs.Ordering.{MatchOrdering, is_eq, nat_cmp}
use Rattle.std.specs.Cmp.{ranks}
use Rattle.std.specs.List.{slice_get}

module _ {K : Type 0} (bits : K → List Bool) (keys : List K) where
  -- the number at a place is that of the key there
  pub number_at : (k : ℕ) (d : K) → k < length keys → get_or (numbers bits keys) k 0 ≡ number (bits (get_or keys k d))
  number_at k d lt = get_or-map (λ x. number (bits x)) keys k d 0 lt

  pub as_many : length (numbers bits keys) ≡ length keys
  as_many = length-map keys (λ x. number (bits x))

  pub not_falling : AreRising (numbers bits keys) → IsNonDecreasingBy (λ k. number (bits k)) keys
  not_falling up j k d le lt = elim (cases_lt j k) [
    | inl less ↦ (let u = up j k less (omega (arith, lt, as_many)) in let a = number_at j d (omega (arith, le, lt)) in let b = number_at k d lt in omega (arith, u, a, b))
    | inr ge ↦ (let e : j ≡ k = omega (arith, ge, le) in let f = ap (λ i. number (bits (get_or keys i d))) e in omega (arith, f))
  ]

  -- a partition by `at most n` is the rank of n
  pub rank_from : (n rank : ℕ) (d : K) → rank ≤ length keys → IsPartitionPoint (λ k. leb (number (bits k)) n ≡ true) (λ k. leb (number (bits k)) n ≡ false) keys rank → IsRank (numbers bits keys) n rank
  rank_from n rank d inside parted = record {
    inside = omega (arith, inside, as_many);
    below = λ k lt. (let a = number_at k d (omega (arith, lt, inside)) in let h = leb-true _ _ (parted.0 k d (omega arith) lt) in omega (arith, a, h));
    above = λ k le lt. (let in_it : k < length keys = omega (arith, lt, as_many) in let a = number_at k d in_it in let h = leb-false _ _ (parted.1 k d le in_it) in omega (arith, a, h));
  }

-- without the first key, which is 0
pub without_zero : {K : Type 0} (bits : K → List Bool) (w : ℕ) (keys : List K) → StartsAtZero (numbers bits keys) → AreBreaks w (numbers bits keys)
    → AreBreaks w (numbers bits (drop 1 keys)) × ((n : ℕ) → has_address (numbers bits (drop 1 keys)) n ≡ not (has_address (numbers bits keys) n))
without_zero bits w [] is breaks = absurd is
without_zero bits w (k ∷ keys) is breaks = toggled_off w (number (bits k)) (numbers bits keys) is breaks

zero_by : (o : Ordering) (a b : ℕ) → MatchOrdering o (a < b) (a ≡ b) (b < a) → b ≡ 0 → MatchBool (is_eq o) (a ≡ 0) (0 < a)
zero_by Less a b h z = absurd (omega (arith, h, z))
zero_by Equal a b h z = h ∙ z
zero_by Greater a b h z = omega (arith, h, z)

weaker : (b : Bool) (P Q R : Type 0) → (Q → R) → MatchBool b P Q → MatchBool b P R
weaker true P Q R f h = h
weaker false P Q R f h = f h

-- the first key is 0, or it is not
pub first_zero : {K : Type 0} (bits : K → List Bool) (keys : List K) (k : K) (b : Bool) (at : ℕ) → Some k ≡ slice_get keys 0 → at ≡ 0 → b ≡ is_eq (nat_cmp (number (bits k)) at)
    → MatchBool b (StartsAtZero (numbers bits keys)) (0 < length keys → 0 < get_or (numbers bits keys) 0 0)
first_zero bits [] k b at is z e = absurd (let h : Some k ≡ None = is in cc)
first_zero bits (x ∷ keys) k b at is z e =
    let same : k ≡ x = (let h : Some k ≡ Some x = is in cc) in
    subst (λ x. MatchBool b (number (bits x) ≡ 0) (0 < length (k ∷ keys) → 0 < number (bits x))) same
    (subst (λ c. MatchBool c (number (bits k) ≡ 0) (0 < length (k ∷ keys) → 0 < number (bits k))) (sym e)
    (weaker (is_eq (nat_cmp (number (bits k)) at)) (number (bits k) ≡ 0) (0 < number (bits k)) (0 < length (k ∷ keys) → 0 < number (bits k)) (λ lt _. lt) (zero_by (nat_cmp (number (bits k)) at) (number (bits k)) at (ranks (number (bits k)) at) z)))

-- 0 and the other breakpoints
pub with_zero : {K : Type 0} (bits : K → List Bool) (w : ℕ) (keys out : List K) → numbers bits out ≡ 0 ∷ numbers bits keys → (0 < length keys → 0 < get_or (numbers bits keys) 0 0) → AreBreaks w (numbers bits keys)
    → AreBreaks w (numbers bits out) × ((n : ℕ) → has_address (numbers bits out) n ≡ not (has_address (numbers bits keys) n))
with_zero bits w keys out is above breaks =
    subst (λ ns. AreBreaks w ns × ((n : ℕ) → has_address ns n ≡ not (has_address (numbers bits keys) n))) (sym is)
    (toggled_on w (numbers bits keys) (λ lt. above (omega (arith, lt, as_many bits keys))) breaks)

-- an item of a list does not depend on what stands for a missing one
pub get_or-any : {X : Type 0} → (xs : List X) (k : ℕ) (d e : X) → k < length xs → get_or xs k d ≡ get_or xs k e
get_or-any [] k d e lt = absurd (omega (arith, lt))
get_or-any (x ∷ xs) zero d e lt = refl
get_or-any (x ∷ xs) (suc k) d e lt = get_or-any xs k d e (omega (arith, lt))
