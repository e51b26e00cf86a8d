-- The ranges with a value are exactly those of the addresses that have one, and a walk gives them one by one.
use Rattle.std.proofs.Common.{◌≡◌, ◌∙◌, zero, suc, ℕ, ◌+◌, ◌-◌, ◌^◌, ◌<◌, ◌≤◌, ◌⊎◌, Bool, false, List, [], ◌∷◌, length, get_or, drop, add-one, Option, None, Some, MatchOption, inl, inr, ap, ap₂, sym, subst, arith, refl}
use Rattle.std.proofs.Math.Seq.{drop-cons}
use Rattle.std.proofs.lemmas.Bool.{cases_lt}
use Rattle.std.proofs.lemmas.List.{drop_all}
use Rattle.std.proofs.lemmas.Option.{same_Some}
use Rattle.std.specs.List.{Contains}
use Rattle.prefix_trie_bits.specs.Model.Bits.{number}
use Rattle.prefix_trie_fib.specs.Line.{AreMerged, IsDivision, are_same, end_of, value_along}
use Rattle.prefix_trie_fib.specs.Ranges.{AreRangesOf, IsInRange, in_numbers, last_before, valued_ranges}
use Rattle.prefix_trie_fib.proofs.RangeValues.{step_in, step_out}

module _ {T : Type 0} (w : ℕ) where
  -- each range starts before those after it
  Rises : List (ℕ × Option T) → Type 0
  Rises rs = (j k : ℕ) (d : ℕ × Option T) → j < k → k < length rs → (get_or rs j d).0 < (get_or rs k d).0

  -- all ranges start after x
  Above : ℕ → List (ℕ × Option T) → Type 0
  Above x rs = (k : ℕ) (d : ℕ × Option T) → k < length rs → x < (get_or rs k d).0

  rises_tail : (r : ℕ × Option T) (rs : List (ℕ × Option T)) → Rises (r ∷ rs) → Rises rs
  unfolding Rises
  rises_tail r rs up j k d lt in_it = up (suc j) (suc k) d (omega (arith, lt)) (omega (arith, in_it))

  rises_above : (r : ℕ × Option T) (rs : List (ℕ × Option T)) → Rises (r ∷ rs) → Above r.0 rs
  unfolding Rises Above
  rises_above r rs up k d in_it = up 0 (suc k) d (omega arith) (omega (arith, in_it))

  above_tail : (x : ℕ) (r : ℕ × Option T) (rs : List (ℕ × Option T)) → Above x (r ∷ rs) → Above x rs
  unfolding Above
  above_tail x r rs above k d in_it = above (suc k) d (omega (arith, in_it))

  above_head : (x : ℕ) (r : ℕ × Option T) (rs : List (ℕ × Option T)) → Above x (r ∷ rs) → x < r.0
  unfolding Above
  above_head x r rs above = above 0 r (omega arith)

  above_last : (x : ℕ) (rs : List (ℕ × Option T)) → Above x rs → x < 2 ^ w → x ≤ last_before w rs
  above_last x [] above lt = omega (arith, lt)
  above_last x (r ∷ rs) above lt = (let h = above_head x r rs above in omega (arith, h))

  -- where ranges start after x, so do those with a value
  valued_above : (x : ℕ) (rs : List (ℕ × Option T)) → Above x rs → (k : ℕ) (d : ℕ × ℕ × T) → k < length (valued_ranges w rs) → x < (get_or (valued_ranges w rs) k d).0
  valued_above x [] above k d lt = absurd (omega (arith, lt))
  valued_above x ((first, None) ∷ rs) above k d lt = valued_above x rs (above_tail x (first, None) rs above) k d lt
  valued_above x ((first, Some v) ∷ rs) above zero d lt = above_head x (first, Some v) rs above
  valued_above x ((first, Some v) ∷ rs) above (suc k) d lt = valued_above x rs (above_tail x (first, Some v) rs above) k d (omega (arith, lt))

  -- and they start after the last address before the ranges
  valued_after : (x : ℕ) (rs : List (ℕ × Option T)) → Rises rs → Above x rs → (k : ℕ) (d : ℕ × ℕ × T) → k < length (valued_ranges w rs) → last_before w rs < (get_or (valued_ranges w rs) k d).0
  valued_after x [] up above k d lt = absurd (omega (arith, lt))
  valued_after x ((first, None) ∷ rs) up above k d lt = (let h = valued_above first rs (rises_above (first, None) rs up) k d lt in omega (arith, h))
  valued_after x ((first, Some v) ∷ rs) up above zero d lt = (let h = above_head x (first, Some v) rs above in omega (arith, h))
  valued_after x ((first, Some v) ∷ rs) up above (suc k) d lt = (let h = valued_above first rs (rises_above (first, Some v) rs up) k d (omega (arith, lt)) in omega (arith, h))

  in_order : (rs : List (ℕ × Option T)) → Rises rs → (j k : ℕ) (d : ℕ × ℕ × T) → j < k → k < length (valued_ranges w rs) → (get_or (valued_ranges w rs) j d).1 < (get_or (valued_ranges w rs) k d).0
  in_order [] up j k d lt in_it = absurd (omega (arith, in_it))
  in_order ((first, None) ∷ rs) up j k d lt in_it = in_order rs (rises_tail (first, None) rs up) j k d lt in_it
  in_order ((first, Some v) ∷ rs) up j zero d lt in_it = absurd (omega (arith, lt))
  in_order ((first, Some v) ∷ rs) up zero (suc k) d lt in_it = valued_after first rs (rises_tail (first, Some v) rs up) (rises_above (first, Some v) rs up) k d (omega (arith, in_it))
  in_order ((first, Some v) ∷ rs) up (suc j) (suc k) d lt in_it = in_order rs (rises_tail (first, Some v) rs up) j k d (omega (arith, lt)) (omega (arith, in_it))

  some_address : (rs : List (ℕ × Option T)) → Rises rs → (k : ℕ) (d : ℕ × ℕ × T) → k < length (valued_ranges w rs) → (get_or (valued_ranges w rs) k d).0 < 2 ^ w → (get_or (valued_ranges w rs) k d).0 ≤ (get_or (valued_ranges w rs) k d).1
  some_address [] up k d lt low = absurd (omega (arith, lt))
  some_address ((first, None) ∷ rs) up k d lt low = some_address rs (rises_tail (first, None) rs up) k d lt low
  some_address ((first, Some v) ∷ rs) up zero d lt low = above_last first rs (rises_above (first, Some v) rs up) low
  some_address ((first, Some v) ∷ rs) up (suc k) d lt low = some_address rs (rises_tail (first, Some v) rs up) k d (omega (arith, lt)) low

  -- before the next range the value is that of the last one
  value_before : (h : Option T) (x : ℕ) (rs : List (ℕ × Option T)) → Above x rs → (n : ℕ) → n ≤ last_before w rs → value_along h rs n ≡ h
  value_before h x [] above n le = refl
  value_before h x (r ∷ rs) above n le = step_out h r rs n (let a = above_head x r rs above in omega (arith, le, a))

  has_value : (h : Option T) (rs : List (ℕ × Option T)) → Rises rs → (r : ℕ × ℕ × T) → Contains (valued_ranges w rs) r → (n : ℕ) → IsInRange n r → value_along h rs n ≡ Some r.2
  has_value h [] up r (k, lt, is) n at = absurd (omega (arith, lt))
  has_value h ((first, None) ∷ rs) up r (k, lt, is) n at =
      let a = valued_above first rs (rises_above (first, None) rs up) k r lt in
      let e : (get_or (valued_ranges w rs) k r).0 ≡ r.0 = ap {A = ℕ × ℕ × T} (λ x. x.0) is in
      step_in h (first, None) rs n (let low = at.0 in omega (arith, a, e, low)) ∙ has_value None rs (rises_tail (first, None) rs up) r (k, lt, is) n at
  has_value h ((first, Some v) ∷ rs) up r (zero, lt, is) n at =
      let e : first ≡ r.0 = ap {A = ℕ × ℕ × T} (λ x. x.0) is in
      let l : last_before w rs ≡ r.1 = ap {A = ℕ × ℕ × T} (λ x. x.1) is in
      step_in h (first, Some v) rs n (let low = at.0 in omega (arith, e, low)) ∙ value_before (Some v) first rs (rises_above (first, Some v) rs up) n (let high = at.1 in omega (arith, l, high))
      ∙ ap {A = ℕ × ℕ × T} (λ x. Some x.2) is
  has_value h ((first, Some v) ∷ rs) up r (suc k, lt, is) n at =
      let inside : k < length (valued_ranges w rs) = omega (arith, lt) in
      let a = valued_above first rs (rises_above (first, Some v) rs up) k r inside in
      let e : (get_or (valued_ranges w rs) k r).0 ≡ r.0 = ap {A = ℕ × ℕ × T} (λ x. x.0) is in
      step_in h (first, Some v) rs n (let low = at.0 in omega (arith, a, e, low)) ∙ has_value (Some v) rs (rises_tail (first, Some v) rs up) r (k, inside, is) n at

  -- an address is in some range of a list
  IsInSome : ℕ → List (ℕ × ℕ × T) → Type 0
  IsInSome n rs = (r : ℕ × ℕ × T) × Contains rs r × IsInRange n r

  later : (n : ℕ) (r : ℕ × ℕ × T) (rs : List (ℕ × ℕ × T)) → IsInSome n rs → IsInSome n (r ∷ rs)
  unfolding IsInSome
  later n r rs (x, (k, lt, is), at) = (x, (suc k, omega (arith, lt), is), at)

  -- a value is that of the range before all, or that of a range
  before_or_in : (h : Option T) (rs : List (ℕ × Option T)) (n : ℕ) (v : T) → n < 2 ^ w → value_along h rs n ≡ Some v → ((h ≡ Some v) × (n ≤ last_before w rs)) ⊎ IsInSome n (valued_ranges w rs)
  unfolding IsInSome
  before_or_in h [] n v low is = inl (is, omega (arith, low))
  before_or_in h ((first, None) ∷ rs) n v low is = elim (cases_lt n first) [
    | inl lt ↦ inl (sym (step_out h (first, None) rs n lt) ∙ is, omega (arith, lt))
    | inr le ↦ elim (before_or_in None rs n v low (sym (step_in h (first, None) rs n le) ∙ is)) [
      | inl none ↦ absurd (let e : None ≡ Some v = none.0 in cc)
      | inr at ↦ inr at
    ]
  ]
  before_or_in h ((first, Some u) ∷ rs) n v low is = elim (cases_lt n first) [
    | inl lt ↦ inl (sym (step_out h (first, Some u) rs n lt) ∙ is, omega (arith, lt))
    | inr le ↦ elim (before_or_in (Some u) rs n v low (sym (step_in h (first, Some u) rs n le) ∙ is)) [
      | inl here ↦ inr ((first, last_before w rs, u), (0, omega arith, refl), (le, here.1))
      | inr at ↦ inr (later n (first, last_before w rs, u) (valued_ranges w rs) at)
    ]
  ]

  merged_tail : (same : T → T → Bool) (r : ℕ × Option T) (rs : List (ℕ × Option T)) → AreMerged (are_same same) (r ∷ rs) → AreMerged (are_same same) rs
  merged_tail same r rs merged k d in_it =
      let e : suc k + 1 ≡ suc (k + 1) = omega arith in
      subst (λ j. are_same same (get_or rs k d).1 (get_or (r ∷ rs) j d).1 ≡ false) e (merged (suc k) d (omega (arith, in_it)))

  -- the range after one that ends where the next one begins
  next_differs : (same : T → T → Bool) (first : ℕ) (v : T) (rs : List (ℕ × Option T)) → Rises ((first, Some v) ∷ rs) → AreMerged (are_same same) ((first, Some v) ∷ rs) → (d : ℕ × ℕ × T) → 0 < length (valued_ranges w rs)
      → last_before w rs + 1 ≡ (get_or (valued_ranges w rs) 0 d).0 → same v (get_or (valued_ranges w rs) 0 d).2 ≡ false
  next_differs same first v [] up merged d some touch = absurd (omega (arith, some))
  next_differs same first v ((next, None) ∷ rs) up merged d some touch = absurd (
      let below = above_head first (next, None) rs (rises_above (first, Some v) ((next, None) ∷ rs) up) in
      let above = valued_above next rs (rises_above (next, None) rs (rises_tail (first, Some v) ((next, None) ∷ rs) up)) 0 d some in
      omega (arith, below, above, touch))
  next_differs same first v ((next, Some u) ∷ rs) up merged d some touch = merged 0 (next, Some u) (omega arith)

  differ : (same : T → T → Bool) (rs : List (ℕ × Option T)) → Rises rs → AreMerged (are_same same) rs → (k : ℕ) (d : ℕ × ℕ × T) → suc k < length (valued_ranges w rs)
      → (get_or (valued_ranges w rs) k d).1 + 1 ≡ (get_or (valued_ranges w rs) (suc k) d).0 → same (get_or (valued_ranges w rs) k d).2 (get_or (valued_ranges w rs) (suc k) d).2 ≡ false
  differ same [] up merged k d in_it touch = absurd (omega (arith, in_it))
  differ same ((first, None) ∷ rs) up merged k d in_it touch = differ same rs (rises_tail (first, None) rs up) (merged_tail same (first, None) rs merged) k d in_it touch
  differ same ((first, Some v) ∷ rs) up merged zero d in_it touch = next_differs same first v rs up merged d (omega (arith, in_it)) touch
  differ same ((first, Some v) ∷ rs) up merged (suc k) d in_it touch = differ same rs (rises_tail (first, Some v) rs up) (merged_tail same (first, Some v) rs merged) k d (omega (arith, in_it)) touch

  -- the ranges of a division that have a value are those of the addresses that have one
  pub are_ranges : (same : T → T → Bool) (rs : List (ℕ × Option T)) → IsDivision rs → AreMerged (are_same same) rs → AreRangesOf w same (value_along None rs) (valued_ranges w rs)
  unfolding Rises IsInSome
  are_ranges same rs division merged = record {
    in_order = in_order rs division.rising;
    some = some_address rs division.rising;
    has_value = has_value None rs division.rising;
    in_range = λ n v low is. elim (before_or_in None rs n v low is) [
      | inl none ↦ absurd (let e : None ≡ Some v = none.0 in cc)
      | inr at ↦ at
    ];
    differ = λ k d in_it touch.
        let next : suc k ≡ k + 1 = omega arith in
        subst (λ j. same (get_or (valued_ranges w rs) k d).2 (get_or (valued_ranges w rs) j d).2 ≡ false) next
        (differ same rs division.rising merged k d (omega (arith, in_it)) (touch ∙ ap (λ j. (get_or (valued_ranges w rs) j d).0) (sym next)));
  }

  -- ---- one by one

  next_is : (rs : List (ℕ × Option T)) (i : ℕ) (d : ℕ × Option T) → i < length rs → drop i rs ≡ get_or rs i d ∷ drop (i + 1) rs
  next_is rs i d lt = rw add-one (drop-cons rs i d lt)

  skipped : (r : ℕ × Option T) (rs : List (ℕ × Option T)) → None ≡ r.1 → valued_ranges w (r ∷ rs) ≡ valued_ranges w rs
  skipped (first, None) rs is = refl
  skipped (first, Some v) rs is = absurd (cc)

  given : (r : ℕ × Option T) (rs : List (ℕ × Option T)) (v : T) → Some v ≡ r.1 → valued_ranges w (r ∷ rs) ≡ (r.0, last_before w rs, v) ∷ valued_ranges w rs
  given (first, None) rs v is = absurd (cc)
  given (first, Some u) rs v is = ap (λ x. (first, last_before w rs, x) ∷ valued_ranges w rs) (sym (same_Some v u is))

  -- a range without a value is left out
  pub range_skipped : (rs : List (ℕ × Option T)) (i : ℕ) → i < length rs → ((d : ℕ × Option T) → None ≡ (get_or rs i d).1) → valued_ranges w (drop i rs) ≡ valued_ranges w (drop (i + 1) rs)
  range_skipped rs i lt is = ap (valued_ranges w) (next_is rs i (0, None) lt) ∙ skipped (get_or rs i (0, None)) (drop (i + 1) rs) (is (0, None))

  last_of_rest : (rs : List (ℕ × Option T)) (j : ℕ) → j < length rs → last_before w (drop j rs) ≡ (get_or rs j (0, None)).0 - 1
  last_of_rest rs j lt = ap (last_before w) (next_is rs j (0, None) lt)

  last_of_all : (rs : List (ℕ × Option T)) (j : ℕ) → length rs ≤ j → last_before w (drop j rs) ≡ 2 ^ w - 1
  last_of_all rs j le = ap (last_before w) (drop_all j rs le)

  module _ {K : Type 0} (bits : K → List Bool) (rs : List (ℕ × Option T)) (i : ℕ) where
    last_is : (last : K) (past : Option K) → MatchOption past (i + 1 ≡ length rs) (λ k. (i + 1 < length rs) × ((d : ℕ × Option T) → number (bits k) ≡ (get_or rs (i + 1) d).0))
        → number (bits last) + 1 ≡ end_of w bits past → last_before w (drop (i + 1) rs) ≡ number (bits last)
    last_is last None all end = (let e = last_of_all rs (i + 1) (omega (arith, all)) in omega (arith, e, end))
    last_is last (Some k) more end = (let e = last_of_rest rs (i + 1) more.0 in let s = more.1 (0, None) in omega (arith, e, s, end))

    -- a range with a value is the next item
    pub range_given : (first last : K) (past : Option K) (v : T) → i < length rs → ((d : ℕ × Option T) → number (bits first) ≡ (get_or rs i d).0)
        → MatchOption past (i + 1 ≡ length rs) (λ k. (i + 1 < length rs) × ((d : ℕ × Option T) → number (bits k) ≡ (get_or rs (i + 1) d).0))
        → ((d : ℕ × Option T) → Some v ≡ (get_or rs i d).1) → number (bits last) + 1 ≡ end_of w bits past → valued_ranges w (drop i rs) ≡ in_numbers bits (first, last, v) ∷ valued_ranges w (drop (i + 1) rs)
    range_given first last past v lt starts ends is end =
        ap (valued_ranges w) (next_is rs i (0, None) lt) ∙ given (get_or rs i (0, None)) (drop (i + 1) rs) v (is (0, None))
        ∙ ap₂ (λ a b. (a, b, v) ∷ valued_ranges w (drop (i + 1) rs)) (sym (starts (0, None))) (last_is last past ends end)

  -- there are no more items than ranges
  pub valued_few : (rs : List (ℕ × Option T)) → length (valued_ranges w rs) ≤ length rs
  valued_few [] = omega arith
  valued_few ((first, None) ∷ rs) = (let h = valued_few rs in omega (arith, h))
  valued_few ((first, Some v) ∷ rs) = (let h = valued_few rs in omega (arith, h))

-- ---- the last address of a range, found by powers of two
