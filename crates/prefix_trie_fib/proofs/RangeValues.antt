-- The value of an address in a division: which range decides, and how it changes when a range is appended.
use Rattle.std.proofs.Common.{◌≡◌, ◌∙◌, zero, suc, ℕ, ◌+◌, ◌-◌, ◌<◌, ◌≤◌, Bool, false, cond, List, [], ◌∷◌, ◌++◌, length, length-append, get_or, inl, inr, ap, subst, arith, refl, leb, ap₂, sym}
use Rattle.std.proofs.lemmas.Bool.{le-leb, lt-leb, cases_lt}
use Rattle.std.proofs.lemmas.List.{get_or_append_left}
use Rattle.std.proofs.Math.Seq.{get_or-append_seam}
use Rattle.prefix_trie_fib.specs.Line.{AreMerged, IsDivision, StartBelow, value_along}
use Rattle.prefix_trie_fib.specs.Search.{IsRangeOf}

-- an item of a list does not depend on what stands for a missing one
pub get_or-any : {X : Type 0} → (xs : List X) (k : ℕ) (d e : X) → k < length xs → get_or xs k d ≡ get_or xs k e
get_or-any [] k d e lt = absurd (omega (arith, lt))
get_or-any (x ∷ xs) zero d e lt = refl
get_or-any (x ∷ xs) (suc k) d e lt = get_or-any xs k d e (omega (arith, lt))

-- an item of a list that has one
pub item_at : {X : Type 0} → (xs : List X) (k : ℕ) → k < length xs → X
item_at [] k lt = absurd (omega (arith, lt))
item_at (x ∷ xs) k lt = x

module _ {V : Type 0} where
  pub step_in : (h : V) (r : ℕ × V) (rs : List (ℕ × V)) (n : ℕ) → r.0 ≤ n → value_along h (r ∷ rs) n ≡ value_along r.1 rs n
  step_in h r rs n le = ap (λ b. cond b (value_along r.1 rs n) h) (le-leb r.0 n le)

  pub step_out : (h : V) (r : ℕ × V) (rs : List (ℕ × V)) (n : ℕ) → n < r.0 → value_along h (r ∷ rs) n ≡ h
  step_out h r rs n lt = ap (λ b. cond b (value_along r.1 rs n) h) (lt-leb r.0 n lt)

  -- a range that starts after n does not matter
  pub pushed_above : (h : V) (rs : List (ℕ × V)) (r : ℕ × V) (n : ℕ) → n < r.0 → value_along h (rs ++ r ∷ []) n ≡ value_along h rs n
  pushed_above h [] r n lt = step_out h r [] n lt
  pushed_above h (x ∷ rs) r n lt = ap (λ v. cond (leb x.0 n) v h) (pushed_above x.1 rs r n lt)

  -- the last of ranges that all start by n decides
  pub pushed_last : (h : V) (rs : List (ℕ × V)) (r : ℕ × V) (n : ℕ) → ((k : ℕ) (d : ℕ × V) → k < length rs → (get_or rs k d).0 ≤ n) → r.0 ≤ n → value_along h (rs ++ r ∷ []) n ≡ r.1
  pushed_last h [] r n all le = step_in h r [] n le
  pushed_last h (x ∷ rs) r n all le =
      step_in h x (rs ++ r ∷ []) n (all 0 x (omega arith)) ∙ pushed_last x.1 rs r n (λ k d lt. all (suc k) d (omega arith)) le

  -- range i starts by n, and the one after it does not
  pub found_at : (h : V) (rs : List (ℕ × V)) (i n : ℕ) (d : ℕ × V) → i < length rs → ((k : ℕ) → k ≤ i → (get_or rs k d).0 ≤ n) → (suc i < length rs → n < (get_or rs (suc i) d).0)
      → value_along h rs n ≡ (get_or rs i d).1
  found_at h [] i n d lt le gt = absurd (omega (arith, lt))
  found_at h (x ∷ []) zero n d lt le gt = step_in h x [] n (le 0 (omega arith))
  found_at h (x ∷ y ∷ rs) zero n d lt le gt = step_in h x (y ∷ rs) n (le 0 (omega arith)) ∙ step_out x.1 y rs n (gt (omega arith))
  found_at h (x ∷ rs) (suc i) n d lt le gt =
      step_in h x rs n (le 0 (omega arith)) ∙ found_at x.1 rs i n d (omega (arith, lt)) (λ k in_it. le (suc k) (omega arith)) (λ more. gt (omega (arith, more)))

  -- the range of an address has its value
  pub value_of_range : (rs : List (ℕ × V)) → IsDivision rs → (h : V) (i n : ℕ) (d : ℕ × V) → IsRangeOf rs i n → value_along h rs n ≡ (get_or rs i d).1
  value_of_range rs division h i n d range =
      found_at h rs i n d range.starts.inside (λ k le. starts k le)
      (λ more. subst (λ j. j < length rs → n < (get_or rs j d).0) (let e : i + 1 ≡ suc i = omega arith in e) (range.ends d) more)
    where
      starts : (k : ℕ) → k ≤ i → (get_or rs k d).0 ≤ n
      starts k le = elim (cases_lt k i) [
        | inl before ↦ omega (arith, division.rising k i d before range.starts.inside, range.starts.by d)
        | inr at ↦ let e : k ≡ i = omega (arith, le, at) in omega (arith, ap (λ j. (get_or rs j d).0) e, range.starts.by d)
      ]

  -- a range that starts after n, and all after it
  pub above_middle : (rs : List (ℕ × V)) → IsDivision rs → (n middle : ℕ) → ((d : ℕ × V) → n < (get_or rs middle d).0) → (k : ℕ) (d : ℕ × V) → middle ≤ k → k < length rs → n < (get_or rs k d).0
  above_middle rs division n middle lt k d le in_it = elim (cases_lt middle k) [
    | inl more ↦ let l = lt d in let u = division.rising middle k d more in_it in omega (arith, l, u)
    | inr at ↦ let e : middle ≡ k = omega (arith, le, at) in subst (λ j. n < (get_or rs j d).0) e (lt d)
  ]

  -- ---- one more range

  module _ (rs : List (ℕ × V)) (r : ℕ × V) where
    at_old : (k : ℕ) (d : ℕ × V) → k < length rs → (get_or (rs ++ r ∷ []) k d).0 ≡ (get_or rs k d).0
    at_old k d lt = ap {A = ℕ × V} (λ x. x.0) (get_or_append_left rs (r ∷ []) d k lt)

    at_new : (k : ℕ) (d : ℕ × V) → k ≡ length rs → (get_or (rs ++ r ∷ []) k d).0 ≡ r.0
    at_new k d is = ap (λ j. (get_or (rs ++ r ∷ []) j d).0) is ∙ ap {A = ℕ × V} (λ x. x.0) (get_or-append_seam rs r [] d)

    longer : length (rs ++ r ∷ []) ≡ length rs + 1
    longer = length-append rs (r ∷ [])

    -- the first range starts at 0
    pub first_pushed : ((d : ℕ × V) → 0 < length rs → (get_or rs 0 d).0 ≡ 0) → (length rs ≡ 0 → r.0 ≡ 0) → (d : ℕ × V) → (get_or (rs ++ r ∷ []) 0 d).0 ≡ 0
    first_pushed first alone d = elim (cases_lt 0 (length rs)) [
      | inl old ↦ at_old 0 d old ∙ first d old
      | inr new ↦ (let is : 0 ≡ length rs = omega (arith, new) in at_new 0 d is ∙ alone (sym is))
    ]

    -- it starts after those before it
    pub rising_pushed : ((j k : ℕ) (d : ℕ × V) → j < k → k < length rs → (get_or rs j d).0 < (get_or rs k d).0) → StartBelow r.0 rs
        → (j k : ℕ) (d : ℕ × V) → j < k → k < length (rs ++ r ∷ []) → (get_or (rs ++ r ∷ []) j d).0 < (get_or (rs ++ r ∷ []) k d).0
    rising_pushed rising below j k d lt in_it = elim (cases_lt k (length rs)) [
      | inl old ↦ omega (arith, at_old j d (omega (arith, lt, old)), at_old k d old, rising j k d lt old)
      | inr new ↦
          let is : k ≡ length rs = omega (arith, new, in_it, longer) in
          let before : j < length rs = omega (arith, lt, is) in
          omega (arith, at_old j d before, at_new k d is, below j d before)
    ]

  -- a range whose value is not that of the last one
  pub merged_pushed : (same : V → V → Bool) (rs : List (ℕ × V)) (r : ℕ × V) → AreMerged same rs → ((d : ℕ × V) → 0 < length rs → same (get_or rs (length rs - 1) d).1 r.1 ≡ false)
      → AreMerged same (rs ++ r ∷ [])
  merged_pushed same rs r merged differs k d in_it =
      let longer : length (rs ++ r ∷ []) ≡ length rs + 1 = length-append rs (r ∷ []) in
      let k_in : k < length rs = omega (arith, in_it, longer) in
      elim (cases_lt (k + 1) (length rs)) [
        | inl old ↦
            ap (λ x. same x.1 (get_or (rs ++ r ∷ []) (k + 1) d).1) (get_or_append_left rs (r ∷ []) d k k_in)
            ∙ ap (λ x. same (get_or rs k d).1 x.1) (get_or_append_left rs (r ∷ []) d (k + 1) old) ∙ merged k d old
        | inr new ↦
            let is : k + 1 ≡ length rs = omega (arith, k_in, new) in
            let at : k ≡ length rs - 1 = omega (arith, is) in
            ap (λ x. same x.1 (get_or (rs ++ r ∷ []) (k + 1) d).1) (get_or_append_left rs (r ∷ []) d k k_in)
            ∙ ap (λ j. same (get_or rs k d).1 (get_or (rs ++ r ∷ []) j d).1) is
            ∙ ap (λ x. same (get_or rs k d).1 x.1) (get_or-append_seam rs r [] d)
            ∙ ap (λ j. same (get_or rs j d).1 r.1) at ∙ differs d (omega (arith, k_in))
      ]

  -- one range alone is a division if it starts at 0
  pub single : (rs : List (ℕ × V)) (v : V) → IsDivision rs → length rs ≡ 1 → ((d : ℕ × V) → v ≡ (get_or rs 0 d).1) → rs ≡ (0, v) ∷ []
  single [] v division long is = absurd (omega (arith, long))
  single (x ∷ []) v division long is = ap (λ r. r ∷ []) (ap₂ {A = ℕ} {B = V} (λ a b. (a, b)) (division.first x) (sym (is x)))
  single (x ∷ y ∷ rs) v division long is = absurd (omega (arith, long))

  -- an address is in one range only
  pub one_range : (rs : List (ℕ × V)) → IsDivision rs → (d : ℕ × V) (i j n : ℕ) → IsRangeOf rs i n → IsRangeOf rs j n → i ≡ j
  one_range rs division d i j n a b = elim (cases_lt i j) [
    | inl before ↦ absurd (not_after i j a b before)
    | inr least ↦ elim (cases_lt j i) [
      | inl after ↦ absurd (not_after j i b a after)
      | inr at ↦ omega (arith, least, at)
    ]
  ]
    where
      not_after : (i j : ℕ) → IsRangeOf rs i n → IsRangeOf rs j n → i < j → ⊥
      not_after i j a b before =
          let starts = b.starts.by d in
          let ends = a.ends d (omega (arith, before, b.starts.inside)) in
          elim (cases_lt (i + 1) j) [
            | inl more ↦ (let u = division.rising (i + 1) j d more b.starts.inside in omega (arith, starts, ends, u))
            | inr at ↦ (let e : i + 1 ≡ j = omega (arith, before, at) in omega (arith, starts, ends, ap (λ k. (get_or rs k d).0) e))
          ]
