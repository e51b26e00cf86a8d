-- The fewest networks of the addresses that pass a test, from address to address.
use Rattle.std.proofs.Common.{suc, not, cond, ◌≡◌, ◌∙◌, ℕ, ◌+◌, ◌-◌, ◌^◌, ◌<◌, ◌≤◌, ◌&&◌, Bool, true, false, List, [], ◌∷◌, ◌++◌, length, length-append, get_or, inl, inr, leb, refl, ap, sym, subst, arith}
use Rattle.std.proofs.Math.Seq.{get_or-append_seam}
use Rattle.std.proofs.lemmas.Bool.{cases_lt, le-leb, le-ltb, lt-leb, lt-ltb}
use Rattle.std.proofs.lemmas.List.{get_or_append_left}
use Rattle.std.proofs.lemmas.List.Elements.{Contains-push, Contains-push_cases, Contains-append_left}
use Rattle.std.specs.List.{Contains}
use Rattle.address_ranges.specs.Networks.{AreFewestUpTo, AreInOrder, IsBlock, IsInside, break_or_end, first_address, is_between, past_address}
use Rattle.address_ranges.specs.Breaks.{AreBreaks, has_address, is_odd}
use Rattle.address_ranges.proofs.Breaks.{has-rank, odd-next}
use Rattle.address_ranges.proofs.Keys.{get_or-any}
use Rattle.address_ranges.proofs.Blocks.{block_of_network, nested, past_within, some_address}

pub and_false : (b : Bool) → (b && false) ≡ false
and_false true = refl
and_false false = refl

-- a network after the others is in order
pub in_order_push : (w : ℕ) (ss : List (List Bool)) (s : List Bool) (at : ℕ) → AreInOrder w ss → ((t : List Bool) → Contains ss t → past_address w t ≤ at) → at ≤ first_address w s → AreInOrder w (ss ++ s ∷ [])
in_order_push w ss s at order before here j k lt in_it =
    let longer : length (ss ++ s ∷ []) ≡ length ss + 1 = length-append ss (s ∷ []) in
    elim (cases_lt k (length ss)) [
      | inl old ↦
          let a = get_or_append_left ss (s ∷ []) [] j (omega (arith, lt, old)) in
          let b = get_or_append_left ss (s ∷ []) [] k old in
          let u = order j k lt old in
          let fb = ap (first_address w) b in
          let pa = ap (past_address w) a in
          omega (arith, u, fb, pa)
      | inr new ↦
          let is : k ≡ length ss = omega (arith, new, in_it, longer) in
          let inside : j < length ss = omega (arith, lt, is) in
          let pa = ap (past_address w) (get_or_append_left ss (s ∷ []) [] j inside) in
          let fb = ap (first_address w) (ap (λ i. get_or (ss ++ s ∷ []) i []) is ∙ get_or-append_seam ss s [] []) in
          let b = before (get_or ss j []) (j, inside, get_or-any ss j (get_or ss j []) [] inside) in
          omega (arith, pa, fb, b, here)
    ]

-- below address 0 there is none
pub fewest_none : (w : ℕ) (test : ℕ → Bool) → AreFewestUpTo w test 0 []
fewest_none w test = record {
  short = λ s (k, lt, is). absurd (omega (arith, lt));
  inside = λ s (k, lt, is). absurd (omega (arith, lt));
  all = λ n lt h. absurd (omega (arith, lt));
  in_order = λ j k lt in_it. absurd (omega (arith, in_it));
  before = λ s (k, lt, is). absurd (omega (arith, lt));
  largest = λ s t (k, lt, is). absurd (omega (arith, lt));
  ends = λ t short inside lt. absurd (omega (arith, lt));
}

module _ (w : ℕ) (test : ℕ → Bool) (at : ℕ) (ss : List (List Bool)) (so_far : AreFewestUpTo w test at ss) where
  -- addresses that do not pass need no network
  pub fewest_skipped : (to : ℕ) → at ≤ to → ((n : ℕ) → at ≤ n → n < to → test n ≡ false) → AreFewestUpTo w test to ss
  fewest_skipped to le none = record {
    short = so_far.short;
    inside = so_far.inside;
    all = λ n lt h. elim (cases_lt n at) [
      | inl old ↦ so_far.all n old h
      | inr new ↦ absurd (let e = none n new lt in cc)
    ];
    in_order = so_far.in_order;
    before = λ s has. let b = so_far.before s has in omega (arith, b, le);
    largest = so_far.largest;
    ends = λ t short inside lt. elim (cases_lt (first_address w t) at) [
      | inl old ↦ (let b = so_far.ends t short inside old in omega (arith, b, le))
      | inr new ↦ absurd (let e = none (first_address w t) new lt in let h = inside (first_address w t) (omega arith) (some_address w t) in cc)
    ];
  }

  module _ (s : List Bool) (short : length s ≤ w) (here : first_address w s ≡ at) (inside : IsInside w test s) (most : (t : List Bool) → length t ≤ w → IsInside w test t → first_address w t ≡ at → length s ≤ length t) where
    later : at ≤ past_address w s
    later = let p = some_address w s in omega (arith, p, here)

    in_order : AreInOrder w (ss ++ s ∷ [])
    in_order = in_order_push w ss s at so_far.in_order so_far.before (omega (arith, here))

    ends : (t : List Bool) → length t ≤ w → IsInside w test t → first_address w t < past_address w s → past_address w t ≤ past_address w s
    ends t fits all lt = elim (cases_lt (first_address w t) at) [
      | inl old ↦ (let b = so_far.ends t fits all old in omega (arith, b, later))
      | inr new ↦ elim (cases_lt (length t) (length s)) [
        | inl larger ↦ absurd (
            let lies = nested w t s (omega (arith, larger)) short (first_address w t) (omega arith) (some_address w t) (omega (arith, new, here)) lt in
            let l = most t fits all (omega (arith, new, here, lies.0)) in
            omega (arith, l, larger))
        | inr smaller ↦ (nested w s t smaller fits (first_address w t) (omega (arith, new, here)) lt (omega arith) (some_address w t)).1
      ]
    ]

    -- the largest network at an address is the next one
    pub fewest_pushed : AreFewestUpTo w test (past_address w s) (ss ++ s ∷ [])
    fewest_pushed = record {
      short = λ u has. elim (Contains-push_cases ss s u has) [
        | inl old ↦ so_far.short u old
        | inr is ↦ subst (λ v. length v ≤ w) is short
      ];
      inside = λ u has. elim (Contains-push_cases ss s u has) [
        | inl old ↦ so_far.inside u old
        | inr is ↦ subst (IsInside w test) is inside
      ];
      all = λ n lt h. elim (cases_lt n at) [
        | inl old ↦ (let (u, has, a, b) = so_far.all n old h in (u, Contains-append_left ss (s ∷ []) u has, a, b))
        | inr new ↦ (s, Contains-push ss s, omega (arith, new, here), lt)
      ];
      in_order = in_order;
      before = λ u has. elim (Contains-push_cases ss s u has) [
        | inl old ↦ (let b = so_far.before u old in omega (arith, b, later))
        | inr is ↦ subst (λ v. past_address w v ≤ past_address w s) is (omega arith)
      ];
      largest = λ u t has fits all a b. elim (Contains-push_cases ss s u has) [
        | inl old ↦ so_far.largest u t old fits all a b
        | inr is ↦
            let a' : first_address w t ≤ at = subst (λ n. first_address w t ≤ n) here (subst (λ v. first_address w t ≤ first_address w v) (sym is) a) in
            let b' : at < past_address w t = subst (λ n. n < past_address w t) here (subst (λ v. first_address w v < past_address w t) (sym is) b) in
            subst (λ v. length v ≤ length t) is (elim (cases_lt (first_address w t) at) [
              | inl old ↦ absurd (let e = so_far.ends t fits all old in omega (arith, e, b'))
              | inr new ↦ most t fits all (omega (arith, new, a'))
            ])
      ];
      ends = ends;
    }

-- the largest block that ends by the end of a range is the largest network of addresses that pass
pub most_at : (w : ℕ) (test : ℕ → Bool) (at len end : ℕ) → ((k : ℕ) → k < len → IsBlock w at k end → ⊥) → (end < 2 ^ w → test end ≡ false) → at < end
    → (t : List Bool) → length t ≤ w → IsInside w test t → first_address w t ≡ at → len ≤ length t
most_at w test at len end none out lt t short inside here = elim (cases_lt (length t) len) [
  | inl larger ↦ absurd (none (length t) larger (subst (λ n. IsBlock w n (length t) end) here (block_of_network w end t by)))
  | inr le ↦ le
]
  where
    by : past_address w t ≤ end
    by = elim (cases_lt end (past_address w t)) [
      | inl over ↦ absurd (
          let h : test end ≡ true = inside end (omega (arith, lt, here)) over in
          let e : test end ≡ false = out (let p = past_within w t short in omega (arith, over, p)) in
          cc)
      | inr le ↦ le
    ]

-- ---- the networks of a range

-- the address after a last one
pub end_after : (w high width end : ℕ) → high < 2 ^ w → width ≡ w → (high + 2 ^ (w - width) ≤ 2 ^ w → end ≡ high + 2 ^ (w - width)) → end ≡ high + 1
end_after w high width end lt is h =
    let one : 2 ^ (w - width) ≡ 2 ^ 0 = ap (λ n. 2 ^ n) (let e : w - width ≡ 0 = omega (arith, is) in e) in
    let e = h (omega (arith, lt, one)) in
    omega (arith, e, one)

module _ (w low high : ℕ) where
  pub within_range : (n : ℕ) → low ≤ n → n < high + 1 → is_between low high n ≡ true
  within_range n a b = ap (λ x. x && leb n high) (le-leb low n a) ∙ le-leb n high (omega (arith, b))

  pub beyond_range : (n : ℕ) → high < n → is_between low high n ≡ false
  beyond_range n lt = ap (λ x. leb low n && x) (lt-leb n high lt) ∙ and_false (leb low n)

  pub before_range : (n : ℕ) → n < low → is_between low high n ≡ false
  before_range n lt = ap (λ x. x && leb n high) (lt-leb low n lt)

-- ---- the ranges between breakpoints

module _ (w : ℕ) (ns : List ℕ) (breaks : AreBreaks w ns) where
  -- between two breakpoints, their number decides
  pub has_between : (i n : ℕ) → i < length ns → get_or ns i 0 ≤ n → n < break_or_end w ns (i + 1) → has_address ns n ≡ is_odd (i + 1)
  has_between i n lt from to = has-rank ns n (i + 1) (record {
    inside = omega (arith, lt);
    below = λ k le. elim (cases_lt k i) [
      | inl less ↦ (let u = breaks.rising k i less lt in omega (arith, u, from))
      | inr ge ↦ (let is : k ≡ i = omega (arith, ge, le) in let e = ap (λ j. get_or ns j 0) is in omega (arith, e, from))
    ];
    above = λ k le in_it.
        let at : break_or_end w ns (i + 1) ≡ get_or ns (i + 1) 0 = ap (λ b. cond b (get_or ns (i + 1) 0) (2 ^ w)) (lt-ltb (i + 1) (length ns) (omega (arith, le, in_it))) in
        elim (cases_lt (i + 1) k) [
          | inl less ↦ (let u = breaks.rising (i + 1) k less in_it in omega (arith, u, at, to))
          | inr ge ↦ (let is : i + 1 ≡ k = omega (arith, ge, le) in let e = ap (λ j. get_or ns j 0) is in omega (arith, e, at, to))
        ];
  })

  -- no breakpoint is before the next one or after the end
  pub break_rises : (i : ℕ) → i < length ns → get_or ns i 0 < break_or_end w ns (i + 1)
  break_rises j in_it = elim (cases_lt (j + 1) (length ns)) [
    | inl more ↦ (let at : break_or_end w ns (j + 1) ≡ get_or ns (j + 1) 0 = ap (λ b. cond b (get_or ns (j + 1) 0) (2 ^ w)) (lt-ltb (j + 1) (length ns) more) in let u = breaks.rising j (j + 1) (omega arith) more in omega (arith, at, u))
    | inr none ↦ (let at : break_or_end w ns (j + 1) ≡ 2 ^ w = ap (λ b. cond b (get_or ns (j + 1) 0) (2 ^ w)) (le-ltb (j + 1) (length ns) none) in let u = breaks.within j in_it in omega (arith, at, u))
  ]

  pub break_here : (i : ℕ) → i < length ns → break_or_end w ns i ≡ get_or ns i 0
  break_here i lt = ap (λ b. cond b (get_or ns i 0) (2 ^ w)) (lt-ltb i (length ns) lt)

  pub break_past : (i : ℕ) → length ns ≤ i → break_or_end w ns i ≡ 2 ^ w
  break_past i le = ap (λ b. cond b (get_or ns i 0) (2 ^ w)) (le-ltb i (length ns) le)

  -- where a range ends, its addresses do
  pub end_is_out : (i : ℕ) → i < length ns → is_odd (i + 1) ≡ true → break_or_end w ns (i + 1) < 2 ^ w → has_address ns (break_or_end w ns (i + 1)) ≡ false
  end_is_out i lt odd below = elim (cases_lt (i + 1) (length ns)) [
    | inl more ↦
        let at : break_or_end w ns (i + 1) ≡ get_or ns (i + 1) 0 = ap (λ b. cond b (get_or ns (i + 1) 0) (2 ^ w)) (lt-ltb (i + 1) (length ns) more) in
        ap (has_address ns) at
        ∙ has_between (i + 1) (get_or ns (i + 1) 0) more (omega arith) (break_rises (i + 1) more)
        ∙ ap is_odd (let e : i + 1 + 1 ≡ suc (i + 1) = omega arith in e) ∙ odd-next (i + 1) ∙ ap not odd
    | inr none ↦ absurd (let at : break_or_end w ns (i + 1) ≡ 2 ^ w = ap (λ b. cond b (get_or ns (i + 1) 0) (2 ^ w)) (le-ltb (i + 1) (length ns) none) in omega (arith, at, below))
  ]
