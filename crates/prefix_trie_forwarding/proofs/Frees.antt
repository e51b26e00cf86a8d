-- What writing slots does to the groups in use and to those that are free.
use Rattle.std.proofs.Common.{◌≡◌, ◌≢◌, ◌⊎◌, ℕ, zero, suc, ◌+◌, ◌<◌, ◌≤◌, set, List, [], ◌∷◌, ◌++◌, length, get_or, refl, sym, ap, ◌∙◌, subst, arith, inl, inr, length-append}
use Rattle.std.proofs.lemmas.Bool.{cases_lt, cases_eq}
use Rattle.std.proofs.lemmas.List.{get_or_append_left, get_or_at, get_or-set_same, get_or-set_other}
use Rattle.prefix_trie_forwarding.specs.Walks.{AreSlots, AreFree}

-- slots that are as before or hold answers
abbrev pub HoldsLess : (s t : ℕ → ℕ) → Type 0
HoldsLess s t = (x : ℕ) → (t x ≡ s x) ⊎ (t x < 2147483648)

still : (s t : ℕ → ℕ) → HoldsLess s t → (x : ℕ) → 2147483648 ≤ t x → t x ≡ s x
still s t loses x h = elim (loses x) [ inl e ↦ e | inr l ↦ absurd (omega (arith, l, h)) ]

pub slots_lost : (groups : ℕ) (s t : ℕ → ℕ) → HoldsLess s t → AreSlots groups s → AreSlots groups t
slots_lost groups s t loses are = record {
  inside = λ x h. (let e = still s t loses x h in omega (arith, e, h, are.inside x (omega (arith, e, h))));
  single = λ x y h same. (
      let e = still s t loses x h in
      let f = still s t loses y (omega (arith, h, same)) in
      are.single x y (omega (arith, e, h)) (sym e ∙ same ∙ f));
}

pub free_lost : (groups : ℕ) (s t : ℕ → ℕ) (free : List ℕ) → HoldsLess s t → AreFree groups s free → AreFree groups t free
free_lost groups s t free loses are = record {
  known = are.known;
  unused = λ i x l e. are.unused i x l (sym (still s t loses x (omega (arith, e))) ∙ e);
  apart = are.apart;
}

-- the group of a slot that gets a value becomes free
module _ (groups : ℕ) (s t : ℕ → ℕ) (free : List ℕ) (at g : ℕ) (are : AreSlots groups s) (frees : AreFree groups s free) (was : s at ≡ 2147483648 + g) (now : t at < 2147483648)
    (others : (x : ℕ) → x ≢ at → t x ≡ s x) where
  more : (i : ℕ) → i < length (free ++ g ∷ []) → ((i < length free) × (get_or (free ++ g ∷ []) i 0 ≡ get_or free i 0)) ⊎ ((i ≡ length free) × (get_or (free ++ g ∷ []) i 0 ≡ g))
  more i h =
      elim (cases_lt i (length free)) [
        | inl l ↦ inl (l, get_or_append_left free (g ∷ []) 0 i l)
        | inr l ↦
            let e : length free ≡ i = omega (arith, h, l, length-append free (g ∷ [])) in
            inr (sym e, get_or_at free g [] 0 i e)
      ]

  other : (i : ℕ) → i < length free → get_or free i 0 ≢ g
  other i l e = frees.unused i at l (was ∙ ap (λ g. 2147483648 + g) (sym e))

  pub free_pushed : AreFree groups t (free ++ g ∷ [])
  free_pushed = record {
    known = λ i h. elim (more i h) [
      | inl o ↦ subst (λ n. n < groups) (sym o.1) (frees.known i o.0)
      | inr o ↦ subst (λ n. n < groups) (sym o.1) (let l = are.inside at (omega (arith, was)) in omega (arith, l, was))
    ];
    unused = λ i x h e. elim (more i h) [
      | inl o ↦ frees.unused i x o.0 (sym (others x (λ same. (let f = ap t same in omega (arith, e, f, now)))) ∙ e ∙ ap (λ n. 2147483648 + n) o.1)
      | inr o ↦
          let ne : x ≢ at = λ same. (let f = ap t same in omega (arith, e, f, now)) in
          let old : s x ≡ 2147483648 + g = sym (others x ne) ∙ e ∙ ap (λ n. 2147483648 + n) o.1 in
          ne (are.single x at (omega (arith, old)) (old ∙ sym was))
    ];
    apart = λ i j h l e. elim (more i h) [
      | inl o ↦ elim (more j l) [
        | inl p ↦ frees.apart i j o.0 p.0 (sym o.1 ∙ e ∙ p.1)
        | inr p ↦ absurd (other i o.0 (sym o.1 ∙ e ∙ p.1))
      ]
      | inr o ↦ elim (more j l) [
        | inl p ↦ absurd (other j p.0 (sym p.1 ∙ sym e ∙ o.1))
        | inr p ↦ o.0 ∙ sym p.0
      ]
    ];
  }

-- a slot comes to refer to a group that no slot refers to
pub slots_linked : (groups : ℕ) (s t : ℕ → ℕ) (at g : ℕ) → AreSlots groups s → ((x : ℕ) → s x ≢ 2147483648 + g) → g < groups → t at ≡ 2147483648 + g → ((x : ℕ) → x ≢ at → t x ≡ s x) → AreSlots groups t
slots_linked groups s t at g are unused known now others = record {
  inside = λ x h. elim (cases_eq x at) [
    | inl e ↦ omega (arith, known, now, ap t e)
    | inr ne ↦ let o = others x ne in let l = are.inside x (omega (arith, o, h)) in omega (arith, l, o)
  ];
  single = λ x y h same. elim (cases_eq x at) [
    | inl e ↦ elim (cases_eq y at) [
      | inl f ↦ e ∙ sym f
      | inr nf ↦ absurd (unused y (sym (others y nf) ∙ sym same ∙ ap t e ∙ now))
    ]
    | inr ne ↦ elim (cases_eq y at) [
      | inl f ↦ absurd (unused x (sym (others x ne) ∙ same ∙ ap t f ∙ now))
      | inr nf ↦ let o = others x ne in are.single x y (omega (arith, o, h)) (sym o ∙ same ∙ others y nf)
    ]
  ];
}

-- then it is no longer free
pub free_linked : (groups : ℕ) (s t : ℕ → ℕ) (free : List ℕ) (at g : ℕ) → AreFree groups s (g ∷ free) → t at ≡ 2147483648 + g → ((x : ℕ) → x ≢ at → t x ≡ s x) → AreFree groups t free
free_linked groups s t free at g frees now others = record {
  known = λ i h. frees.known (suc i) (omega (arith, h));
  unused = λ i x h e. elim (cases_eq x at) [
    | inl f ↦ (let z = frees.apart 0 (suc i) (omega arith) (omega (arith, h)) (omega (arith, now, e, ap t f)) in omega (arith, z))
    | inr ne ↦ frees.unused (suc i) x (omega (arith, h)) (sym (others x ne) ∙ e)
  ];
  apart = λ i j h l e. (let z = frees.apart (suc i) (suc j) (omega (arith, h)) (omega (arith, l)) e in omega (arith, z));
}

-- a group that is added is free
pub free_added : (groups : ℕ) (s : ℕ → ℕ) (free : List ℕ) → AreSlots groups s → AreFree groups s free → AreFree (groups + 1) s (free ++ groups ∷ [])
free_added groups s free are frees = record {
  known = λ i h. elim (last i h) [
    | inl o ↦ subst (λ n. n < groups + 1) (sym o.1) (let l = frees.known i o.0 in omega (arith, l))
    | inr o ↦ subst (λ n. n < groups + 1) (sym o.1) (omega arith)
  ];
  unused = λ i x h e. elim (last i h) [
    | inl o ↦ frees.unused i x o.0 (e ∙ ap (λ n. 2147483648 + n) o.1)
    | inr o ↦ (let l = are.inside x (omega (arith, e)) in omega (arith, l, e, o.1))
  ];
  apart = λ i j h l e. elim (last i h) [
    | inl o ↦ elim (last j l) [
      | inl p ↦ frees.apart i j o.0 p.0 (sym o.1 ∙ e ∙ p.1)
      | inr p ↦ absurd (let k = frees.known i o.0 in omega (arith, k, o.1, e, p.1))
    ]
    | inr o ↦ elim (last j l) [
      | inl p ↦ absurd (let k = frees.known j p.0 in omega (arith, k, o.1, e, p.1))
      | inr p ↦ o.0 ∙ sym p.0
    ]
  ];
}
  where
    last : (i : ℕ) → i < length (free ++ groups ∷ []) → ((i < length free) × (get_or (free ++ groups ∷ []) i 0 ≡ get_or free i 0)) ⊎ ((i ≡ length free) × (get_or (free ++ groups ∷ []) i 0 ≡ groups))
    last i h = elim (cases_lt i (length free)) [
      | inl l ↦ inl (l, get_or_append_left free (groups ∷ []) 0 i l)
      | inr l ↦
          let e : length free ≡ i = omega (arith, h, l, length-append free (groups ∷ [])) in
          inr (sym e, get_or_at free groups [] 0 i e)
    ]

-- ---- as the code writes a slot

module _ (xs : List ℕ) (at v : ℕ) (inside : at < length xs) where
  pub set_here : get_or (set xs at v) at 0 ≡ v
  set_here = get_or-set_same xs at v 0 inside

  pub set_others : (x : ℕ) → x ≢ at → get_or (set xs at v) x 0 ≡ get_or xs x 0
  set_others x ne = get_or-set_other xs at x v 0 ne

  pub set_loses : v < 2147483648 → HoldsLess (λ x. get_or xs x 0) (λ x. get_or (set xs at v) x 0)
  set_loses value x = elim (cases_eq x at) [
    | inl e ↦ inr (subst (λ n. n < 2147483648) (sym (ap (λ x. get_or (set xs at v) x 0) e ∙ set_here)) value)
    | inr ne ↦ inl (set_others x ne)
  ]

-- ---- the last free group as the first

module _ (free : List ℕ) (g : ℕ) where
  from : ℕ → ℕ
  from zero = length free
  from (suc i) = i

  from-inside : (i : ℕ) → i < length (g ∷ free) → from i < length (free ++ g ∷ [])
  unfolding from
  from-inside zero h = omega (arith, length-append free (g ∷ []))
  from-inside (suc i) h = omega (arith, length-append free (g ∷ []), h)

  from-item : (i : ℕ) → i < length (g ∷ free) → get_or (free ++ g ∷ []) (from i) 0 ≡ get_or (g ∷ free) i 0
  unfolding from
  from-item zero h = get_or_at free g [] 0 (length free) refl
  from-item (suc i) h = get_or_append_left free (g ∷ []) 0 i (omega (arith, h))

  from-apart : (i j : ℕ) → i < length (g ∷ free) → j < length (g ∷ free) → from i ≡ from j → i ≡ j
  unfolding from
  from-apart zero zero h l e = refl
  from-apart zero (suc j) h l e = absurd (omega (arith, l, e))
  from-apart (suc i) zero h l e = absurd (omega (arith, h, e))
  from-apart (suc i) (suc j) h l e = omega (arith, e)

  pub rotated : (groups : ℕ) (s : ℕ → ℕ) → AreFree groups s (free ++ g ∷ []) → AreFree groups s (g ∷ free)
  rotated groups s frees = record {
    known = λ i h. subst (λ n. n < groups) (from-item i h) (frees.known (from i) (from-inside i h));
    unused = λ i x h e. frees.unused (from i) x (from-inside i h) (e ∙ ap (λ n. 2147483648 + n) (sym (from-item i h)));
    apart = λ i j h l e. from-apart i j h l (frees.apart (from i) (from j) (from-inside i h) (from-inside j l) (from-item i h ∙ e ∙ sym (from-item j l)));
  }
