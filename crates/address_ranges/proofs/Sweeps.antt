-- A pass over the breakpoints of two sets gives those of the addresses that an operation keeps.
use Rattle.std.proofs.Common.{◌≡◌, ◌∙◌, ℕ, suc, ◌+◌, ◌^◌, ◌<◌, ◌≤◌, ◌||◌, Bool, true, false, not, cond, List, [], ◌∷◌, ◌++◌, length, length-append, get_or, take, inl, inr, refl, sym, ap, ap₂, subst, arith}
use Rattle.std.specs.Bool.{beq}
use Rattle.std.specs.Int.{from_bool}
use Rattle.std.proofs.lemmas.Bool.{cases_lt}
use Rattle.std.proofs.lemmas.List.{get_or-take, length-take-le, take_more}
use Rattle.address_ranges.specs.Breaks.{AreBreaks, AreRising, has_address, is_odd}
use Rattle.address_ranges.specs.Sweeps.{IsNext, IsNextOf, changed_to}
use Rattle.address_ranges.proofs.Breaks.{breaks-push, each_push, has-past, has-push_above, has-rank, odd-next}

-- i of the breakpoints are below a number, and the others are not
pub record IsAt (ns : List ℕ) (i low : ℕ) : Type 0 where
  pub inside : i ≤ length ns
  pub below : (k : ℕ) → k < i → get_or ns k 0 < low
  pub rest : i < length ns → low ≤ get_or ns i 0

-- the place after a breakpoint, if it is one
abbrev pub after : ℕ → Bool → ℕ
after i is_next = i + from_bool is_next

module _ (ns : List ℕ) (i low at : ℕ) (so_far : IsAt ns i low) (le : low ≤ at) where
  pub at_next : (b : Bool) → AreRising ns → IsNextOf ns i at b → IsAt ns (after i b) (at + 1)
  at_next true up next = record {
    inside = (let h = next.0 in omega (arith, h));
    below = λ k lt. elim (cases_lt k i) [
      | inl old ↦ (let h = so_far.below k old in omega (arith, h, le))
      | inr new ↦ (let is : k ≡ i = omega (arith, new, lt) in let e : get_or ns k 0 ≡ at = ap (λ j. get_or ns j 0) is ∙ next.1 in omega (arith, e))
    ];
    rest = λ lt. (let u = up i (i + 1) (omega arith) lt in let e = next.1 in omega (arith, u, e));
  }
  at_next false up next = record {
    inside = (let h = so_far.inside in omega (arith, h));
    below = λ k lt. (let h = so_far.below k (omega (arith, lt)) in omega (arith, h, le));
    rest = λ lt. (let same : get_or ns (i + 0) 0 ≡ get_or ns i 0 = ap (λ j. get_or ns j 0) (let e : i + 0 ≡ i = omega arith in e) in let h = next (omega (arith, lt)) in omega (arith, h, same));
  }

  -- the step changes no membership below it
  pub same_below : (b : Bool) → IsNextOf ns i at b → (n : ℕ) → n < at → has_address (take (after i b) ns) n ≡ has_address (take i ns) n
  same_below true next n lt =
      ap (λ s. has_address s n) (take_more ns i 0 next.0) ∙ has-push_above (take i ns) (get_or ns i 0) n (let e = next.1 in omega (arith, lt, e))
  same_below false next n lt = ap (λ j. has_address (take j ns) n) (let e : i + 0 ≡ i = omega arith in e)

-- past the breakpoints so far, their number decides
pub odd_past : (ns : List ℕ) (i low n : ℕ) → IsAt ns i low → low ≤ n + 1 → has_address (take i ns) n ≡ is_odd i
odd_past ns i low n so_far le =
    let long : length (take i ns) ≡ i = length-take-le i ns so_far.inside in
    has-past (take i ns) n (λ k lt.
    let e = get_or-take i ns k 0 (omega (arith, lt, long)) in
    let h = so_far.below k (omega (arith, lt, long)) in
    omega (arith, e, h, le)) ∙ ap is_odd long

-- the place after a breakpoint is the rank of its address
pub odd_at : (ns : List ℕ) (i n : ℕ) → AreRising ns → IsAt ns i (n + 1) → has_address ns n ≡ is_odd i
odd_at ns i n up at = has-rank ns n i (record {
  inside = at.inside;
  below = λ k lt. (let h = at.below k lt in omega (arith, h));
  above = λ k le lt. (let h = at.rest (omega (arith, le, lt)) in elim (cases_lt i k) [
    | inl later ↦ (let u = up i k later lt in omega (arith, h, u))
    | inr here ↦ (let is : i ≡ k = omega (arith, here, le) in let e = ap (λ j. get_or ns j 0) is in omega (arith, h, e))
  ]);
})

-- the breakpoints so far are those of the addresses that are kept of the breakpoints read
pub record IsSwept (w : ℕ) (keeps : Bool → Bool → Bool) (left right : List ℕ) (i j : ℕ) (out : List ℕ) : Type 0 where
  pub low : ℕ
  pub left_at : IsAt left i low
  pub right_at : IsAt right j low
  pub breaks : AreBreaks w out
  pub below : (k : ℕ) → k < length out → get_or out k 0 < low
  pub same : (n : ℕ) → has_address out n ≡ keeps (has_address (take i left) n) (has_address (take j right) n)

beq_true : (a b : Bool) → beq a b ≡ true → a ≡ b
beq_true true true e = refl
beq_true false false e = refl
beq_true a b e = cc

beq_false : (a b : Bool) → beq a b ≡ false → not b ≡ a
beq_false true false e = refl
beq_false false true e = refl
beq_false a b e = cc

module _ (w : ℕ) (is_in : Bool) (out : List ℕ) (at : ℕ) where
  changed_below : (b : Bool) → ((k : ℕ) → k < length out → get_or out k 0 < at) → (k : ℕ) → k < length (cond b out (out ++ at ∷ [])) → get_or (cond b out (out ++ at ∷ [])) k 0 < at + 1
  changed_below true old k lt = (let h = old k lt in omega (arith, h))
  changed_below false old k lt = each_push out at (λ m. m < at + 1) (λ i l. (let h = old i l in omega (arith, h))) (omega arith) k lt

  changed_breaks : (b : Bool) → AreBreaks w out → ((k : ℕ) → k < length out → get_or out k 0 < at) → at < 2 ^ w → AreBreaks w (cond b out (out ++ at ∷ []))
  changed_breaks true breaks old fits = breaks
  changed_breaks false breaks old fits = breaks-push w out at breaks old fits

  changed_same : (b : Bool) (n : ℕ) → n < at → has_address (cond b out (out ++ at ∷ [])) n ≡ has_address out n
  changed_same true n lt = refl
  changed_same false n lt = has-push_above out at n lt

  changed_odd : (b : Bool) → beq is_in (is_odd (length out)) ≡ b → is_odd (length (cond b out (out ++ at ∷ []))) ≡ is_in
  changed_odd true e = sym (beq_true is_in (is_odd (length out)) e)
  changed_odd false e =
      ap is_odd (length-append out (at ∷ []) ∙ (let e : length out + 1 ≡ suc (length out) = omega arith in e)) ∙ odd-next (length out) ∙ beq_false is_in (is_odd (length out)) e

-- one step of the pass
module _ (w : ℕ) (keeps : Bool → Bool → Bool) (left right : List ℕ) (i j : ℕ) (out : List ℕ) (at : ℕ) (in_left in_right : Bool)
    (left_up : AreRising left) (right_up : AreRising right) (so_far : IsSwept w keeps left right i j out) (next : IsNext left right i j at in_left in_right) (fits : at < 2 ^ w) where
  low_by : (b c : Bool) → (b || c) ≡ true → IsNextOf left i at b → IsNextOf right j at c → so_far.low ≤ at
  low_by true c e l r = (let h = so_far.left_at.rest l.0 in let is = l.1 in omega (arith, h, is))
  low_by false true e l r = (let h = so_far.right_at.rest r.0 in let is = r.1 in omega (arith, h, is))
  low_by false false e l r = cc

  le : so_far.low ≤ at
  le = low_by in_left in_right next.some next.left_is next.right_is

  pub left_next : IsAt left (after i in_left) (at + 1)
  left_next = at_next left i so_far.low at so_far.left_at le in_left left_up next.left_is

  pub right_next : IsAt right (after j in_right) (at + 1)
  right_next = at_next right j so_far.low at so_far.right_at le in_right right_up next.right_is

  is_in : Bool
  is_in = keeps (is_odd (after i in_left)) (is_odd (after j in_right))

  out_old : (k : ℕ) → k < length out → get_or out k 0 < at
  out_old k lt = (let h = so_far.below k lt in omega (arith, h, le))

  pub swept_next : IsSwept w keeps left right (after i in_left) (after j in_right) (changed_to (keeps (is_odd (after i in_left)) (is_odd (after j in_right))) out at)
  unfolding is_in
  swept_next =
      let b : Bool = beq is_in (is_odd (length out)) in
      let below : (k : ℕ) → k < length (changed_to is_in out at) → get_or (changed_to is_in out at) k 0 < at + 1 = changed_below w is_in out at b out_old in
      record {
        low = at + 1;
        left_at = left_next;
        right_at = right_next;
        breaks = changed_breaks w is_in out at b so_far.breaks out_old fits;
        below = below;
        same = λ n. elim (cases_lt n at) [
          | inl lt ↦
              changed_same w is_in out at b n lt ∙ so_far.same n
              ∙ ap₂ keeps (sym (same_below left i so_far.low at so_far.left_at le in_left next.left_is n lt)) (sym (same_below right j so_far.low at so_far.right_at le in_right next.right_is n lt))
          | inr past ↦
              has-past (changed_to is_in out at) n (λ k lt. (let h = below k lt in omega (arith, h, past))) ∙ changed_odd w is_in out at b refl
              ∙ ap₂ keeps (sym (odd_past left (after i in_left) (at + 1) n left_next (omega (arith, past)))) (sym (odd_past right (after j in_right) (at + 1) n right_next (omega (arith, past))))
        ];
      }

  pub swept_is : (i' j' : ℕ) (out' : List ℕ) → i' ≡ after i in_left → j' ≡ after j in_right → out' ≡ changed_to (keeps (is_odd i') (is_odd j')) out at → IsSwept w keeps left right i' j' out'
  swept_is i' j' out' ei ej eo =
      subst (λ o. IsSwept w keeps left right i' j' o) (sym (eo ∙ ap₂ (λ a b. changed_to (keeps (is_odd a) (is_odd b)) out at) ei ej))
      (subst (λ a. IsSwept w keeps left right a j' (changed_to (keeps (is_odd (after i in_left)) (is_odd (after j in_right))) out at)) (sym ei)
      (subst (λ b. IsSwept w keeps left right (after i in_left) b (changed_to (keeps (is_odd (after i in_left)) (is_odd (after j in_right))) out at)) (sym ej) swept_next))

  -- the operation keeps the address if it does so by the places after it
  pub kept_is : (i' j' : ℕ) → i' ≡ after i in_left → j' ≡ after j in_right → keeps (is_odd i') (is_odd j') ≡ true → keeps (has_address left at) (has_address right at) ≡ true
  kept_is i' j' ei ej kept =
      ap₂ keeps (odd_at left (after i in_left) at left_up left_next) (odd_at right (after j in_right) at right_up right_next)
      ∙ ap₂ (λ a b. keeps (is_odd a) (is_odd b)) (sym ei) (sym ej) ∙ kept
