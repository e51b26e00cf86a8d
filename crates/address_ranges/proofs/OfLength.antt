-- The walk over the networks of one length.
use Rattle.std.proofs.Common.{Option, None, Some, ◌≡◌, ◌∙◌, ℕ, ◌+◌, ◌-◌, ◌^◌, ◌<◌, ◌≤◌, ◌&&◌, Bool, true, false, not, leb, List, [], ◌∷◌, length, drop, get_or, inl, inr, refl, ap, sym, subst, arith, pow_pos}
use Rattle.std.specs.Option.{MatchOption}
use Rattle.std.proofs.lemmas.Bool.{and_from, and_parts, cases_lt, le-leb, leb-true}
use Rattle.address_ranges.specs.Breaks.{AreBreaks, has_address}
use Rattle.address_ranges.specs.Networks.{IsBlock, IsFree, IsInside, break_or_end, first_address, past_address}
use Rattle.address_ranges.specs.Walks.{HasNoneOfLength, ReturnsFirst, most_left}
use Rattle.address_ranges.proofs.Blocks.{block_of_network, past_within, some_address}
use Rattle.address_ranges.proofs.NetworkWalks.{and_true, later_is}
use Rattle.address_ranges.proofs.WalkSteps.{end_out, end_within, fewer_left, gone_breaks, gone_is, has_first, none_before, some_first}

-- the addresses from one on are left, and no network of the length begins before it
pub record AreSkipped (w len : ℕ) (old left : List ℕ) : Type 0 where
  pub low : ℕ
  pub breaks : AreBreaks w left
  pub left_is : (n : ℕ) → n < 2 ^ w → has_address left n ≡ (has_address old n && leb low n)
  pub none : (t : List Bool) → length t ≡ len → IsInside w (has_address old) t → low ≤ first_address w t
  pub fewer : most_left w left ≤ most_left w old

pub skipped_none : (w len : ℕ) (old : List ℕ) → AreBreaks w old → AreSkipped w len old old
skipped_none w len old are = record {
  low = 0;
  breaks = are;
  left_is = λ n lt. and_true (has_address old n) ∙ ap (λ b. has_address old n && b) (sym (le-leb 0 n (omega arith)));
  none = λ t long inside. omega arith;
  fewer = omega arith;
}

module _ (w len : ℕ) (old left : List ℕ) (short : len ≤ w) (so_far : AreSkipped w len old left) where
  below : (t : List Bool) → length t ≡ len → (n : ℕ) → n < past_address w t → n < 2 ^ w
  below t long n hi = let p = past_within w t (omega (arith, long, short)) in omega (arith, p, hi)

  -- a network of the length is still there
  still_inside : (t : List Bool) → length t ≡ len → IsInside w (has_address old) t → IsInside w (has_address left) t
  still_inside t long inside n lo hi =
      let l = so_far.none t long inside in
      so_far.left_is n (below t long n hi) ∙ and_from (has_address old n) (leb so_far.low n) (inside n lo hi) (le-leb so_far.low n (omega (arith, l, lo)))

  was_there : (n : ℕ) → n < 2 ^ w → has_address left n ≡ true → (has_address old n ≡ true) × (so_far.low ≤ n)
  was_there n lt h = let parts = and_parts (has_address old n) (leb so_far.low n) (sym (so_far.left_is n lt) ∙ h) in (parts.0, leb-true so_far.low n parts.1)

  -- at the end of the walk there is none
  pub none_left : left ≡ [] → HasNoneOfLength w len old
  none_left is t long inside = (
      let some = some_address w t in
      let h : false ≡ true = sym (ap (λ l. has_address l (first_address w t)) is) ∙ still_inside t long inside (first_address w t) (omega arith) some in
      absurd (let e : false ≡ true = h in cc))

-- a network of the length that is left begins in the first range, as a block of it, or after it
begins_in : (w len b : ℕ) (ns : List ℕ) → AreBreaks w (b ∷ ns) → len ≤ w → (t : List Bool) → length t ≡ len → IsInside w (has_address (b ∷ ns)) t → (b ≤ first_address w t) × (first_address w t < break_or_end w (b ∷ ns) 1 → IsBlock w (first_address w t) len (break_or_end w (b ∷ ns) 1))
begins_in w len b ns are short t long inside = (from, λ lt. subst (λ k. IsBlock w (first_address w t) k (break_or_end w (b ∷ ns) 1)) long (block_of_network w (break_or_end w (b ∷ ns) 1) t (by lt)))
  where
    from : b ≤ first_address w t
    from = elim (cases_lt (first_address w t) b) [
      | inl less ↦ absurd (let e = none_before w b ns are (first_address w t) less in let h = inside (first_address w t) (omega arith) (some_address w t) in cc)
      | inr ge ↦ ge
    ]

    by : first_address w t < break_or_end w (b ∷ ns) 1 → past_address w t ≤ break_or_end w (b ∷ ns) 1
    by lt = elim (cases_lt (break_or_end w (b ∷ ns) 1) (past_address w t)) [
      | inl over ↦ absurd (
          let h = inside (break_or_end w (b ∷ ns) 1) (omega (arith, lt)) over in
          let e = end_out w b ns are (let p = past_within w t (omega (arith, long, short)) in omega (arith, over, p)) in
          cc)
      | inr le ↦ le
    ]

-- without the first range
pub gone_all : (w : ℕ) (old : List ℕ) → AreBreaks w old → 0 < length old → AreBreaks w (drop 2 old)
gone_all w [] are some = absurd (omega (arith, some))
gone_all w (b ∷ ns) are some = gone_breaks w b ns are

pub gone_fewer : (w : ℕ) (old new : List ℕ) → AreBreaks w old → 0 < length old → new ≡ drop 2 old → most_left w new < most_left w old
gone_fewer w [] new are some is = absurd (omega (arith, some))
gone_fewer w (b ∷ ns) new are some is = let gone : Option ℕ = None in fewer_left w (λ _. []) (b ∷ ns) new gone (break_or_end w (b ∷ ns) 1) are some (some_first w b ns are) refl is

module _ (w len : ℕ) (old : List ℕ) (short : len ≤ w) where
  -- a range without such a network is passed over
  pub skipped_next : (left new : List ℕ) (at end : ℕ) → AreSkipped w len old left → 0 < length left → at ≡ get_or left 0 0 → end ≡ break_or_end w left 1
      → ((n : ℕ) → at ≤ n → IsBlock w n len end → ⊥) → new ≡ drop 2 left → AreSkipped w len old new
  skipped_next [] new at end so_far some here by none is = absurd (omega (arith, some))
  skipped_next (b ∷ ns) new at end so_far some here by none is =
      let up = some_first w b ns so_far.breaks in
      let low_by : so_far.low ≤ b = (was_there w len old (b ∷ ns) short so_far b (let e = end_within w b ns so_far.breaks in omega (arith, e, up)) (has_first w b ns so_far.breaks b (omega arith) up)).1 in
      record {
        low = break_or_end w (b ∷ ns) 1;
        breaks = subst (AreBreaks w) (sym is) (gone_breaks w b ns so_far.breaks);
        left_is = λ n lt.
            ap (λ l. has_address l n) is ∙ gone_is w b ns so_far.breaks n lt ∙ ap (λ h. h && leb (break_or_end w (b ∷ ns) 1) n) (so_far.left_is n lt)
            ∙ later_is (has_address old n) so_far.low (break_or_end w (b ∷ ns) 1) n (omega (arith, low_by, up));
        none = λ t long inside. (
            let in_it = begins_in w len b ns so_far.breaks short t long (still_inside w len old (b ∷ ns) short so_far t long inside) in
            elim (cases_lt (first_address w t) (break_or_end w (b ∷ ns) 1)) [
              | inl lt ↦ absurd (none (first_address w t) (let f = in_it.0 in omega (arith, f, here)) (subst (λ e. IsBlock w (first_address w t) len e) (sym by) (in_it.1 lt)))
              | inr ge ↦ ge
            ]);
        fewer = (let l = gone_fewer w (b ∷ ns) new so_far.breaks (omega arith) is in let f = so_far.fewer in omega (arith, l, f));
      }

  -- the first such network is returned
  pub first_returned : (left new : List ℕ) (at end first : ℕ) (s : List Bool) → AreSkipped w len old left → 0 < length left → at ≡ get_or left 0 0 → end ≡ break_or_end w left 1
      → at ≤ first → IsBlock w first len end → ((n : ℕ) → at ≤ n → IsBlock w n len end → first ≤ n) → length s ≡ len → first_address w s ≡ first
      → ((n : ℕ) → n < 2 ^ w → has_address new n ≡ (has_address left n && leb (first + 2 ^ (w - len)) n)) → ReturnsFirst w len old s new
  first_returned [] new at end first s so_far some here by from block least long is left = absurd (omega (arith, some))
  first_returned (b ∷ ns) new at end first s so_far some here by from block least long is left =
      let up = some_first w b ns so_far.breaks in
      let within = end_within w b ns so_far.breaks in
      let fits = block.fits in
      let p = pow_pos (w - len) in
      let low_by : so_far.low ≤ b = (was_there w len old (b ∷ ns) short so_far b (omega (arith, within, up)) (has_first w b ns so_far.breaks b (omega arith) up)).1 in
      let past : past_address w s ≡ first + 2 ^ (w - len) = ap (λ n. first_address w s + 2 ^ (w - n)) long ∙ ap (λ n. n + 2 ^ (w - len)) is in
      record {
        long = long;
        inside = λ n lo hi. (
            let lt : n < break_or_end w (b ∷ ns) 1 = omega (arith, hi, past, fits, by) in
            (was_there w len old (b ∷ ns) short so_far n (omega (arith, lt, within)) (has_first w b ns so_far.breaks n (omega (arith, lo, is, from, here)) lt)).0);
        first = λ t l inside. (
            let in_it = begins_in w len b ns so_far.breaks short t l (still_inside w len old (b ∷ ns) short so_far t l inside) in
            elim (cases_lt (first_address w t) (break_or_end w (b ∷ ns) 1)) [
              | inl lt ↦ (let h = least (first_address w t) (let f = in_it.0 in omega (arith, f, here)) (subst (λ e. IsBlock w (first_address w t) len e) (sym by) (in_it.1 lt)) in omega (arith, h, is))
              | inr ge ↦ omega (arith, ge, fits, by, is)
            ]);
        left = λ n lt.
            left n lt ∙ ap (λ h. h && leb (first + 2 ^ (w - len)) n) (so_far.left_is n lt)
            ∙ later_is (has_address old n) so_far.low (first + 2 ^ (w - len)) n (omega (arith, low_by, from, here)) ∙ ap (λ q. has_address old n && leb q n) (sym past);
      }

-- the first network of a length that has no address of a set
pub first_free : {P : Type 0} (w len : ℕ) (IsFitting : P → Type 0) (path : P → List Bool) (ns others after : List ℕ) (o : Option P) (X : Type 0) → ((n : ℕ) → has_address others n ≡ not (has_address ns n))
    → MatchOption o (HasNoneOfLength w len others × X) (λ p. IsFitting p × ReturnsFirst w len others (path p) after)
    → MatchOption o ((t : List Bool) → length t ≡ len → IsFree w ns t → ⊥) (λ p. IsFitting p × (length (path p) ≡ len) × IsFree w ns (path p) × ((t : List Bool) → length t ≡ len → IsFree w ns t → first_address w (path p) ≤ first_address w t))
first_free w len IsFitting path ns others after None X is step = λ t long free. step.0 t long (λ n lo hi. is n ∙ free n lo hi)
first_free w len IsFitting path ns others after (Some p) X is step =
    let r = step.1 in
    (step.0, r.long, λ n lo hi. sym (is n) ∙ r.inside n lo hi, λ t long free. r.first t long (λ n lo hi. is n ∙ free n lo hi))
