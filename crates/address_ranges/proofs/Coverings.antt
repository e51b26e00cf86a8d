-- Which sets have all addresses of a range.
use Rattle.std.proofs.Common.{◌≡◌, ◌∙◌, ◌↔◌, ℕ, suc, ◌+◌, ◌^◌, ◌<◌, ◌≤◌, ◌&&◌, Bool, true, false, not, List, length, get_or, inl, inr, sym, ap, arith}
use Rattle.std.proofs.lemmas.Bool.{and_parts, and_from, cases_lt, cases_Bool}
use Rattle.std.specs.Bool.{MatchBool}
use Rattle.std.proofs.lemmas.Bool.{MatchBool-at_false, MatchBool-at_true}
use Rattle.address_ranges.specs.Breaks.{AreBreaks, IsRank, has_address, is_odd}
use Rattle.address_ranges.specs.Networks.{break_or_end}
use Rattle.address_ranges.proofs.Breaks.{has-rank, odd-next}
use Rattle.address_ranges.proofs.Fewest.{break_here, break_past, break_rises, has_between}

module _ (w : ℕ) (ns : List ℕ) (breaks : AreBreaks w ns) (first end rank : ℕ) (some : first < end) (fits : end ≤ 2 ^ w) (is : IsRank ns first rank) where
  -- between two breakpoints all addresses are in the set, or none
  same_rank : (n : ℕ) → first ≤ n → n < break_or_end w ns rank → has_address ns n ≡ is_odd rank
  same_rank n from to = has-rank ns n rank (record {
    inside = is.inside;
    below = λ k lt. (let h = is.below k lt in omega (arith, h, from));
    above = λ k le in_it.
        let at = break_here w ns breaks rank (omega (arith, le, in_it)) in
        elim (cases_lt rank k) [
          | inl less ↦ (let u = breaks.rising rank k less in_it in omega (arith, u, at, to))
          | inr ge ↦ (let e : rank ≡ k = omega (arith, ge, le) in let f = ap (λ j. get_or ns j 0) e in omega (arith, f, at, to))
        ];
  })

  -- the set has them if the place of the first one is odd and the next breakpoint is not before the end
  pub covers_iff : (ends_by : Bool) → MatchBool ends_by (end ≤ break_or_end w ns rank) (break_or_end w ns rank < end)
      → ((is_odd rank && ends_by) ≡ true) ↔ ((n : ℕ) → first ≤ n → n < end → has_address ns n ≡ true)
  covers_iff ends_by m = (
    λ h n from to. (
        let parts = and_parts (is_odd rank) ends_by h in
        let le = MatchBool-at_true _ _ parts.1 m in
        same_rank n from (omega (arith, to, le)) ∙ parts.0),
    λ all. and_from (is_odd rank) ends_by (sym (has-rank ns first rank is) ∙ all first (omega arith) some) (elim (cases_Bool ends_by) [
      | inl holds ↦ holds
      | inr fails ↦ absurd (
          let lt = MatchBool-at_false _ _ fails m in
          let in_it : rank < length ns = (elim (cases_lt rank (length ns)) [
            | inl less ↦ less
            | inr ge ↦ absurd (let e = break_past w ns breaks rank ge in omega (arith, e, lt, fits))
          ]) in
          let at = break_here w ns breaks rank in_it in
          let above = is.above rank (omega arith) in_it in
          let odd : is_odd rank ≡ true = sym (has-rank ns first rank is) ∙ all first (omega arith) some in
          let up = break_rises w ns breaks rank in_it in
          let out : has_address ns (get_or ns rank 0) ≡ false =
          has_between w ns breaks rank (get_or ns rank 0) in_it (omega arith) up ∙ ap is_odd (let e : rank + 1 ≡ suc rank = omega arith in e) ∙ odd-next rank ∙ ap not odd in
          let inside : has_address ns (get_or ns rank 0) ≡ true = all (get_or ns rank 0) (omega (arith, above)) (omega (arith, at, lt)) in
          cc)
    ]),
  )
