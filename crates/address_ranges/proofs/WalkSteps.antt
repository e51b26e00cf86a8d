-- One step of a walk over networks: the first range is cut, or goes.
use Rattle.std.proofs.Common.{Option, None, Some, zero, suc, cond, ◌≡◌, ◌∙◌, ℕ, ◌+◌, ◌-◌, ◌^◌, ◌<◌, ◌≤◌, ◌&&◌, Bool, true, false, not, leb, List, [], ◌∷◌, length, drop, get_or, inl, inr, refl, ap, sym, subst, arith, pow_pos}
use Rattle.std.specs.Option.{MatchOption}
use Rattle.std.proofs.lemmas.Bool.{cases_lt, le-leb, lt-leb}
use Rattle.prefix_trie_bits.specs.Model.Bits.{number}
use Rattle.address_ranges.specs.Breaks.{AreBreaks, has_address}
use Rattle.address_ranges.specs.Networks.{IsBlock, break_or_end, first_address, past_address}
use Rattle.address_ranges.specs.Walks.{ReturnsLargest, most_left}
use Rattle.address_ranges.proofs.Breaks.{before_first, from_first, rest_before}
use Rattle.address_ranges.proofs.Fewest.{and_false, break_here, break_past, break_rises, end_is_out, most_at}
use Rattle.address_ranges.proofs.Counts.{break_within}
use Rattle.address_ranges.proofs.Walks.{breaks_rest}

and_true : (b : Bool) → (b && true) ≡ b
and_true true = refl
and_true false = refl

twice : (h : Bool) → h ≡ not (not h)
twice true = refl
twice false = refl

-- where the first range ends
end_all : (w b : ℕ) → AreBreaks w (b ∷ []) → break_or_end w (b ∷ []) 1 ≡ 2 ^ w
end_all w b are = break_past w (b ∷ []) are 1 (omega arith)

end_at : (w b c : ℕ) (ms : List ℕ) → AreBreaks w (b ∷ c ∷ ms) → break_or_end w (b ∷ c ∷ ms) 1 ≡ c
end_at w b c ms are = break_here w (b ∷ c ∷ ms) are 1 (omega arith)

rest_below : (w b : ℕ) (ns : List ℕ) → AreBreaks w (b ∷ ns) → (n : ℕ) → n < break_or_end w (b ∷ ns) 1 → has_address ns n ≡ false
rest_below w b [] are n lt = refl
rest_below w b (c ∷ ms) are n lt = before_first c ms n (breaks_rest w b (c ∷ ms) are).rising (let e = end_at w b c ms are in omega (arith, lt, e))

-- without the first range
pub gone_is : (w b : ℕ) (ns : List ℕ) → AreBreaks w (b ∷ ns) → (n : ℕ) → n < 2 ^ w → has_address (drop 1 ns) n ≡ (has_address (b ∷ ns) n && leb (break_or_end w (b ∷ ns) 1) n)
gone_is w b [] are n fits = sym (ap (λ c. has_address (b ∷ []) n && c) (lt-leb (break_or_end w (b ∷ []) 1) n (let e = end_all w b are in omega (arith, e, fits))) ∙ and_false (has_address (b ∷ []) n))
gone_is w b (c ∷ ms) are n fits =
    let e = end_at w b c ms are in
    let up = are.rising 0 1 (omega arith) (omega arith) in
    let rest = breaks_rest w b (c ∷ ms) are in
    elim (cases_lt n c) [
      | inl less ↦
          rest_before c ms n rest.rising (omega (arith, less))
          ∙ sym (ap (λ x. has_address (b ∷ c ∷ ms) n && x) (lt-leb (break_or_end w (b ∷ c ∷ ms) 1) n (omega (arith, e, less))) ∙ and_false (has_address (b ∷ c ∷ ms) n))
      | inr ge ↦
          twice (has_address ms n) ∙ ap not (sym (from_first c ms n ge)) ∙ sym (from_first b (c ∷ ms) n (omega (arith, ge, up)))
          ∙ sym (ap (λ x. has_address (b ∷ c ∷ ms) n && x) (le-leb (break_or_end w (b ∷ c ∷ ms) 1) n (omega (arith, e, ge))) ∙ and_true (has_address (b ∷ c ∷ ms) n))
    ]

pub gone_breaks : (w b : ℕ) (ns : List ℕ) → AreBreaks w (b ∷ ns) → AreBreaks w (drop 1 ns)
gone_breaks w b [] are = breaks_rest w b [] are
gone_breaks w b (c ∷ ms) are = breaks_rest w c ms (breaks_rest w b (c ∷ ms) are)

-- the first range begins at another address
pub cut_breaks : (w b : ℕ) (ns : List ℕ) → AreBreaks w (b ∷ ns) → (to : ℕ) → to < break_or_end w (b ∷ ns) 1 → to < 2 ^ w → AreBreaks w (to ∷ ns)
cut_breaks w b ns are to lt fits = record { rising = rising; within = within }
  where
    above : (ms : List ℕ) → AreBreaks w (b ∷ ms) → to < break_or_end w (b ∷ ms) 1 → (k : ℕ) → k < length ms → to < get_or ms k 0
    above [] are lt k in_it = absurd (omega (arith, in_it))
    above (c ∷ ms) are lt zero in_it = (let e = end_at w b c ms are in omega (arith, lt, e))
    above (c ∷ ms) are lt (suc k) in_it = (let e = end_at w b c ms are in let u = are.rising 1 (suc (suc k)) (omega arith) (omega (arith, in_it)) in omega (arith, lt, e, u))

    rising : (j k : ℕ) → j < k → k < length (to ∷ ns) → get_or (to ∷ ns) j 0 < get_or (to ∷ ns) k 0
    rising zero zero up in_it = absurd (omega (arith, up))
    rising (suc j) zero up in_it = absurd (omega (arith, up))
    rising zero (suc k) up in_it = above ns are lt k (omega (arith, in_it))
    rising (suc j) (suc k) up in_it = are.rising (suc j) (suc k) up (omega (arith, in_it))

    within : (k : ℕ) → k < length (to ∷ ns) → get_or (to ∷ ns) k 0 < 2 ^ w
    within zero in_it = fits
    within (suc k) in_it = are.within (suc k) (omega (arith, in_it))

module _ (w b : ℕ) (ns : List ℕ) (breaks : AreBreaks w (b ∷ ns)) where
  pub some_first : b < break_or_end w (b ∷ ns) 1
  some_first = break_rises w (b ∷ ns) breaks 0 (omega arith)

  pub end_within : break_or_end w (b ∷ ns) 1 ≤ 2 ^ w
  end_within = break_within w (b ∷ ns) 1 breaks

  -- the first range has its addresses
  pub has_first : (n : ℕ) → b ≤ n → n < break_or_end w (b ∷ ns) 1 → has_address (b ∷ ns) n ≡ true
  has_first n ge lt = from_first b ns n ge ∙ ap not (rest_below w b ns breaks n lt)

  pub none_before : (n : ℕ) → n < b → has_address (b ∷ ns) n ≡ false
  none_before n lt = before_first b ns n breaks.rising lt

  pub end_out : break_or_end w (b ∷ ns) 1 < 2 ^ w → has_address (b ∷ ns) (break_or_end w (b ∷ ns) 1) ≡ false
  end_out lt = end_is_out w (b ∷ ns) breaks 0 (omega arith) refl lt

  -- without the addresses of the first range before another one
  pub cut_is : (to n : ℕ) → b ≤ to → to < break_or_end w (b ∷ ns) 1 → has_address (to ∷ ns) n ≡ (has_address (b ∷ ns) n && leb to n)
  cut_is to n le lt = elim (cases_lt n to) [
    | inl less ↦
        ap (λ c. cond c (not (has_address ns n)) (has_address ns n)) (lt-leb to n less) ∙ rest_below w b ns breaks n (omega (arith, less, lt))
        ∙ sym (ap (λ c. has_address (b ∷ ns) n && c) (lt-leb to n less) ∙ and_false (has_address (b ∷ ns) n))
    | inr ge ↦
        from_first to ns n ge ∙ sym (from_first b ns n (omega (arith, ge, le)))
        ∙ sym (ap (λ c. has_address (b ∷ ns) n && c) (le-leb to n ge) ∙ and_true (has_address (b ∷ ns) n))
  ]

-- ---- a network of the first range is taken

-- the breakpoints that the first range leaves
pub breaks_next : {K : Type 0} (w : ℕ) (bits : K → List Bool) (old : List ℕ) (next : Option K) (past : ℕ) → AreBreaks w old → 0 < length old
    → MatchOption next (break_or_end w old 1 ≡ past) (λ k. (number (bits k) ≡ past) × (number (bits k) < break_or_end w old 1))
    → MatchOption next (AreBreaks w (drop 2 old)) (λ k. AreBreaks w (number (bits k) ∷ drop 1 old))
breaks_next w bits [] next past are some goes = absurd (omega (arith, some))
breaks_next w bits (b ∷ ns) None past are some goes = gone_breaks w b ns are
breaks_next w bits (b ∷ ns) (Some k) past are some goes = cut_breaks w b ns are (number (bits k)) goes.1 (let e = break_within w (b ∷ ns) 1 are in let lt = goes.1 in omega (arith, e, lt))

-- the addresses that are left
pub left_next : {K : Type 0} (w : ℕ) (bits : K → List Bool) (old new : List ℕ) (next : Option K) (past : ℕ) → AreBreaks w old → 0 < length old → get_or old 0 0 ≤ past
    → MatchOption next (break_or_end w old 1 ≡ past) (λ k. (number (bits k) ≡ past) × (number (bits k) < break_or_end w old 1))
    → MatchOption next (new ≡ drop 2 old) (λ k. new ≡ number (bits k) ∷ drop 1 old)
    → (n : ℕ) → n < 2 ^ w → has_address new n ≡ (has_address old n && leb past n)
left_next w bits [] new next past are some le goes is n fits = absurd (omega (arith, some))
left_next w bits (b ∷ ns) new None past are some le goes is n fits = ap (λ l. has_address l n) is ∙ gone_is w b ns are n fits ∙ ap (λ e. has_address (b ∷ ns) n && leb e n) goes
left_next w bits (b ∷ ns) new (Some k) past are some le goes is n fits =
    ap (λ l. has_address l n) is ∙ cut_is w b ns are (number (bits k)) n (let e = goes.0 in omega (arith, e, le)) goes.1 ∙ ap (λ e. has_address (b ∷ ns) n && leb e n) goes.0

-- fewer addresses are left
pub fewer_left : {K : Type 0} (w : ℕ) (bits : K → List Bool) (old new : List ℕ) (next : Option K) (past : ℕ) → AreBreaks w old → 0 < length old → get_or old 0 0 < past
    → MatchOption next (break_or_end w old 1 ≡ past) (λ k. (number (bits k) ≡ past) × (number (bits k) < break_or_end w old 1))
    → MatchOption next (new ≡ drop 2 old) (λ k. new ≡ number (bits k) ∷ drop 1 old)
    → most_left w new < most_left w old
fewer_left w bits [] new next past are some lt goes is = absurd (omega (arith, some))
fewer_left w bits (b ∷ ns) new None past are some lt goes is = subst (λ l. most_left w l < 2 ^ w - b) (sym is) (gone ns are)
  where
    gone : (ms : List ℕ) → AreBreaks w (b ∷ ms) → most_left w (drop 1 ms) < 2 ^ w - b
    gone [] are = (let h = are.within 0 (omega arith) in omega (arith, h))
    gone (c ∷ []) are = (let h = are.within 0 (omega arith) in omega (arith, h))
    gone (c ∷ d ∷ ms) are = (let h = are.within 0 (omega arith) in let u = are.rising 0 2 (omega arith) (omega arith) in omega (arith, h, u))
fewer_left w bits (b ∷ ns) new (Some k) past are some lt goes is =
    subst (λ l. most_left w l < 2 ^ w - b) (sym is) (let h = are.within 0 (omega arith) in let e = goes.0 in omega (arith, h, e, lt))

-- the largest network at the first address
pub returns_largest : (w : ℕ) (old new : List ℕ) (s : List Bool) (len : ℕ) → AreBreaks w old → 0 < length old → len ≤ w → length s ≡ len → first_address w s ≡ get_or old 0 0
    → IsBlock w (get_or old 0 0) len (break_or_end w old 1) → ((k : ℕ) → k < len → IsBlock w (get_or old 0 0) k (break_or_end w old 1) → ⊥)
    → ((n : ℕ) → n < 2 ^ w → has_address new n ≡ (has_address old n && leb (get_or old 0 0 + 2 ^ (w - len)) n)) → ReturnsLargest w old s new
returns_largest w [] new s len are some short long here block none left = absurd (omega (arith, some))
returns_largest w (b ∷ ns) new s len are some short long here block none left =
    let past : past_address w s ≡ b + 2 ^ (w - len) = ap (λ n. first_address w s + 2 ^ (w - n)) long ∙ ap (λ n. n + 2 ^ (w - len)) here in
    let fits = block.fits in
    record {
      short = omega (arith, long, short);
      inside = λ n lo hi. has_first w b ns are n (omega (arith, lo, here)) (omega (arith, hi, past, fits));
      first = λ n lt. none_before w b ns are n (omega (arith, lt, here));
      largest = λ t fit inside first. (
          let l = most_at w (has_address (b ∷ ns)) b len (break_or_end w (b ∷ ns) 1) none (end_out w b ns are) (some_first w b ns are) t fit inside (first ∙ here) in
          omega (arith, l, long));
      left = λ n lt. left n lt ∙ ap (λ p. has_address (b ∷ ns) n && leb p n) (sym past);
    }

-- ---- the steps as the code makes them

module _ {K : Type 0} (w : ℕ) (bits : K → List Bool) (old new : List ℕ) (next : Option K) (at end past : ℕ) (are : AreBreaks w old) (some : 0 < length old) (here : at ≡ get_or old 0 0) (by : end ≡ break_or_end w old 1) (goes : MatchOption next (end ≡ past) (λ k. (number (bits k) ≡ past) × (number (bits k) < end))) where
  goes_on : MatchOption next (break_or_end w old 1 ≡ past) (λ k. (number (bits k) ≡ past) × (number (bits k) < break_or_end w old 1))
  goes_on = subst (λ e. MatchOption next (e ≡ past) (λ k. (number (bits k) ≡ past) × (number (bits k) < e))) by goes

  pub next_breaks : MatchOption next (AreBreaks w (drop 2 old)) (λ k. AreBreaks w (number (bits k) ∷ drop 1 old))
  next_breaks = breaks_next w bits old next past are some goes_on

  module _ (is : MatchOption next (new ≡ drop 2 old) (λ k. new ≡ number (bits k) ∷ drop 1 old)) where
    pub new_breaks : AreBreaks w new
    new_breaks = made next next_breaks is
      where
        made : (o : Option K) → MatchOption o (AreBreaks w (drop 2 old)) (λ k. AreBreaks w (number (bits k) ∷ drop 1 old)) → MatchOption o (new ≡ drop 2 old) (λ k. new ≡ number (bits k) ∷ drop 1 old) → AreBreaks w new
        made None b e = subst (AreBreaks w) (sym e) b
        made (Some k) b e = subst (AreBreaks w) (sym e) b

    pub new_left : at ≤ past → (n : ℕ) → n < 2 ^ w → has_address new n ≡ (has_address old n && leb past n)
    new_left le = left_next w bits old new next past are some (omega (arith, le, here)) goes_on is

    pub new_fewer : at < past → most_left w new < most_left w old
    new_fewer lt = fewer_left w bits old new next past are some (omega (arith, lt, here)) goes_on is

    pub step_largest : (s : List Bool) (len : ℕ) → past ≡ at + 2 ^ (w - len) → len ≤ w → length s ≡ len → first_address w s ≡ at → IsBlock w at len end → ((k : ℕ) → k < len → IsBlock w at k end → ⊥) → ReturnsLargest w old s new
    step_largest s len size short long first block none =
        let same : (k : ℕ) → IsBlock w (get_or old 0 0) k (break_or_end w old 1) → IsBlock w at k end = λ k b. subst (λ a. IsBlock w a k end) (sym here) (subst (λ e. IsBlock w (get_or old 0 0) k e) (sym by) b) in
        returns_largest w old new s len are some short long (first ∙ here)
        (subst (λ e. IsBlock w (get_or old 0 0) len e) by (subst (λ a. IsBlock w a len end) here block)) (λ k lt b. none k lt (same k b))
        (λ n lt. new_left (let p = pow_pos (w - len) in omega (arith, size, p)) n lt ∙ ap (λ p. has_address old n && leb p n) (size ∙ ap (λ a. a + 2 ^ (w - len)) here))
