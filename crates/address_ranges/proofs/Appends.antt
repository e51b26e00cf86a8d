-- What one more range at the end adds to a set.
use Rattle.std.proofs.Common.{Option, None, Some, IfSome, Ordering, Less, Equal, Greater, MatchBool, ◌≡◌, ◌∙◌, ℕ, ◌+◌, ◌-◌, ◌*◌, ◌/◌, ◌%◌, ◌^◌, ◌<◌, ◌≤◌, ◌&&◌, ◌||◌, Bool, true, false, not, ltb, max, List, [], ◌∷◌, ◌++◌, length, length-append, get_or, set, suc, take, inl, inr, refl, sym, ap, ap₂, subst, arith}
use Rattle.std.specs.Bool.{OnTrue}
use Rattle.std.specs.Cmp.{ranks}
use Rattle.std.specs.Ordering.{MatchOrdering, is_le, is_lt, nat_cmp}
use Rattle.prefix_trie_bits.specs.Model.Bits.{number}
use Rattle.std.proofs.Math.Seq.{get_or-append_seam}
use Rattle.std.proofs.lemmas.Bool.{cases_lt, eq-eqb, eqb-true, eqb-false, ne_eqb, MatchBool-at_true, le-leb, lt-leb, lt-ltb, le-ltb}
use Rattle.std.proofs.lemmas.List.{drop_all, get_or_append_left, map-set, set_split, length-take-le, take_more, take_all, append_assoc}
use Rattle.address_ranges.specs.Appends.{AddsRange, EndsFrom, StartBy, end_of, extended, extended_by, is_inside, past_number}
use Rattle.address_ranges.specs.Breaks.{AreBreaks, AreRising, has_address, is_odd, numbers}
use Rattle.address_ranges.proofs.Keys.{as_many, number_at}
use Rattle.address_ranges.proofs.Breaks.{breaks-push, each_push, has-past, has-push_above, has-push_below}
use Rattle.address_ranges.proofs.Blocks.{match_with}

or_false : (b : Bool) → b ≡ (b || false)
or_false true = refl
or_false false = refl

or_true : (b : Bool) → (b || true) ≡ true
or_true true = refl
or_true false = refl

-- ---- addresses of a range

module _ (first end n : ℕ) where
  before_it : n < first → is_inside first end n ≡ false
  before_it lt = ap (λ b. b && ltb n end) (lt-leb first n lt)

  in_it : first ≤ n → n < end → is_inside first end n ≡ true
  in_it le lt = ap (λ b. b && ltb n end) (le-leb first n le) ∙ lt-ltb n end lt

  after_it : first ≤ n → end ≤ n → is_inside first end n ≡ false
  after_it le ge = ap (λ b. b && ltb n end) (le-leb first n le) ∙ le-ltb n end ge

-- ---- breakpoints by their places

odd_is : (n : ℕ) → is_odd n ≡ true → n % 2 ≡ 1
odd_is n e = eqb-true (n % 2) 1 e

even_is : (n : ℕ) → is_odd n ≡ false → n % 2 ≡ 0
even_is n e = let h = eqb-false (n % 2) 1 e in omega (arith, h)

-- an odd number of breakpoints end with a start
all_by : (ns : List ℕ) (n : ℕ) → AreRising ns → StartBy ns n → is_odd (length ns) ≡ true → (k : ℕ) → k < length ns → get_or ns k 0 ≤ n
all_by ns n up starts odd k lt =
    let half : ℕ = length ns / 2 in
    let long : length ns ≡ 2 * (length ns / 2) + 1 = (let o = odd_is (length ns) odd in omega (arith, o)) in
    let last = starts (length ns / 2) (omega (arith, long)) in
    elim (cases_lt k (2 * (length ns / 2))) [
      | inl less ↦ (let u = up k (2 * (length ns / 2)) less (omega (arith, long)) in omega (arith, u, last))
      | inr ge ↦ (let is : k ≡ 2 * (length ns / 2) = omega (arith, ge, lt, long) in let e = ap (λ i. get_or ns i 0) is in omega (arith, e, last))
    ]

-- the last start decides
pub starts_by : (ns : List ℕ) (n : ℕ) → AreRising ns → (0 < length ns → get_or ns ((length ns - 1) / 2 * 2) 0 ≤ n) → StartBy ns n
starts_by ns n up last k lt =
    let at : ℕ = (length ns - 1) / 2 * 2 in
    let some : 0 < length ns = omega (arith, lt) in
    let in_it : (length ns - 1) / 2 * 2 < length ns = omega (arith, some) in
    let le : 2 * k ≤ (length ns - 1) / 2 * 2 = omega (arith, lt) in
    let l = last some in
    elim (cases_lt (2 * k) ((length ns - 1) / 2 * 2)) [
      | inl less ↦ (let u = up (2 * k) ((length ns - 1) / 2 * 2) less in_it in omega (arith, u, l))
      | inr ge ↦ (let is : 2 * k ≡ (length ns - 1) / 2 * 2 = omega (arith, ge, le) in let e = ap (λ i. get_or ns i 0) is in omega (arith, e, l))
    ]

module _ (w first end : ℕ) (fits : first < 2 ^ w) where
  -- a set without an end in this place has all addresses from its last start on
  pub adds_none : (ns : List ℕ) → AreBreaks w ns → StartBy ns first → is_odd (length ns) ≡ true → AddsRange w ns first end ns
  adds_none ns breaks starts odd = record {
    breaks = breaks;
    starts = starts;
    added = λ n lt. elim (cases_lt n first) [
      | inl less ↦ or_false (has_address ns n) ∙ ap (λ b. has_address ns n || b) (sym (before_it first end n less))
      | inr ge ↦ (let e = has-past ns n (λ k l. (let h = all_by ns first breaks.rising starts odd k l in omega (arith, h, ge))) ∙ odd in e ∙ ap (λ b. b || is_inside first end n) (sym e))
    ];
  }

  -- a range after all breakpoints
  module _ (ns : List ℕ) (breaks : AreBreaks w ns) (even : is_odd (length ns) ≡ false) (above : (k : ℕ) → k < length ns → get_or ns k 0 < first) where
    none_past : (n : ℕ) → first ≤ n → has_address ns n ≡ false
    none_past n ge = has-past ns n (λ k l. (let h = above k l in omega (arith, h, ge))) ∙ even

    front : AreBreaks w (ns ++ first ∷ [])
    front = breaks-push w ns first breaks above fits

    front_by : (k : ℕ) → k < length (ns ++ first ∷ []) → get_or (ns ++ first ∷ []) k 0 ≤ first
    front_by = each_push ns first (λ m. m ≤ first) (λ k l. (let h = above k l in omega (arith, h))) (omega arith)

    old : (n : ℕ) → n < first → has_address (ns ++ first ∷ []) n ≡ (has_address ns n || is_inside first end n)
    old n less = has-push_above ns first n less ∙ or_false (has_address ns n) ∙ ap (λ b. has_address ns n || b) (sym (before_it first end n less))

    from_it : (n : ℕ) → first ≤ n → has_address (ns ++ first ∷ []) n ≡ true
    from_it n ge = has-push_below ns first n ge ∙ ap not (none_past n ge)

    pub adds_open : 2 ^ w ≡ end → AddsRange w ns first end (ns ++ first ∷ [])
    adds_open is = record {
      breaks = front;
      starts = λ k lt. front_by (2 * k) lt;
      added = λ n lt. elim (cases_lt n first) [
        | inl less ↦ old n less
        | inr ge ↦ from_it n ge ∙ sym (ap (λ b. has_address ns n || b) (in_it first end n ge (omega (arith, lt, is))) ∙ or_true (has_address ns n))
      ];
    }

    pub adds_closed : first < end → end < 2 ^ w → AddsRange w ns first end ((ns ++ first ∷ []) ++ end ∷ [])
    adds_closed some ends = record {
      breaks = breaks-push w (ns ++ first ∷ []) end front (λ k l. (let h = front_by k l in omega (arith, h, some))) ends;
      starts = λ k lt. (
          let e = even_is (length ns) even in
          let a = length-append ns (first ∷ []) in
          let b = length-append (ns ++ first ∷ []) (end ∷ []) in
          let l : 2 * k < length (ns ++ first ∷ []) = omega (arith, lt, e, a, b) in
          let g = get_or_append_left (ns ++ first ∷ []) (end ∷ []) 0 (2 * k) l in
          let h = front_by (2 * k) l in
          omega (arith, g, h));
      added = λ n lt. elim (cases_lt n end) [
        | inl less ↦ has-push_above (ns ++ first ∷ []) end n less ∙ (elim (cases_lt n first) [
          | inl below ↦ old n below
          | inr ge ↦ from_it n ge ∙ sym (ap (λ b. has_address ns n || b) (in_it first end n ge less) ∙ or_true (has_address ns n))
        ])
        | inr ge ↦
            has-push_below (ns ++ first ∷ []) end n ge ∙ ap not (from_it n (omega (arith, ge, some)))
            ∙ sym (ap₂ ◌||◌ (none_past n (omega (arith, ge, some))) (after_it first end n (omega (arith, ge, some)) ge))
      ];
    }

  -- a range that begins in the last one, or where it ends
  module _ (ns : List ℕ) (e : ℕ) (breaks : AreBreaks w (ns ++ e ∷ [])) (odd : is_odd (length ns) ≡ true) (starts : StartBy (ns ++ e ∷ []) first) (touch : first ≤ e) where
    longer : length (ns ++ e ∷ []) ≡ length ns + 1
    longer = length-append ns (e ∷ [])

    rest : AreBreaks w ns
    rest = record {
      rising = λ j k lt in_ns. (let u = breaks.rising j k lt (omega (arith, in_ns, longer)) in let a = get_or_append_left ns (e ∷ []) 0 j (omega (arith, lt, in_ns)) in let b = get_or_append_left ns (e ∷ []) 0 k in_ns in omega (arith, u, a, b));
      within = λ k lt. (let h = breaks.within k (omega (arith, lt, longer)) in let a = get_or_append_left ns (e ∷ []) 0 k lt in omega (arith, h, a));
    }

    below_last : (k : ℕ) → k < length ns → get_or ns k 0 < e
    below_last k lt = (
        let u = breaks.rising k (length ns) lt (omega (arith, longer)) in
        let a = get_or_append_left ns (e ∷ []) 0 k lt in
        let b = get_or-append_seam ns e [] 0 in
        omega (arith, u, a, b))

    rest_starts : StartBy ns first
    rest_starts k lt = (let h = starts k (omega (arith, lt, longer)) in let a = get_or_append_left ns (e ∷ []) 0 (2 * k) lt in omega (arith, h, a))

    in_last : (n : ℕ) → first ≤ n → has_address ns n ≡ true
    in_last n ge = has-past ns n (λ k l. (let h = all_by ns first rest.rising rest_starts odd k l in omega (arith, h, ge))) ∙ odd

    pub extends_open : 2 ^ w ≡ end → AddsRange w (ns ++ e ∷ []) first end ns
    extends_open is = record {
      breaks = rest;
      starts = rest_starts;
      added = λ n lt. elim (cases_lt n first) [
        | inl less ↦
            sym (has-push_above ns e n (omega (arith, less, touch))) ∙ or_false (has_address (ns ++ e ∷ []) n)
            ∙ ap (λ b. has_address (ns ++ e ∷ []) n || b) (sym (before_it first end n less))
        | inr ge ↦ in_last n ge ∙ sym (ap (λ b. has_address (ns ++ e ∷ []) n || b) (in_it first end n ge (omega (arith, lt, is))) ∙ or_true (has_address (ns ++ e ∷ []) n))
      ];
    }

    pub extends_closed : end < 2 ^ w → AddsRange w (ns ++ e ∷ []) first end (ns ++ max e end ∷ [])
    extends_closed ends =
        let last_fits : e < 2 ^ w = (let h = breaks.within (length ns) (omega (arith, longer)) in let b = get_or-append_seam ns e [] 0 in omega (arith, h, b)) in
        record {
          breaks = breaks-push w ns (max e end) rest (λ k l. (let h = below_last k l in omega (arith, h))) (omega (arith, last_fits, ends));
          starts = λ k lt. (
              let o = odd_is (length ns) odd in
              let a = length-append ns (max e end ∷ []) in
              let l : 2 * k < length ns = omega (arith, lt, o, a) in
              let g = get_or_append_left ns (max e end ∷ []) 0 (2 * k) l in
              let h = rest_starts k l in
              omega (arith, g, h));
          added = λ n lt. elim (cases_lt n first) [
            | inl less ↦
                has-push_above ns (max e end) n (omega (arith, less, touch)) ∙ sym (has-push_above ns e n (omega (arith, less, touch))) ∙ or_false (has_address (ns ++ e ∷ []) n)
                ∙ ap (λ b. has_address (ns ++ e ∷ []) n || b) (sym (before_it first end n less))
            | inr ge ↦ elim (cases_lt n end) [
              | inl under ↦
                  has-push_above ns (max e end) n (omega (arith, under)) ∙ in_last n ge
                  ∙ sym (ap (λ b. has_address (ns ++ e ∷ []) n || b) (in_it first end n ge under) ∙ or_true (has_address (ns ++ e ∷ []) n))
              | inr over ↦ (elim (cases_lt n e) [
                | inl inside ↦ has-push_above ns (max e end) n (omega (arith, inside)) ∙ sym (has-push_above ns e n inside)
                | inr outside ↦ has-push_below ns (max e end) n (omega (arith, outside, over)) ∙ sym (has-push_below ns e n outside)
              ]) ∙ or_false (has_address (ns ++ e ∷ []) n) ∙ ap (λ b. has_address (ns ++ e ∷ []) n || b) (sym (after_it first end n ge over))
            ]
          ];
        }

-- ---- orders of two numbers

by_lt : (o : Ordering) (a b : ℕ) → MatchOrdering o (a < b) (a ≡ b) (b < a) → MatchBool (is_lt o) (a < b) (b ≤ a)
by_lt Less a b h = h
by_lt Equal a b h = omega (arith, h)
by_lt Greater a b h = omega (arith, h)

by_le : (o : Ordering) (a b : ℕ) → MatchOrdering o (a < b) (a ≡ b) (b < a) → MatchBool (is_le o) (a ≤ b) (b < a)
by_le Less a b h = omega (arith, h)
by_le Equal a b h = omega (arith, h)
by_le Greater a b h = h

true_from : (b : Bool) (P P' Q : Type 0) → (P → P') → MatchBool b P Q → OnTrue b P'
true_from true P P' Q f h = f h
true_from false P P' Q f h = tt

pub lt_from : (a b : ℕ) (o : Ordering) → true ≡ is_lt o → o ≡ nat_cmp a b → a < b
lt_from a b o e is = MatchBool-at_true _ _ (ap is_lt (sym is) ∙ sym e) (by_lt (nat_cmp a b) a b (ranks a b))

-- the last breakpoint decides whether all are below a number
pub last_decides : (ns : List ℕ) (n at last : ℕ) (b : Bool) → AreRising ns → 0 < length ns → at ≡ length ns - 1 → get_or ns at 0 ≡ last → b ≡ is_lt (nat_cmp last n)
    → MatchBool b ((k : ℕ) → k < length ns → get_or ns k 0 < n) (EndsFrom n ns)
last_decides ns n at last b up some is here e =
    subst (λ c. MatchBool c ((k : ℕ) → k < length ns → get_or ns k 0 < n) (EndsFrom n ns)) (sym e)
    (match_with (is_lt (nat_cmp last n)) (last < n) _ (n ≤ last) _
    (λ lt k in_it. elim (cases_lt k at) [
      | inl less ↦ (let u = up k at less (omega (arith, is, some)) in omega (arith, u, here, lt))
      | inr ge ↦ (let same : k ≡ at = omega (arith, ge, in_it, is) in let f = ap (λ i. get_or ns i 0) same in omega (arith, f, here, lt))
    ])
    (λ le. (some, (let f = ap (λ i. get_or ns i 0) is in omega (arith, f, here, le))))
    (by_lt (nat_cmp last n) last n (ranks last n)))

-- the last start decides whether each range starts by a number
pub start_decides : (ns : List ℕ) (n at start : ℕ) (b : Bool) → AreRising ns → at ≡ (length ns - 1) / 2 * 2 → get_or ns at 0 ≡ start → b ≡ is_le (nat_cmp start n) → OnTrue b (StartBy ns n)
start_decides ns n at start b up is here e =
    subst (λ c. OnTrue c (StartBy ns n)) (sym e)
    (true_from (is_le (nat_cmp start n)) (start ≤ n) (StartBy ns n) (n < start)
    (λ le. starts_by ns n up (λ _. (let f = ap (λ i. get_or ns i 0) is in omega (arith, f, here, le)))) (by_le (nat_cmp start n) start n (ranks start n)))

-- ---- by the end of the range

pub is_even : (ns : List ℕ) (len : ℕ) → length ns ≡ len → (len % 2 ≡ 1 → ⊥) → is_odd (length ns) ≡ false
is_even ns len is h = ne_eqb (length ns % 2) 1 (λ e. h (omega (arith, e, is)))

module _ {K : Type 0} (bits : K → List Bool) (w first : ℕ) (fits : first < 2 ^ w) (ns out : List ℕ) (breaks : AreBreaks w ns) (even : is_odd (length ns) ≡ false) where
  pub adds_after : (past : Option K) → ((k : ℕ) → k < length ns → get_or ns k 0 < first) → first < end_of w bits past → IfSome past (λ k. number (bits k) < 2 ^ w) → out ≡ ns ++ first ∷ past_number bits past
      → AddsRange w ns first (end_of w bits past) out
  adds_after None above some ends is = subst (λ o. AddsRange w ns first (2 ^ w) o) (sym is) (adds_open w first (2 ^ w) fits ns breaks even above refl)
  adds_after (Some p) above some ends is =
      subst (λ o. AddsRange w ns first (number (bits p)) o) (append_assoc ns (first ∷ []) (number (bits p) ∷ []) ∙ sym is) (adds_closed w first (number (bits p)) fits ns breaks even above some ends)

  pub adds_extended : (past : Option K) → EndsFrom first ns → StartBy ns first → IfSome past (λ k. number (bits k) < 2 ^ w) → out ≡ extended ns (past_number bits past)
      → AddsRange w ns first (end_of w bits past) out
  adds_extended past ends starts fit is =
      let m : List ℕ = take (length ns - 1) ns in
      let e : ℕ = get_or ns (length ns - 1) 0 in
      let some = ends.0 in
      let split : ns ≡ take (length ns - 1) ns ++ get_or ns (length ns - 1) 0 ∷ [] =
      sym (take_all (length ns - 1 + 1) ns (omega (arith, some))) ∙ take_more ns (length ns - 1) 0 (omega (arith, some)) in
      let long : length (take (length ns - 1) ns) ≡ length ns - 1 = length-take-le (length ns - 1) ns (omega arith) in
      let odd : is_odd (length (take (length ns - 1) ns)) ≡ true = eq-eqb _ 1 (let v = even_is (length ns) even in omega (arith, v, long, some)) in
      let breaks' : AreBreaks w (m ++ e ∷ []) = subst (AreBreaks w) split breaks in
      let starts' : StartBy (m ++ e ∷ []) first = subst (λ xs. StartBy xs first) split starts in
      subst (λ xs. AddsRange w xs first (end_of w bits past) out) (sym split) (by_past m e odd breaks' starts' ends.1 past fit is)
    where
      by_past : (m : List ℕ) (e : ℕ) → is_odd (length m) ≡ true → AreBreaks w (m ++ e ∷ []) → StartBy (m ++ e ∷ []) first → first ≤ e → (past : Option K) → IfSome past (λ k. number (bits k) < 2 ^ w)
          → out ≡ extended_by m e (past_number bits past) → AddsRange w (m ++ e ∷ []) first (end_of w bits past) out
      by_past m e odd breaks starts touch None fit is = subst (λ o. AddsRange w (m ++ e ∷ []) first (2 ^ w) o) (sym is) (extends_open w first (2 ^ w) fits m e breaks odd starts touch refl)
      by_past m e odd breaks starts touch (Some p) fit is = subst (λ o. AddsRange w (m ++ e ∷ []) first (number (bits p)) o) (sym is) (extends_closed w first (number (bits p)) fits m e breaks odd starts touch fit)

-- a last key that is replaced by a greater one
pub set_last : {K : Type 0} (bits : K → List Bool) (keys : List K) (i : ℕ) (last p : K) (past : Option K) → i + 1 ≡ length keys → past ≡ Some p → number (bits last) < number (bits p) → last ≡ get_or keys i last
    → numbers bits (set keys i p) ≡ extended (numbers bits keys) (past_number bits past)
set_last bits keys i last p past in_it is lt here =
    let ns : List ℕ = numbers bits keys in
    let n : ℕ = number (bits p) in
    let many = as_many bits keys in
    let at : i ≡ length (numbers bits keys) - 1 = omega (arith, many, in_it) in
    let value : get_or (numbers bits keys) i 0 ≡ number (bits last) = number_at bits keys i last (omega (arith, in_it)) ∙ ap (λ k. number (bits k)) (sym here) in
    map-set (λ k. number (bits k)) keys i p ∙ set_split ns i n (omega (arith, many, in_it))
    ∙ ap (λ more. take i ns ++ n ∷ more) (drop_all (suc i) ns (omega (arith, many, in_it)))
    ∙ ap (λ m. take i ns ++ m ∷ []) (let m : n ≡ max (get_or ns i 0) n = omega (arith, value, lt) in m)
    ∙ ap (λ j. take j ns ++ max (get_or ns j 0) n ∷ []) at
    ∙ ap (λ o. extended ns (past_number bits o)) (sym is)
