-- Breakpoints of sets: what one more at the end changes, and that sets with the same addresses have the same ones.
use Rattle.std.proofs.Common.{◌≡◌, ◌∙◌, ℕ, zero, suc, ◌+◌, ◌%◌, ◌^◌, ◌<◌, ◌≤◌, Bool, true, false, not, cond, ◌&&◌, ◌||◌, leb, List, [], ◌∷◌, ◌++◌, length, length-append, get_or, inl, inr, refl, sym, ap, ap₂, subst, arith, pow_pos}
use Rattle.std.specs.Bool.{beq}
use Rattle.std.proofs.Math.Seq.{get_or-append_seam}
use Rattle.std.proofs.lemmas.Bool.{cases_eq, cases_lt, cases_order, eq-eqb, ne_eqb, le-leb, lt-leb}
use Rattle.std.proofs.lemmas.List.{get_or_append_left}
use Rattle.address_ranges.specs.Breaks.{AreBreaks, AreRising, IsRank, has_address, is_odd}

-- bits that differ
pub differ : (a b : Bool) → not (beq a b) ≡ ((a && not b) || (not a && b))
differ true true = refl
differ true false = refl
differ false true = refl
differ false false = refl

-- ---- whether a number is odd

pub odd-next : (n : ℕ) → is_odd (suc n) ≡ not (is_odd n)
odd-next n = elim (cases_eq (n % 2) 1) [
  | inl odd ↦ ne_eqb (suc n % 2) 1 (λ e. omega (arith, e, odd)) ∙ ap not (sym (eq-eqb (n % 2) 1 odd))
  | inr even ↦ eq-eqb (suc n % 2) 1 (omega (arith, even)) ∙ ap not (sym (ne_eqb (n % 2) 1 even))
]

-- ---- one more breakpoint

swapped : (a c h : Bool) → cond a (not (cond c (not h) h)) (cond c (not h) h) ≡ cond c (not (cond a (not h) h)) (cond a (not h) h)
swapped true true h = refl
swapped true false h = refl
swapped false true h = refl
swapped false false h = refl

pub has-push : (ns : List ℕ) (b n : ℕ) → has_address (ns ++ b ∷ []) n ≡ cond (leb b n) (not (has_address ns n)) (has_address ns n)
has-push [] b n = refl
has-push (a ∷ ns) b n = ap (λ h. cond (leb a n) (not h) h) (has-push ns b n) ∙ swapped (leb a n) (leb b n) (has_address ns n)

-- it changes no membership below it
pub has-push_above : (ns : List ℕ) (b n : ℕ) → n < b → has_address (ns ++ b ∷ []) n ≡ has_address ns n
has-push_above ns b n lt = has-push ns b n ∙ ap (λ c. cond c (not (has_address ns n)) (has_address ns n)) (lt-leb b n lt)

-- and it changes that of each address from it on
pub has-push_below : (ns : List ℕ) (b n : ℕ) → b ≤ n → has_address (ns ++ b ∷ []) n ≡ not (has_address ns n)
has-push_below ns b n le = has-push ns b n ∙ ap (λ c. cond c (not (has_address ns n)) (has_address ns n)) (le-leb b n le)

-- behind all breakpoints, their number decides
pub has-past : (ns : List ℕ) (n : ℕ) → ((k : ℕ) → k < length ns → get_or ns k 0 ≤ n) → has_address ns n ≡ is_odd (length ns)
has-past [] n all = refl
has-past (b ∷ ns) n all =
    ap (λ c. cond c (not (has_address ns n)) (has_address ns n)) (le-leb b n (all 0 (omega arith)))
    ∙ ap not (has-past ns n (λ k lt. all (suc k) (omega (arith, lt)))) ∙ sym (odd-next (length ns))

-- before all breakpoints there is no address
pub has-before : (ns : List ℕ) (n : ℕ) → ((k : ℕ) → k < length ns → n < get_or ns k 0) → has_address ns n ≡ false
has-before [] n all = refl
has-before (b ∷ ns) n all =
    ap (λ c. cond c (not (has_address ns n)) (has_address ns n)) (lt-leb b n (all 0 (omega arith))) ∙ has-before ns n (λ k lt. all (suc k) (omega (arith, lt)))

-- ---- lists that rise

-- the items of a list with one more
pub each_push : (ns : List ℕ) (n : ℕ) (P : ℕ → Type 0) → ((k : ℕ) → k < length ns → P (get_or ns k 0)) → P n → (k : ℕ) → k < length (ns ++ n ∷ []) → P (get_or (ns ++ n ∷ []) k 0)
each_push ns n P old new k lt =
    let longer : length (ns ++ n ∷ []) ≡ length ns + 1 = length-append ns (n ∷ []) in
    elim (cases_lt k (length ns)) [
      | inl in_old ↦ subst P (sym (get_or_append_left ns (n ∷ []) 0 k in_old)) (old k in_old)
      | inr at ↦
          let is : k ≡ length ns = omega (arith, at, lt, longer) in
          subst P (sym (ap (λ i. get_or (ns ++ n ∷ []) i 0) is ∙ get_or-append_seam ns n [] 0)) new
    ]

pub rising-push : (ns : List ℕ) (n : ℕ) → AreRising ns → ((k : ℕ) → k < length ns → get_or ns k 0 < n) → AreRising (ns ++ n ∷ [])
rising-push ns n up above j k lt in_it =
    let longer : length (ns ++ n ∷ []) ≡ length ns + 1 = length-append ns (n ∷ []) in
    let before : j < length ns = omega (arith, lt, in_it, longer) in
    let a = get_or_append_left ns (n ∷ []) 0 j before in
    elim (cases_lt k (length ns)) [
      | inl old ↦ (let b = get_or_append_left ns (n ∷ []) 0 k old in let u = up j k lt old in omega (arith, a, b, u))
      | inr new ↦
          let is : k ≡ length ns = omega (arith, new, in_it, longer) in
          let b : get_or (ns ++ n ∷ []) k 0 ≡ n = ap (λ i. get_or (ns ++ n ∷ []) i 0) is ∙ get_or-append_seam ns n [] 0 in
          let l = above j before in
          omega (arith, a, b, l)
    ]

pub breaks-push : (w : ℕ) (ns : List ℕ) (n : ℕ) → AreBreaks w ns → ((k : ℕ) → k < length ns → get_or ns k 0 < n) → n < 2 ^ w → AreBreaks w (ns ++ n ∷ [])
breaks-push w ns n breaks above fits = record {
  rising = rising-push ns n breaks.rising above;
  within = each_push ns n (λ m. m < 2 ^ w) breaks.within fits;
}

-- ---- the place of an address among breakpoints

-- their number decides
pub has-rank : (ns : List ℕ) (n rank : ℕ) → IsRank ns n rank → has_address ns n ≡ is_odd rank
has-rank ns n zero is = has-before ns n (λ k lt. is.above k (omega arith) lt)
has-rank [] n (suc rank) is = absurd (let h = is.inside in omega (arith, h))
has-rank (b ∷ ns) n (suc rank) is =
    ap (λ c. cond c (not (has_address ns n)) (has_address ns n)) (le-leb b n (is.below 0 (omega arith)))
    ∙ ap not (has-rank ns n rank (record {
      inside = (let h = is.inside in omega (arith, h));
      below = λ k lt. is.below (suc k) (omega (arith, lt));
      above = λ k le lt. is.above (suc k) (omega (arith, le)) (omega (arith, lt));
    })) ∙ sym (odd-next rank)

-- ---- sets with the same addresses

rising-rest : (b : ℕ) (ns : List ℕ) → AreRising (b ∷ ns) → AreRising ns
rising-rest b ns up j k lt in_it = up (suc j) (suc k) (omega (arith, lt)) (omega (arith, in_it))

-- a rising list has no address before its first breakpoint, and has that one
pub before_first : (b : ℕ) (ns : List ℕ) (n : ℕ) → AreRising (b ∷ ns) → n < b → has_address (b ∷ ns) n ≡ false
before_first b ns n up lt = has-before (b ∷ ns) n (λ k in_it. each k in_it)
  where
    each : (k : ℕ) → k < length (b ∷ ns) → n < get_or (b ∷ ns) k 0
    each zero in_it = lt
    each (suc k) in_it = (let u = up 0 (suc k) (omega arith) in_it in omega (arith, u, lt))

pub rest_before : (b : ℕ) (ns : List ℕ) (n : ℕ) → AreRising (b ∷ ns) → n ≤ b → has_address ns n ≡ false
rest_before b ns n up le = has-before ns n (λ k in_it. (let u = up 0 (suc k) (omega arith) (omega (arith, in_it)) in omega (arith, u, le)))

at_first : (b : ℕ) (ns : List ℕ) → AreRising (b ∷ ns) → has_address (b ∷ ns) b ≡ true
at_first b ns up =
    ap (λ c. cond c (not (has_address ns b)) (has_address ns b)) (le-leb b b (omega arith)) ∙ ap not (rest_before b ns b up (omega arith))

not_same : (a b : Bool) → not a ≡ not b → a ≡ b
not_same true true e = refl
not_same false false e = refl
not_same a b e = cc

pub from_first : (b : ℕ) (ns : List ℕ) (n : ℕ) → b ≤ n → has_address (b ∷ ns) n ≡ not (has_address ns n)
from_first b ns n le = ap (λ c. cond c (not (has_address ns n)) (has_address ns n)) (le-leb b n le)

-- sets with the same addresses have the same breakpoints
pub same_breaks : (w : ℕ) (xs ys : List ℕ) → AreBreaks w xs → AreBreaks w ys → ((n : ℕ) → n < 2 ^ w → has_address xs n ≡ has_address ys n) → xs ≡ ys
same_breaks w [] [] p q same = refl
same_breaks w [] (y ∷ ys) p q same = absurd (let e = same y (q.within 0 (omega arith)) in let h = at_first y ys q.rising in cc)
same_breaks w (x ∷ xs) [] p q same = absurd (let e = same x (p.within 0 (omega arith)) in let h = at_first x xs p.rising in cc)
same_breaks w (x ∷ xs) (y ∷ ys) p q same = elim (cases_order x y) [
  | inl is ↦ ap₂ (λ b bs. b ∷ bs) is (same_breaks w xs ys (rest x xs p) (rest y ys q) (λ n fits. elim (cases_lt n x) [
    | inl lt ↦ rest_before x xs n p.rising (omega (arith, lt)) ∙ sym (rest_before y ys n q.rising (omega (arith, lt, is)))
    | inr le ↦ not_same _ _ (sym (from_first x xs n le) ∙ same n fits ∙ from_first y ys n (omega (arith, le, is)))
  ]))
  | inr apart ↦ elim apart [
    | inl lt ↦ absurd (let e = same x (p.within 0 (omega arith)) in let h = at_first x xs p.rising in let l = before_first y ys x q.rising lt in cc)
    | inr gt ↦ absurd (let e = same y (q.within 0 (omega arith)) in let h = at_first y ys q.rising in let l = before_first x xs y p.rising gt in cc)
  ]
]
  where
    rest : (b : ℕ) (ns : List ℕ) → AreBreaks w (b ∷ ns) → AreBreaks w ns
    rest b ns breaks = record { rising = rising-rest b ns breaks.rising; within = λ k lt. breaks.within (suc k) (omega (arith, lt)) }

-- ---- the complement

pub has-from_zero : (ns : List ℕ) (n : ℕ) → has_address (0 ∷ ns) n ≡ not (has_address ns n)
has-from_zero ns n = from_first 0 ns n (omega arith)

zero_first : (ns : List ℕ) → ((k : ℕ) → k < length ns → 0 < get_or ns k 0) → AreRising ns → AreRising (0 ∷ ns)
zero_first ns above up zero zero lt in_it = absurd (omega (arith, lt))
zero_first ns above up zero (suc k) lt in_it = above k (omega (arith, in_it))
zero_first ns above up (suc j) zero lt in_it = absurd (omega (arith, lt))
zero_first ns above up (suc j) (suc k) lt in_it = up j k (omega (arith, lt)) (omega (arith, in_it))

-- if 0 is a breakpoint, the complement has the others
pub toggled_off : (w : ℕ) (b : ℕ) (ns : List ℕ) → b ≡ 0 → AreBreaks w (b ∷ ns) → AreBreaks w ns × ((n : ℕ) → has_address ns n ≡ not (has_address (b ∷ ns) n))
toggled_off w b ns is breaks = (
  record { rising = rising-rest b ns breaks.rising; within = λ k lt. breaks.within (suc k) (omega (arith, lt)) },
  λ n. twice (has_address ns n) ∙ ap not (sym (has-from_zero ns n) ∙ ap (λ c. has_address (c ∷ ns) n) (sym is)),
)
  where
    twice : (h : Bool) → h ≡ not (not h)
    twice true = refl
    twice false = refl

-- otherwise it has 0 too
pub toggled_on : (w : ℕ) (ns : List ℕ) → (0 < length ns → 0 < get_or ns 0 0) → AreBreaks w ns → AreBreaks w (0 ∷ ns) × ((n : ℕ) → has_address (0 ∷ ns) n ≡ not (has_address ns n))
toggled_on w ns above breaks = (record { rising = zero_first ns each breaks.rising; within = fits }, has-from_zero ns)
  where
    each : (k : ℕ) → k < length ns → 0 < get_or ns k 0
    each zero lt = above (omega (arith, lt))
    each (suc k) lt = (let u = breaks.rising 0 (suc k) (omega arith) lt in omega (arith, u))

    fits : (k : ℕ) → k < length (0 ∷ ns) → get_or (0 ∷ ns) k 0 < 2 ^ w
    fits zero lt = pow_pos w
    fits (suc k) lt = breaks.within k (omega (arith, lt))

-- lists of numbers are equal if their items are
pub same_items : (xs ys : List ℕ) → length xs ≡ length ys → ((k : ℕ) → k < length xs → get_or xs k 0 ≡ get_or ys k 0) → xs ≡ ys
same_items [] [] long same = refl
same_items [] (y ∷ ys) long same = absurd (omega (arith, long))
same_items (x ∷ xs) [] long same = absurd (omega (arith, long))
same_items (x ∷ xs) (y ∷ ys) long same = ap₂ (λ z zs. z ∷ zs) (same 0 (omega arith)) (same_items xs ys (omega (arith, long)) (λ k lt. same (suc k) (omega (arith, lt))))
