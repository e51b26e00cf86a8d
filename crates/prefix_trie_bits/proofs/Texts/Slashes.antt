-- The text of an address has no slash, so the first slash of a network's text ends its address: for `from_str`.
use Rattle.std.proofs.Common.{◌≡◌, ◌≢◌, ℕ, ◌<◌, ◌≤◌, inl, inr, Bool, true, false, List, [], ◌∷◌, ◌++◌, length, get_or, decimal, Contains, refl, sym, ap, ◌∙◌, arith, suc}
use Rattle.std.proofs.lemmas.List.{get_or_default}
use Rattle.std.proofs.lemmas.Fmt.{decimal_is_IsNumeral}
use Rattle.std.specs.Char.{digit_value}
use Rattle.std.specs.Str.Parse.{AllDigits}
use Rattle.std.specs.Net.Grammar.{IsDotted, IsGroupsAfter, IsColonHex}

-- a text without a slash
abbrev pub Free : List ℕ → Type 0
Free [] = Unit {0}
Free (c ∷ cs) = (c ≢ 47) × Free cs

pub Free-from_get_or : (xs : List ℕ) → ((i : ℕ) → i < length xs → get_or xs i 0 ≢ 47) → Free xs
Free-from_get_or [] h = tt
Free-from_get_or (x ∷ xs) h = (h 0 (omega arith), Free-from_get_or xs (λ i l. h (suc i) (omega arith)))

Free-append : (xs ys : List ℕ) → Free xs → Free ys → Free (xs ++ ys)
Free-append [] ys h k = k
Free-append (x ∷ xs) ys h k = (h.0, Free-append xs ys h.1 k)

Free-digits : (radix : ℕ) (ds : List ℕ) → radix ≤ 36 → AllDigits radix ds → Free ds
Free-digits radix [] h all = tt
Free-digits radix (d ∷ ds) h all =
    let other : d ≢ 47 = λ e. let big : digit_value 47 < radix = rw e at all.0 in omega arith in
    (other, Free-digits radix ds h all.1)

Free-decimal : (n : ℕ) → n < 256 → Free (decimal n)
Free-decimal n h = Free-digits 10 (decimal n) (omega arith) (decimal_is_IsNumeral n (omega arith)).0.1

pub Free-dotted : (text octets : List ℕ) → IsDotted text octets → Free text
Free-dotted text octets h =
    let dot : Free (46 ∷ []) = ((λ e. omega arith), tt) in
    let (a, b, c, d) = h.fit in
    let first = Free-append _ _ (Free-append _ _ (Free-decimal h.a a) dot) (Free-decimal h.b b) in
    let second = Free-append _ _ (Free-append _ _ first dot) (Free-decimal h.c c) in
    rw h.spelled (Free-append _ _ (Free-append _ _ second dot) (Free-decimal h.d d))

Free-groups : (ipv4 : Bool) (lead text segments : List ℕ) → Free lead → IsGroupsAfter ipv4 lead text segments → Free text
Free-groups ipv4 lead text [] free h = rw h tt
Free-groups ipv4 lead text (s ∷ segments) free h =
    elim h [
      | inl (group, rest, spelled, is, more) ↦
          let after = Free-groups ipv4 (58 ∷ []) rest segments ((λ e. omega arith), tt) more in
          rw spelled (Free-append (lead ++ group) rest (Free-append lead group free (Free-digits 16 group (omega arith) is.0.0.1)) after)
      | inr (last, octets, fits, spelled, is, same) ↦ rw spelled (Free-append lead last free (Free-dotted last octets is))
    ]

pub Free-colon_hex : (text segments : List ℕ) → IsColonHex text segments → Free text
Free-colon_hex text segments h =
    elim h [
      | inl all ↦ Free-groups true [] text segments tt all.0
      | inr some ↦
          let front = Free-groups false [] some.head_text some.head tt some.head_groups in
          let back = Free-groups true [] some.tail_text some.tail tt some.tail_groups in
          rw some.spelled (Free-append _ _ (Free-append _ _ front ((λ e. omega arith), ((λ e. omega arith), tt))) back)
    ]

-- two texts with the same first slash have the same parts before and after it
pub same_cut : (xs ys xs' ys' : List ℕ) → Free xs → Free xs' → xs ++ 47 ∷ ys ≡ xs' ++ 47 ∷ ys' → (xs ≡ xs') × (ys ≡ ys')
same_cut [] ys [] ys' h k e = (refl, ap (λ t. tail t) e)
  where
    tail : List ℕ → List ℕ
    tail [] = []
    tail (c ∷ cs) = cs
same_cut [] ys (x' ∷ xs') ys' h k e = absurd (k.0 (ap (λ t. get_or t 0 0) (sym e)))
same_cut (x ∷ xs) ys [] ys' h k e = absurd (h.0 (ap (λ t. get_or t 0 0) e))
same_cut (x ∷ xs) ys (x' ∷ xs') ys' h k e =
    let first : x ≡ x' = cc in
    let later : xs ++ 47 ∷ ys ≡ xs' ++ 47 ∷ ys' = cc in
    let (front, back) = same_cut xs ys xs' ys' h.1 k.1 later in
    (cc, back)

pub contains : (text front back : List ℕ) → text ≡ front ++ 47 ∷ back → Contains text 47
contains text front back e = rw e (go front)
  where
    go : (front : List ℕ) → Contains (front ++ 47 ∷ back) 47
    go [] = (0, omega arith, refl)
    go (c ∷ cs) = let later = go cs in (suc later.0, omega (arith, later.1), later.2)

pub contains_none : (text : List ℕ) → ((i : ℕ) → i < length text → get_or text i 0 ≢ 47) → ¬ (Contains text 47)
contains_none text none (i, inside, is) = none i inside (get_or_default text i 0 47 inside ∙ is)
