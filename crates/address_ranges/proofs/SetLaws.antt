-- The laws of sets.
use Rattle.std.proofs.Common.{◌≡◌, ◌∙◌, ℕ, ◌-◌, ◌^◌, ◌<◌, ◌||◌, Bool, true, false, not, List, [], ◌∷◌, inl, inr, refl, sym, ap, ap₂, arith}
use Rattle.std.proofs.lemmas.Bool.{cases_lt}
use Rattle.std.specs.List.{list_any}
use Rattle.address_ranges.specs.Breaks.{AreBreaks, has_address}
use Rattle.address_ranges.specs.Laws.{BreakLaws}
use Rattle.address_ranges.specs.Networks.{is_between}
use Rattle.address_ranges.specs.Ranges.{ranges_of}
use Rattle.address_ranges.proofs.Breaks.{before_first, from_first, rest_before, same_breaks}
use Rattle.address_ranges.proofs.Fewest.{beyond_range, within_range, before_range}
use Rattle.address_ranges.proofs.Walks.{breaks_rest}

in_ranges : (w : ℕ) (ns : List ℕ) (n : ℕ) → AreBreaks w ns → n < 2 ^ w → has_address ns n ≡ list_any (λ r. is_between r.0 r.1 n) (ranges_of w ns)
in_ranges w [] n breaks fits = refl
in_ranges w (a ∷ []) n breaks fits = elim (cases_lt n a) [
  | inl less ↦ before_first a [] n breaks.rising less ∙ sym (ap (λ b. b || false) (before_range w a (2 ^ w - 1) n less))
  | inr ge ↦ from_first a [] n ge ∙ sym (ap (λ b. b || false) (within_range w a (2 ^ w - 1) n ge (omega (arith, fits))))
]
in_ranges w (a ∷ b ∷ ns) n breaks fits =
    let rest = breaks_rest w a (b ∷ ns) breaks in
    let up = breaks.rising 0 1 (omega arith) (omega arith) in
    let later = in_ranges w ns n (breaks_rest w b ns rest) fits in
    elim (cases_lt n a) [
      | inl less ↦
          before_first a (b ∷ ns) n breaks.rising less
          ∙ sym (ap₂ (λ x y. x || y) (before_range w a (b - 1) n less) (sym later ∙ rest_before b ns n rest.rising (omega (arith, less, up))))
      | inr ge ↦ elim (cases_lt n b) [
        | inl inside ↦
            from_first a (b ∷ ns) n ge ∙ ap not (before_first b ns n rest.rising inside)
            ∙ sym (ap (λ x. x || list_any (λ r. is_between r.0 r.1 n) (ranges_of w ns)) (within_range w a (b - 1) n ge (omega (arith, inside))))
        | inr past ↦
            from_first a (b ∷ ns) n ge ∙ ap not (from_first b ns n past) ∙ twice (has_address ns n) ∙ later
            ∙ sym (ap (λ x. x || list_any (λ r. is_between r.0 r.1 n) (ranges_of w ns)) (beyond_range w a (b - 1) n (omega (arith, past, up))))
      ]
    ]
  where
    twice : (h : Bool) → not (not h) ≡ h
    twice true = refl
    twice false = refl

pub break_laws : BreakLaws
break_laws = record { unique = same_breaks; in_ranges = in_ranges }
