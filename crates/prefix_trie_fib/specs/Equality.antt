-- Equality of ranges, with the laws that equality of values has. This project's own.
use Rattle.std.specs.Prelude.{◌≡◌, ℕ, Bool, true, false, ◌&&◌, Option, None, Some, nat_eq, refl}
use Rattle.std.specs.Option.{option_eq}
use Rattle.std.specs.Cmp.{IsEquivalence, IsPartialEquivalence, and_equiv, and_per, nat_eq_equiv, on_equiv, on_per, partial_equiv_from_equiv}
use Rattle.std.specs.Cmp.Lexicographic.{options_equiv}

-- two ranges start at the same address, and both values are missing or equal
abbrev pub range_eq : {T : Type 0} → (T → T → Bool) → ℕ × Option T → ℕ × Option T → Bool
range_eq eq x y = nat_eq x.0 y.0 && option_eq eq x.1 y.1

module _ {T : Type 0} {E : T → T → Bool} (p : IsPartialEquivalence E) where
  symm : (x y : Option T) → option_eq E x y ≡ option_eq E y x
  symm None None = refl
  symm None (Some y) = refl
  symm (Some x) None = refl
  symm (Some x) (Some y) = p.symm x y

  trans : (x y z : Option T) → option_eq E x y ≡ true → option_eq E y z ≡ true → option_eq E x z ≡ true
  trans None None z h k = k
  trans None (Some y) z h k = absurd (let e : false ≡ true = h in cc)
  trans (Some x) None z h k = absurd (let e : false ≡ true = h in cc)
  trans (Some x) (Some y) None h k = k
  trans (Some x) (Some y) (Some z) h k = p.trans x y z h k

  pub range_per : IsPartialEquivalence (range_eq E)
  range_per = and_per (on_per (λ r. r.0) (partial_equiv_from_equiv nat_eq_equiv)) (on_per (λ r. r.1) (record { symm = symm; trans = trans }))

pub range_equiv : {T : Type 0} {E : T → T → Bool} → IsEquivalence E → IsEquivalence (range_eq E)
range_equiv e = and_equiv (on_equiv (λ r. r.0) nat_eq_equiv) (on_equiv (λ r. r.1) (options_equiv e))
