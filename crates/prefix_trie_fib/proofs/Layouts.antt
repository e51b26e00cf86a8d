-- Ranges by the upper 64 bits of their first addresses are the same ranges.
use Rattle.std.proofs.Common.{◌≡◌, ◌∙◌, zero, suc, ℕ, ◌+◌, ◌-◌, ◌*◌, ◌^◌, ◌<◌, ◌≤◌, cond, List, [], ◌∷◌, ◌++◌, length, take, get_or, inl, inr, ap, sym, arith, refl, leb, take-suc, pow_pos}
use Rattle.std.proofs.Math.Nat.{lt_of_mul-lt-mul_right, mul-le-mul_right}
use Rattle.std.proofs.lemmas.Bool.{cases_lt, le-leb, lt-leb}
use Rattle.std.proofs.lemmas.List.{get_or-map, length-map, map-append}
use Rattle.prefix_trie_fib.specs.Layouts.{widened}
use Rattle.prefix_trie_fib.specs.Line.{IsDivision, value_along}

-- a first address is compared by its upper 64 bits
one_test : (w a u n : ℕ) → u * 2 ^ (w - 64) ≤ n → n < (u + 1) * 2 ^ (w - 64) → leb (a * 2 ^ (w - 64)) n ≡ leb a u
one_test w a u n low high = elim (cases_lt u a) [
  | inl above ↦
      let le : (u + 1) * 2 ^ (w - 64) ≤ a * 2 ^ (w - 64) = mul-le-mul_right {m = u + 1} {n = a} (2 ^ (w - 64)) (omega (arith, above)) in
      lt-leb (a * 2 ^ (w - 64)) n (omega (arith, le, high)) ∙ sym (lt-leb a u above)
  | inr by ↦
      let le : a * 2 ^ (w - 64) ≤ u * 2 ^ (w - 64) = mul-le-mul_right {m = a} {n = u} (2 ^ (w - 64)) by in
      le-leb (a * 2 ^ (w - 64)) n (omega (arith, le, low)) ∙ sym (le-leb a u by)
]

module _ {V : Type 0} (w : ℕ) where
  -- a range, by its place
  pub widened_at : (rs : List (ℕ × V)) (i : ℕ) (d e : ℕ × V) → i < length rs → get_or (widened w rs) i d ≡ ((get_or rs i e).0 * 2 ^ (w - 64), (get_or rs i e).1)
  widened_at rs i d e lt = get_or-map (λ r. (r.0 * 2 ^ (w - 64), r.1)) rs i e d lt

  pub widened_length : (rs : List (ℕ × V)) → length (widened w rs) ≡ length rs
  widened_length rs = length-map {A = ℕ × V} {B = ℕ × V} rs (λ r. (r.0 * 2 ^ (w - 64), r.1))

  -- the value of an address is that of its upper 64 bits
  pub widened_along : (h : V) (rs : List (ℕ × V)) (u n : ℕ) → u * 2 ^ (w - 64) ≤ n → n < (u + 1) * 2 ^ (w - 64) → value_along h (widened w rs) n ≡ value_along h rs u
  widened_along h [] u n low high = refl
  widened_along h (r ∷ rs) u n low high =
      ap (λ b. cond b (value_along r.1 (widened w rs) n) h) (one_test w r.0 u n low high) ∙ ap (λ v. cond (leb r.0 u) v h) (widened_along r.1 rs u n low high)

  -- they are a division of the upper 64 bits
  pub upper_division : (rs : List (ℕ × V)) → IsDivision (widened w rs) → IsDivision rs
  upper_division rs division = record {
    some = let s = division.some in let l = widened_length rs in omega (arith, s, l);
    first = λ d.
        let at = ap {A = ℕ × V} (λ r. r.0) (widened_at rs 0 d d (let s = division.some in let l = widened_length rs in omega (arith, s, l))) in
        none_of (get_or rs 0 d).0 (sym at ∙ division.first d);
    rising = λ j k d lt in_it.
        let l = widened_length rs in
        let a = ap {A = ℕ × V} (λ r. r.0) (widened_at rs j d d (omega (arith, lt, in_it))) in
        let b = ap {A = ℕ × V} (λ r. r.0) (widened_at rs k d d in_it) in
        let up = division.rising j k d lt (omega (arith, in_it, l)) in
        lt_of_mul-lt-mul_right (2 ^ (w - 64)) {m = (get_or rs j d).0} {n = (get_or rs k d).0} (omega (arith, a, b, up));
  }
    where
      none_of : (a : ℕ) → a * 2 ^ (w - 64) ≡ 0 → a ≡ 0
      none_of zero e = refl
      none_of (suc a) e =
          let le : 1 * 2 ^ (w - 64) ≤ suc a * 2 ^ (w - 64) = mul-le-mul_right {m = 1} {n = suc a} (2 ^ (w - 64)) (omega arith) in
          absurd (let p = pow_pos (w - 64) in omega (arith, le, e, p))

  pub widened_start : (rs : List (ℕ × V)) (i s : ℕ) (d : ℕ × V) → i < length (widened w rs) → s ≡ (get_or rs i d).0 → s * 2 ^ (w - 64) ≡ (get_or (widened w rs) i d).0
  widened_start rs i s d lt is = ap (λ n. n * 2 ^ (w - 64)) is ∙ sym (ap {A = ℕ × V} (λ r. r.0) (widened_at rs i d d (let l = widened_length rs in omega (arith, lt, l))))

  pub widened_value : (rs : List (ℕ × V)) (i : ℕ) (d : ℕ × V) → i < length (widened w rs) → (get_or rs i d).1 ≡ (get_or (widened w rs) i d).1
  widened_value rs i d lt = sym (ap {A = ℕ × V} (λ r. r.1) (widened_at rs i d d (let l = widened_length rs in omega (arith, lt, l))))

  -- one more range
  pub widened_pushed : (line rs : List (ℕ × V)) (i : ℕ) (r : ℕ × V) → widened w rs ≡ take i line → i < length line → (r.0 * 2 ^ (w - 64), r.1) ≡ get_or line i (r.0 * 2 ^ (w - 64), r.1)
      → widened w (rs ++ r ∷ []) ≡ take (i + 1) line
  widened_pushed line rs i r so_far inside is =
      map-append {A = ℕ × V} {B = ℕ × V} (λ x. (x.0 * 2 ^ (w - 64), x.1)) rs (r ∷ []) ∙ ap (λ xs. xs ++ (r.0 * 2 ^ (w - 64), r.1) ∷ []) so_far ∙ ap (λ x. take i line ++ x ∷ []) is
      ∙ sym (take-suc line i (r.0 * 2 ^ (w - 64), r.1) inside) ∙ ap (λ k. take k line) (let e : suc i ≡ i + 1 = omega arith in e)
