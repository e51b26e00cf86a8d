-- Lists are compared place by place: for the equality of tables.
use Rattle.std.proofs.Common.{◌≡◌, ◌<◌, ◌&&◌, ℕ, zero, suc, Bool, true, false, List, [], ◌∷◌, length, get_or, arith, refl}
use Rattle.std.specs.Cmp.Lexicographic.{pointwise}

false_right : (b c : Bool) → c ≡ false → (b && c) ≡ false
false_right true c h = h
false_right false c h = refl

module _ {R : Type 0} (E : R → R → Bool) (d : R) where
  pub all_same : (xs ys : List R) → length xs ≡ length ys → ((j : ℕ) → j < length xs → E (get_or xs j d) (get_or ys j d) ≡ true) → pointwise E xs ys ≡ true
  all_same [] [] l h = refl
  all_same [] (y ∷ ys) l h = absurd (omega (arith, l))
  all_same (x ∷ xs) [] l h = absurd (omega (arith, l))
  all_same (x ∷ xs) (y ∷ ys) l h =
      let first : E x y ≡ true = h 0 (omega arith) in
      let rest = all_same xs ys (omega (arith, l)) (λ j lt. h (suc j) (omega (arith, lt))) in
      λ i. first i && rest i

  pub one_differs : (xs ys : List R) (j : ℕ) → j < length xs → j < length ys → E (get_or xs j d) (get_or ys j d) ≡ false → pointwise E xs ys ≡ false
  one_differs [] ys j lt other h = absurd (omega (arith, lt))
  one_differs (x ∷ xs) [] j lt other h = absurd (omega (arith, other))
  one_differs (x ∷ xs) (y ∷ ys) zero lt other h = λ i. h i && pointwise E xs ys
  one_differs (x ∷ xs) (y ∷ ys) (suc j) lt other h = false_right (E x y) (pointwise E xs ys) (one_differs xs ys j (omega (arith, lt)) (omega (arith, other)) h)
