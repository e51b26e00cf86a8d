-- Comparing two walks item by item decides whether the lists are equal: for `==` of maps.
use Rattle.prefix_trie_map.proofs.Prelude.{◌≡◌, Bool, true, false, ◌&&◌, List, [], ◌∷◌, Option, None, Some, MatchOption, IfSome, sym, ap, ◌∙◌, subst, pointwise, YieldsThen, ComparesItemsByEq, AllZip, TakesFirst}

module _ {A X : Type 0} (shows : A → X) (equal : X → X → Bool) where
  -- the result after the last step of both walks
  abbrev Last : Bool → Option A → Option A → Type 0
  Last r o p = MatchOption o (MatchOption p (r ≡ true) (λ _. r ≡ false)) (λ x. (r ≡ false) × IfSome p (λ y. equal (shows x) (shows y) ≡ false))

  -- at that step the result is whether the rest of both lists is equal
  at_last : (r : Bool) (s t s2 t2 : List X) (o p : Option A) → TakesFirst shows s o s2 → TakesFirst shows t p t2 → Last r o p → r ≡ pointwise equal s t
  at_last r s t s2 t2 None None left right last = last ∙ sym (λ i. pointwise equal (left.0 i) (right.0 i))
  at_last r s t s2 t2 None (Some y) left right last = last ∙ sym (λ i. pointwise equal (left.0 i) (right i))
  at_last r s t s2 t2 (Some x) None left right last = last.0 ∙ sym (λ i. pointwise equal (left i) (right.0 i))
  at_last r s t s2 t2 (Some x) (Some y) left right last =
      last.0 ∙ sym (ap (λ b. b && pointwise equal s2 t2) last.1) ∙ sym (λ i. pointwise equal (left i) (right i))

  -- so is the result after any number of equal items
  compared : (r : Bool) (s t s2 t2 : List X) (xs ys : List A) (o p : Option A) → YieldsThen (TakesFirst shows) s xs o s2 → YieldsThen (TakesFirst shows) t ys p t2
      → AllZip (λ x y. equal (shows x) (shows y) ≡ true) xs ys → Last r o p → r ≡ pointwise equal s t
  compared r s t s2 t2 [] [] o p left right same last =
      at_last r s t s2 t2 o p (subst (λ k. TakesFirst shows k o s2) (sym left.1) left.2) (subst (λ k. TakesFirst shows k p t2) (sym right.1) right.2) last
  compared r s t s2 t2 (x ∷ xs) (y ∷ ys) o p left right same last =
      compared r left.1.0 right.1.0 s2 t2 xs ys o p (left.0, left.1.2, left.2) (right.0, right.1.2, right.2) same.1 last
      ∙ sym (ap (λ b. b && pointwise equal left.1.0 right.1.0) same.0) ∙ sym (λ i. pointwise equal (left.1.1 i) (right.1.1 i))
  compared r s t s2 t2 [] (y ∷ ys) o p left right same last = absurd same
  compared r s t s2 t2 (x ∷ xs) [] o p left right same last = absurd same

  -- the result of comparing two walks is whether their lists are equal
  pub eq_is : (r : Bool) (s t : List X) → ComparesItemsByEq (TakesFirst shows) (λ other it. it ≡ other) (TakesFirst shows) s t (λ x y. equal (shows x) (shows y)) r → r ≡ pointwise equal s t
  eq_is r s t (it, xs, ys, o, p, u, v, becomes, left, right, same, last) =
      compared r s it u v xs ys o p left right same last ∙ ap (pointwise equal s) becomes
