-- What a walk over networks returns in all.
use Rattle.std.proofs.Common.{◌≡◌, ◌∙◌, ℕ, ◌^◌, ◌<◌, ◌≤◌, ◌&&◌, All, Bool, true, false, leb, List, [], ◌∷◌, ◌++◌, map, inl, inr, refl, ap, sym, subst, arith, append_assoc}
use Rattle.std.proofs.lemmas.List.{append-nil}
use Rattle.std.proofs.lemmas.Bool.{and_from, and_parts, cases_lt, leb-true, le-leb, lt-leb}
use Rattle.std.proofs.lemmas.List.Elements.{All-cons, All-nil}
use Rattle.std.specs.Iterator.{Drains, Yields}
use Rattle.address_ranges.specs.Breaks.{has_address}
use Rattle.address_ranges.specs.Networks.{AreFewest, AreFewestUpTo, first_address, past_address}
use Rattle.address_ranges.specs.Walks.{ReturnsLargest, ReturnsNetwork}
use Rattle.address_ranges.proofs.Blocks.{past_within, some_address}
use Rattle.address_ranges.proofs.Covering.{are_fewest}
use Rattle.address_ranges.proofs.Fewest.{fewest_none, fewest_pushed, fewest_skipped}

pub and_true : (b : Bool) → b ≡ (b && true)
and_true true = refl
and_true false = refl

none_of : (a b : Bool) → b ≡ true → (a && b) ≡ false → a ≡ false
none_of a true e h = and_true a ∙ h
none_of a false e h = cc

pub later_is : (a : Bool) (at past n : ℕ) → at ≤ past → ((a && leb at n) && leb past n) ≡ (a && leb past n)
later_is a at past n le = elim (cases_lt n past) [
  | inl lt ↦ ap (λ b. (a && leb at n) && b) (lt-leb past n lt) ∙ off (a && leb at n) ∙ sym (ap (λ b. a && b) (lt-leb past n lt) ∙ off a)
  | inr ge ↦ ap (λ b. (a && b) && leb past n) (le-leb at n (omega (arith, ge, le))) ∙ ap (λ b. b && leb past n) (sym (and_true a))
]
  where
    off : (b : Bool) → (b && false) ≡ false
    off true = refl
    off false = refl

-- the networks so far are the fewest below an address, and the addresses from there on are left
record AreTaken (w : ℕ) (test : ℕ → Bool) (left : List ℕ) (at : ℕ) (ss : List (List Bool)) : Type 0 where
  fewest : AreFewestUpTo w test at ss
  within : at ≤ 2 ^ w
  left_is : (n : ℕ) → n < 2 ^ w → has_address left n ≡ (test n && leb at n)

module _ (w : ℕ) (test : ℕ → Bool) where
  module _ (left : List ℕ) (at : ℕ) (ss : List (List Bool)) (so_far : AreTaken w test left at ss) where
    passes : (n : ℕ) → n < 2 ^ w → has_address left n ≡ true → (test n ≡ true) × (at ≤ n)
    passes n lt h = let parts = and_parts (test n) (leb at n) (sym (so_far.left_is n lt) ∙ h) in (parts.0, leb-true at n parts.1)

    taken_next : (s : List Bool) (after : List ℕ) → ReturnsLargest w left s after → AreTaken w test after (past_address w s) (ss ++ s ∷ [])
    taken_next s after r =
        let some = some_address w s in
        let by = past_within w s r.short in
        let le : at ≤ first_address w s = (passes (first_address w s) (omega (arith, some, by)) (r.inside (first_address w s) (omega arith) some)).1 in
        let skipped : AreFewestUpTo w test (first_address w s) ss =
        fewest_skipped w test at ss so_far.fewest (first_address w s) le
        (λ n a z. let lt : n < 2 ^ w = omega (arith, z, some, by) in none_of (test n) (leb at n) (le-leb at n a) (sym (so_far.left_is n lt) ∙ r.first n z)) in
        record {
          fewest = fewest_pushed w test (first_address w s) ss skipped s r.short refl
              (λ n lo hi. let lt : n < 2 ^ w = omega (arith, hi, by) in (passes n lt (r.inside n lo hi)).0)
              (λ t short inside here. r.largest t short
              (λ n lo hi. let lt : n < 2 ^ w = (let b = past_within w t short in omega (arith, hi, b)) in so_far.left_is n lt ∙ and_from (test n) (leb at n) (inside n lo hi) (le-leb at n (omega (arith, lo, here, le)))) here);
          within = by;
          left_is = λ n lt. r.left n lt ∙ ap (λ b. b && leb (past_address w s) n) (so_far.left_is n lt) ∙ later_is (test n) at (past_address w s) n (omega (arith, le, some));
        }

  taken_all : (at : ℕ) (ss : List (List Bool)) → AreTaken w test [] at ss → AreFewest w test ss
  taken_all at ss so_far = are_fewest w test ss (fewest_skipped w test at ss so_far.fewest (2 ^ w) so_far.within (λ n a z. none_of (test n) (leb at n) (le-leb at n a) (sym (so_far.left_is n z))))

  module _ {P : Type 0} (IsFitting : P → Type 0) (path : P → List Bool) where
    walked : (xs : List P) (left end : List ℕ) (at : ℕ) (ss : List (List Bool)) → AreTaken w test left at ss → Yields (ReturnsNetwork w IsFitting path) left xs end
        → All IsFitting xs × ((to : ℕ) × AreTaken w test end to (ss ++ map path xs))
    walked [] left end at ss so_far is = (All-nil IsFitting, (at, subst (λ l. AreTaken w test l at (ss ++ [])) is (subst (AreTaken w test left at) (sym (append-nil ss)) so_far)))
    walked (x ∷ xs) left end at ss so_far (next, step, more) =
        let (fit, (to, done)) = walked xs next end (past_address w (path x)) (ss ++ path x ∷ []) (taken_next left at ss so_far (path x) next step.1) more in
        (All-cons IsFitting x xs step.0 fit, (to, subst (AreTaken w test end to) (append_assoc ss (path x ∷ []) (map path xs)) done))
    -- all networks of the walk

module _ {P : Type 0} (w : ℕ) (IsFitting : P → Type 0) (path : P → List Bool) where
  pub drained : (ns : List ℕ) (xs : List P) → Drains (ReturnsNetwork w IsFitting path) ns xs → All IsFitting xs × AreFewest w (has_address ns) (map path xs)
  drained ns xs (u, (t, yields, last)) =
      let (fit, (to, done)) = walked w (has_address ns) IsFitting path xs ns t 0 []
      (record { fewest = fewest_none w (has_address ns); within = omega arith; left_is = λ n lt. and_true (has_address ns n) ∙ ap (λ b. has_address ns n && b) (sym (le-leb 0 n (omega arith))) }) yields in
      (fit, taken_all w (has_address ns) to (map path xs) (subst (λ l. AreTaken w (has_address ns) l to (map path xs)) last.0 done))
