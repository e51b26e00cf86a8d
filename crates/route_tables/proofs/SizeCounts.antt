-- A loop that counts items by their sizes: for `count_listed`.
use Rattle.std.proofs.Common.{◌≡◌, ℕ, suc, ◌+◌, ◌^◌, ◌<◌, eqb, cond, List, ◌∷◌, length, filter, get_or, set, sym, ap, subst, ◌∙◌, arith, inl, inr}
use Rattle.std.proofs.lemmas.Bool.{cases_eq, eq-eqb, ne_eqb}
use Rattle.std.proofs.lemmas.List.{get_or-set_other}
use Rattle.std.proofs.lemmas.List.Sums.{count_by-le-length, length-filter}
use Rattle.std.proofs.lemmas.Grind.{get_or-set_at}

module _ {X : Type 0} (size : X → ℕ) where
  -- the counts are right after one more item
  pub counted_on : (counts : List ℕ) (x : X) (left rest : List X) (n : ℕ) (whole : ℕ → ℕ) → left ≡ x ∷ rest → n ≡ size x → n < length counts
      → (k : ℕ) → get_or counts k 0 + length (filter (λ p. eqb (size p) k) left) ≡ whole k
      → get_or (set counts n (get_or counts n 0 + 1)) k 0 + length (filter (λ p. eqb (size p) k) rest) ≡ whole k
  counted_on counts x left rest n whole split is within k old =
      let now : get_or counts k 0 + length (filter (λ p. eqb (size p) k) (x ∷ rest)) ≡ whole k = subst (λ l. get_or counts k 0 + length (filter (λ p. eqb (size p) k) l) ≡ whole k) split old in
      elim (cases_eq k n) [
        | inl same ↦
            let one : length (filter (λ p. eqb (size p) k) (x ∷ rest)) ≡ suc (length (filter (λ p. eqb (size p) k) rest)) =
            ap (λ b. length (cond b (x ∷ filter (λ p. eqb (size p) k) rest) (filter (λ p. eqb (size p) k) rest))) (eq-eqb (size x) k (sym is ∙ sym same)) in
            let here : get_or (set counts n (get_or counts n 0 + 1)) k 0 ≡ get_or counts n 0 + 1 = get_or-set_at counts n k (get_or counts n 0 + 1) 0 same within in
            let there : get_or counts k 0 ≡ get_or counts n 0 = ap (λ j. get_or counts j 0) same in
            omega arith
        | inr other ↦
            let none : length (filter (λ p. eqb (size p) k) (x ∷ rest)) ≡ length (filter (λ p. eqb (size p) k) rest) =
            ap (λ b. length (cond b (x ∷ filter (λ p. eqb (size p) k) rest) (filter (λ p. eqb (size p) k) rest))) (ne_eqb (size x) k (λ e. other (sym e ∙ sym is))) in
            let there : get_or (set counts n (get_or counts n 0 + 1)) k 0 ≡ get_or counts k 0 = get_or-set_other counts n k (get_or counts n 0 + 1) 0 other in
            omega arith
      ]

  -- counting one more item does not overflow
  pub count_fits : (counts : List ℕ) (x : X) (left rest all : List X) (n : ℕ) → left ≡ x ∷ rest → n ≡ size x → length all < 2 ^ 64
      → get_or counts n 0 + length (filter (λ p. eqb (size p) n) left) ≡ length (filter (λ p. eqb (size p) n) all)
      → get_or counts n 0 + 1 < 2 ^ 64
  count_fits counts x left rest all n split is few old =
      let now : get_or counts n 0 + length (filter (λ p. eqb (size p) n) (x ∷ rest)) ≡ length (filter (λ p. eqb (size p) n) all) =
      subst (λ l. get_or counts n 0 + length (filter (λ p. eqb (size p) n) l) ≡ length (filter (λ p. eqb (size p) n) all)) split old in
      let one : length (filter (λ p. eqb (size p) n) (x ∷ rest)) ≡ suc (length (filter (λ p. eqb (size p) n) rest)) =
      ap (λ b. length (cond b (x ∷ filter (λ p. eqb (size p) n) rest) (filter (λ p. eqb (size p) n) rest))) (eq-eqb (size x) n (sym is)) in
      let some = length-filter (λ p. eqb (size p) n) all in
      let most = count_by-le-length (λ p. eqb (size p) n) all in
      omega arith
