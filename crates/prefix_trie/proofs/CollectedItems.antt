-- An iterator that is seen as the list of its items gives them in order: for callers of `from_iter`.
use Rattle.prefix_trie.proofs.Prelude.{◌≡◌, List, [], ◌∷◌, Option, None, Some, sym, ap, ◌∙◌, Drains, HoldsAlong, All-nil, All-cons, All-head, All-tail, All-same}
use Rattle.std.specs.List.{All}

module _ {S A : Type 0} (steps : S → Option A → S → Type 0) (rest : S → List A) (first : (s t : S) (x : A) → steps s (Some x) t → rest s ≡ x ∷ rest t) where
  -- what holds of each item to come holds of each item that was given
  pub all_along : (F : A → Type 0) (s : S) → All F (rest s) → HoldsAlong steps s (All F)
  all_along F s all [] t gave = All-nil F
  all_along F s all (x ∷ xs) t gave =
      let here : All F (x ∷ rest gave.0) = All-same F (x ∷ rest gave.0) (rest s) (sym (first s gave.0 x gave.1)) all in
      All-cons F x xs (All-head F x (rest gave.0) here) (all_along F gave.0 (All-tail F x (rest gave.0) here) xs t gave.2)

  -- at its end the iterator has given all items
  pub all_given : ((s t : S) → steps s None t → rest s ≡ []) → (s : S) (xs : List A) → Drains steps s xs → xs ≡ rest s
  all_given none s [] gave = sym (ap rest gave.1.1 ∙ none gave.1.0 gave.0 gave.1.2)
  all_given none s (x ∷ xs) gave =
      let step = gave.1.1 in
      ap (λ ys. x ∷ ys) (all_given none step.0 xs (gave.0, (gave.1.0, step.2, gave.1.2))) ∙ sym (first s step.0 x step.1)
