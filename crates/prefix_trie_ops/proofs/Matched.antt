-- The items of a union, each with its matches, fit and are as many: for `covering_union`.
use Rattle.std.proofs.Common.{◌≤◌, ℕ, Bool, List, [], ◌∷◌, All, length, map, subst, sym}
use Rattle.std.proofs.lemmas.List.{length-map}
use Rattle.std.proofs.lemmas.List.Elements.{All-cons, All-head, All-nil, All-tail}
use Rattle.prefix_trie.specs.Terms.{Entries}
use Rattle.prefix_trie_ops.specs.CoveringUnion.{with_matches, with_matching_keys}

module _ {P T' U X : Type 0} (path : P → List Bool) (back : List Bool → P) (m : Entries T') (n : Entries U) where
  pub matched_fit : (F : P → Type 0) (xs : List (P × X)) → All (λ e. F e.0) xs → All (λ e. F e.0) (map (with_matches path back m n) xs)
  matched_fit F [] h = All-nil (λ e. F e.0)
  matched_fit F (x ∷ xs) h =
      All-cons (λ e. F e.0) (with_matches path back m n x) (map (with_matches path back m n) xs) (All-head (λ e. F e.0) x xs h) (matched_fit F xs (All-tail (λ e. F e.0) x xs h))

  pub matched_many : (xs : List (P × X)) (k : ℕ) → length xs ≤ k → length (map (with_matches path back m n) xs) ≤ k
  matched_many xs k few = subst (λ l. l ≤ k) (sym (length-map xs (with_matches path back m n))) few

module _ {P T' U : Type 0} (path : P → List Bool) (back : List Bool → P) (m : Entries T') (n : Entries U) where
  pub keys_fit : (F : P → Type 0) (ps : List P) → All F ps → All (λ e. F e.0) (map (with_matching_keys path back m n) ps)
  keys_fit F [] h = All-nil (λ e. F e.0)
  keys_fit F (p ∷ ps) h =
      All-cons (λ e. F e.0) (with_matching_keys path back m n p) (map (with_matching_keys path back m n) ps) (All-head F p ps h) (keys_fit F ps (All-tail F p ps h))
