-- A sum over the entries of a finite map when a key is added: for counting entries.
use Rattle.prefix_trie_table.proofs.Prelude.{◌≡◌, ℕ, ◌+◌, Bool, false, cond, List, [], ◌∷◌, sum_by, None, Some, is_some, Ordering, Less, Equal, Greater, sym, ap, ◌∙◌, arith, false≢true, sum_by-cons, is_eq, FinMap, entries, get, get-entries, entries-insert, find, put, contains_key, by_order, listing_cmp, listing_total}
use Rattle.std.specs.FinMap.{insert}
use Rattle.prefix_trie_table.proofs.Tree.Trees.{is_none-None}

module _ {K X : Type 0} (R : K → K → Ordering) (h : K × X → ℕ) where
  put_fresh : (k : K) (v : X) (es : List (K × X)) → find R k es ≡ None → sum_by h (put R k v es) ≡ h (k, v) + sum_by h es
  put_fresh k v [] e = sum_by-cons h (k, v) []
  put_fresh k v (x ∷ es) e =
      elim (R k x.0) as (λ o. cond (is_eq o) (Some x.1) (find R k es) ≡ None →
      sum_by h (by_order o ((k, v) ∷ x ∷ es) ((x.0, v) ∷ es) (x ∷ put R k v es)) ≡ h (k, v) + sum_by h (x ∷ es)) [
        | Less ↦ λ none. sum_by-cons h (k, v) (x ∷ es)
        | Equal ↦ λ none. absurd (false≢true (sym (ap is_some none)))
        | Greater ↦ λ none. later x.0 (h x) (h (k, v)) _ _ _ _ (sum_by-cons h x (put R k v es)) (put_fresh k v es none) (sum_by-cons h x es)
      ] e
    where
      later : (q : K) (a b all rest more end : ℕ) → all ≡ a + more → more ≡ b + rest → end ≡ a + rest → all ≡ b + end
      later q a b all rest more end e f g = omega (arith, e, f, g)

-- adding a new key adds the term of its entry
pub sum-fresh : {X : Type 0} (h : List Bool × X → ℕ) (m : FinMap listing_cmp X) (k : List Bool) (v : X) → contains_key m k ≡ false →
    sum_by h (entries (insert m k v)) ≡ h (k, v) + sum_by h (entries m)
sum-fresh h m k v fresh =
    ap (sum_by h) (entries-insert listing_total m k v)
    ∙ put_fresh listing_cmp h k v (entries m) (sym (get-entries m k) ∙ is_none-None (get m k) fresh)
