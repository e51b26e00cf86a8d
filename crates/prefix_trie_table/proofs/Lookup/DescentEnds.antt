-- What there is, and is not, at the end of a descent.
use Rattle.prefix_trie_table.proofs.Prelude.{◌≡◌, ◌≢◌, ℕ, ◌+◌, ◌*◌, ◌<◌, ◌≤◌, inl, inr, ⊎_elim, Bool, true, false, ◌||◌, List, [], ◌∷◌, ◌++◌, length, take, Option, None, is_some, refl, sym, ap, ◌∙◌, arith, nat_le, leb-true, nat_tests, false≢true, cases_Bool, Node, node_sizes, chunks_of, Store, same_path, is_start, NodesHold, IsEnd, IsReached}
use Rattle.prefix_trie_table.proofs.Strings.SmallFacts.{needs_node}
use Rattle.prefix_trie_table.proofs.Strings.Paths.{same_path-not, snoc_ind}
use Rattle.prefix_trie_table.proofs.Strings.Beginnings.{is_start-snoc, is_start_take, or_either}
use Rattle.prefix_trie_table.proofs.Tree.Trees.{is_none-None}
use Rattle.prefix_trie_table.proofs.Tree.Children.{same_or}
use Rattle.prefix_trie_table.proofs.Lookup.Descents.{step-inside, steps-end, deepest_end}

or_false_right : (a : Bool) → (a || false) ≡ a
or_false_right true = refl
or_false_right false = refl

-- the beginnings of a node's path lead to nodes
pub prefix_some : (sizes : List ℕ) (nodes : List ℕ → Option Node) (paths : List (List ℕ)) (v : Store Node) → NodesHold sizes nodes paths v →
    (q p : List ℕ) → is_some (nodes p) ≡ true → is_start q p ≡ true → is_some (nodes q) ≡ true
prefix_some sizes nodes paths v hold q = snoc_ind (λ p. is_some (nodes p) ≡ true → is_start q p ≡ true → is_some (nodes q) ≡ true)
    (λ some h. ⊎_elim (λ (e : same_path q [] ≡ true). at_end [] e some) (λ (e : false ≡ true). absurd (false≢true e)) (or_either (same_path q []) false h))
    (λ p c ih some h. ⊎_elim (λ (e : is_start q p ≡ true). ih (needs_node (nodes p) c (sym (hold.linked p c) ∙ some)) e)
    (λ (e : (same_path q (p ++ c ∷ []) || false) ≡ true). at_end (p ++ c ∷ []) (sym (or_false_right (same_path q (p ++ c ∷ []))) ∙ e) some)
    (or_either (is_start q p) (same_path q (p ++ c ∷ []) || false) (sym (is_start-snoc q p c) ∙ h)))
  where
    at_end : (p : List ℕ) → same_path q p ≡ true → is_some (nodes p) ≡ true → is_some (nodes q) ≡ true
    at_end p e some = ⊎_elim (λ (f : q ≡ p). ap (λ y. is_some (nodes y)) f ∙ some)
        (λ (n : q ≢ p). absurd (false≢true (sym (same_path-not q p n) ∙ e))) (same_or q p)

-- there is no node after the end of the search path
pub none_below : (nodes : List ℕ → Option Node) (paths : List (List ℕ)) (v : Store Node) (path : List ℕ) (depth : ℕ) →
    NodesHold node_sizes nodes paths v → IsEnd nodes path depth → depth < length path → nodes path ≡ None
none_below nodes paths v path depth hold end inside =
    elim (cases_Bool (is_some (nodes path))) as (λ _. nodes path ≡ None) [
      | inl e ↦ absurd (false≢true (sym (end.stops inside)
          ∙ prefix_some node_sizes nodes paths v hold (take (depth + 1) path) path e (is_start_take (depth + 1) path)))
      | inr e ↦ is_none-None (nodes path) e
    ]

module _ (b : List Bool) (len level slot : ℕ) (node : Node) (v : Store Node) (at : IsReached b len level node slot v) (reading : List ℕ → Option Node)
    (paths : List (List ℕ)) (hold : NodesHold node_sizes reading paths v) where
  -- the search path was followed to its end
  pub reached_end : IsEnd reading (chunks_of (take len b)) level
  reached_end = elim (cases_Bool (nat_le (5 * level + 5) len)) as (λ _. IsEnd reading (chunks_of (take len b)) level) [
    | inl e ↦
        let more : 5 * level + 5 ≤ len = leb-true (5 * level + 5) len e in
        let inside = step-inside b len level at.long more in
        deepest_end reading paths v (chunks_of (take len b)) level slot hold (at.deepest reading paths hold) node (omega arith) at.node_is
        (λ _. at.missing more)
    | inr e ↦
        let less : len < 5 * level + 5 = grind (arith, nat_tests) in
        let last = steps-end b len level at.long at.whole less in
        deepest_end reading paths v (chunks_of (take len b)) level slot hold (at.deepest reading paths hold) node (omega arith) at.node_is
        (λ h. absurd (omega arith))
  ]
