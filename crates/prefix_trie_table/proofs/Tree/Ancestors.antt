-- The slots of the nodes on a search path, as a descent collects them: for removals.
use Rattle.prefix_trie_table.proofs.Prelude.{◌≡◌, ℕ, ◌+◌, inl, inr, Bool, List, [], ◌∷◌, ◌++◌, length, length-append, get_or, take, Option, sym, ap, ◌∙◌, subst, arith, get_or-append_seam, get_or_append_left, cases_lt, Node, Reached, Store, chunks_of, IsSlot, IsAlong, slot_in, AreAbove, AreAncestors}

-- going one step down adds the slot of the node above
ancestors_more : (reading : List ℕ → Option Node) (path : List ℕ) (ancestors : List ℕ) (level : ℕ) (s : ℕ) → AreAncestors reading path ancestors level →
    length ancestors ≡ level → IsSlot reading (take level path) s → AreAncestors reading path (ancestors ++ s ∷ []) (level + 1)
ancestors_more reading path ancestors level s is long next k h = elim (cases_lt k level) as (λ _. IsSlot reading (take k path) (slot_in (ancestors ++ s ∷ []) k)) [
  | inl less ↦
      let same : get_or (ancestors ++ s ∷ []) k 0 ≡ get_or ancestors k 0 = get_or_append_left ancestors (s ∷ []) 0 k (omega arith) in
      subst (λ (x : ℕ). IsSlot reading (take k path) x) (sym same) (is k less)
  | inr last ↦
      let e : k ≡ length ancestors = omega arith in
      let same : get_or (ancestors ++ s ∷ []) k 0 ≡ s = ap (λ i. get_or (ancestors ++ s ∷ []) i 0) e ∙ get_or-append_seam ancestors s [] 0 in
      subst (λ (x : ℕ). IsSlot reading (take k path) x) (sym same)
      (subst (λ i. IsSlot reading (take i path) s) (let at : level ≡ k = omega arith in at) next)
]

-- no node is above the root
pub above_root : (q : List Bool) (level : ℕ) (ancestors : List ℕ) (v : Store Node) → level ≡ 0 → ancestors ≡ [] → AreAbove q level ancestors v
above_root q level ancestors v top empty = record {
  long = ap (λ (xs : List ℕ). length xs) empty ∙ sym top;
  slots = λ reading paths hold k less. absurd (omega (arith, less, top));
}

-- and below a node are those above it, and the node
pub above_next : (q : List Bool) (here : Reached) (ancestors more : List ℕ) (v : Store Node) (next : ℕ) → AreAbove q here.level ancestors v → IsAlong q here v → next ≡ here.level + 1 →
    more ≡ ancestors ++ here.at ∷ [] → AreAbove q next more v
above_next q here ancestors more v next up along deeper is = record {
  long = (let l = up.long in omega (arith, l, deeper, ap (λ (xs : List ℕ). length xs) is, length-append ancestors (here.at ∷ [])));
  slots = λ reading paths hold. rw deeper (rw is (ancestors_more reading (chunks_of q) ancestors here.level here.at (up.slots reading paths hold) up.long (along.deepest reading paths hold).is_there));
}
