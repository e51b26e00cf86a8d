-- The slots of nodes by their paths, and where a search ends: for entries, which remember it.
use Rattle.prefix_trie_table.proofs.Prelude.{◌≡◌, ℕ, true, List, [], ◌∷◌, ◌++◌, Option, is_some, refl, sym, ap, ◌∙◌, subst, Node, node_at, node_sizes, child_slot, IsSlot, at_root, at_child, NodesHold, has_child, node_or_blank, slot_from, Store}
use Rattle.prefix_trie_table.proofs.Strings.SmallFacts.{needs_node}
use Rattle.prefix_trie_table.proofs.Strings.Paths.{snoc_ind}
use Rattle.prefix_trie_table.proofs.Tree.Trees.{slot_holds, is_some-Some}

slot_from-snoc : (nodes : List Node) (at : ℕ) (p : List ℕ) (c : ℕ) → slot_from nodes at (p ++ c ∷ []) ≡ child_slot (node_at nodes (slot_from nodes at p)) c
slot_from-snoc nodes at [] c = refl
slot_from-snoc nodes at (x ∷ p) c = slot_from-snoc nodes (child_slot (node_at nodes at) x) p c

module _ (v : Store Node) (reading : List ℕ → Option Node) (paths : List (List ℕ)) (hold : NodesHold node_sizes reading paths v) where
  -- a node that exists is in the slot to which its path leads
  pub slot_is_there : (p : List ℕ) → is_some (reading p) ≡ true → IsSlot reading p (slot_from v.slots 0 p)
  slot_is_there = snoc_ind (λ p. is_some (reading p) ≡ true → IsSlot reading p (slot_from v.slots 0 p)) (λ some. at_root)
      (λ p c ih some. below p c ih (sym (hold.linked p c) ∙ some))
    where
      below : (p : List ℕ) (c : ℕ) → (is_some (reading p) ≡ true → IsSlot reading p (slot_from v.slots 0 p)) → has_child (reading p) c ≡ true →
          IsSlot reading (p ++ c ∷ []) (slot_from v.slots 0 (p ++ c ∷ []))
      below p c ih has =
          let some = needs_node (reading p) c has in
          let is = is_some-Some (reading p) some in
          let n = node_or_blank (reading p) in
          let at = slot_holds node_sizes reading paths v hold p (slot_from v.slots 0 p) n (ih some) is in
          subst (λ s. IsSlot reading (p ++ c ∷ []) s) (ap (λ (k : Node). child_slot k c) (sym at.0) ∙ sym (slot_from-snoc v.slots 0 p c))
          (at_child p c n is (sym (ap (λ o. has_child o c) is) ∙ has))

  -- a node is in no other slot
  pub slot_only : (p : List ℕ) (slot : ℕ) → IsSlot reading p slot → slot ≡ slot_from v.slots 0 p
  slot_only p slot (at_root) = refl
  slot_only p slot (at_child q c n is bit) =
      let at = slot_holds node_sizes reading paths v hold q (slot_from v.slots 0 q) n (slot_is_there q (ap is_some is)) is in
      ap (λ (k : Node). child_slot k c) (sym at.0) ∙ sym (slot_from-snoc v.slots 0 q c)
