-- A tidy map stays tidy when a key is set or removed: for callers that keep a map tidy.
use Rattle.prefix_trie.proofs.Prelude.{◌≡◌, ℕ, List, Bool, sym, ap, ◌∙◌, Entries, with_entry, without_entry, Nodes, needed, with_needed, nodes_without, AreNodes, IsTidy, NodeLaws, PruningLaws}

module _ {T : Type 0} (m now : Entries T) (n nodes : Nodes) (s : List Bool) where
  pub tidy_with : NodeLaws T → (v : T) → now ≡ with_entry m s v → nodes ≡ with_needed n s → IsTidy m n → IsTidy now nodes
  tidy_with laws v set grown tidy = grown ∙ ap (λ k. with_needed k s) tidy ∙ laws.needed_with m s v ∙ ap needed (sym set)

  pub tidy_without : PruningLaws T → (width : ℕ) → AreNodes width m n → now ≡ without_entry m s → nodes ≡ nodes_without n m s → IsTidy m n → IsTidy now nodes
  tidy_without laws width are_nodes taken left tidy = left ∙ (laws.of_remove width m n s are_nodes).stays_tidy tidy ∙ ap needed (sym taken)
