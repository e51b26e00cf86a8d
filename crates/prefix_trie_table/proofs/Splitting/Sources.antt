-- A node of the first table, and its children.
use Rattle.prefix_trie_table.proofs.Prelude.{◌≡◌, ℕ, ◌+◌, ◌<◌, true, [], ◌∷◌, ◌++◌, length, Some, is_some, sym, ap, ◌∙◌, arith, append_assoc, append-nil, Node, has_bit, node_at, node_sizes, child_slot, has_child, has_value, IsSource, Store}
use Rattle.prefix_trie_table.proofs.Tree.Trees.{child_is_there, is_some-Some}

-- a child of a source
module _ (v : Store Node) (n : Node) (levels : ℕ) (s : IsSource v n levels) (c : ℕ) (there : has_bit n.child_bitmap c ≡ true) where
  child_is : s.reading (s.path ++ c ∷ []) ≡ Some (node_at v.slots (child_slot n c))
  child_is =
      is_some-Some (s.reading (s.path ++ c ∷ [])) (s.hold.linked s.path c ∙ ap (λ o. has_child o c) s.is ∙ there)
      ∙ ap Some (sym (child_is_there node_sizes s.reading s.paths v s.hold s.path n c s.is there).1)

  pub child_inside : child_slot n c < length v.slots
  child_inside = (child_is_there node_sizes s.reading s.paths v s.hold s.path n c s.is there).2

  pub some_level : 0 < levels
  some_level = let h = s.few (c ∷ []) (ap is_some child_is) in omega (arith, h)

  pub source_below : (lower : Node) (fewer : ℕ) → lower ≡ node_at v.slots (child_slot n c) → fewer + 1 ≡ levels → IsSource v lower fewer
  source_below lower fewer is e = record {
    reading = s.reading;
    paths = s.paths;
    hold = s.hold;
    path = s.path ++ c ∷ [];
    is = child_is ∙ ap Some (sym is);
    few = λ q h. let f = s.few (c ∷ q) (ap (λ x. is_some (s.reading x)) (sym (append_assoc s.path (c ∷ []) q)) ∙ h) in omega (arith, f, e);
    within = λ q b h. s.within (c ∷ q) b (ap (λ x. has_value (s.reading x) b) (sym (append_assoc s.path (c ∷ []) q)) ∙ h);
  }

-- a source's own values
pub own_within : (v : Store Node) (n : Node) (levels : ℕ) → IsSource v n levels → (b : ℕ) → has_bit n.value_bitmap b ≡ true → b < 31
own_within v n levels s b set = s.within [] b (ap (λ x. has_value (s.reading x) b) (append-nil s.path) ∙ ap (λ o. has_value o b) s.is ∙ set)
