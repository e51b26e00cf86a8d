-- The size of a block after several removals lies between its old size and the smallest that holds
-- the list.
use Rattle.prefix_trie_table.proofs.Prelude.{◌≡◌, ◌≢◌, ℕ, ◌<◌, ◌≤◌, ◌⊎◌, inl, inr, List, [], ◌∷◌, ◌++◌, Option, None, Some, refl, sym, ap, ◌∙◌, subst, arith, cases_lt, StepsBetween, smallest_size, Node, node_sizes, cell_sizes, with_node, with_child_removed, own_count, own_children, child_block_size, value_block_size, ValueTaken, ChildDropped, IsBare, PrunedTo, BlocksBetween, Stays, Store, free_counts, Grows}
use Rattle.std.specs.List.{Contains}
use Rattle.prefix_trie_table.proofs.Blocks.Turnovers.{made_then}
use Rattle.prefix_trie_table.proofs.Strings.SmallFacts.{some_same}
use Rattle.prefix_trie_table.proofs.Tree.Children.{same_or, with_here, with_other, changed_below, changed_here, changed_other}
use Rattle.prefix_trie_table.proofs.Removal.ShrinkingLists.{steps_between, shrinks_between, values_none, children_none, same_children}
use Rattle.prefix_trie_table.proofs.Removal.BlockSizes.{same_values, drops_values, pruned_children}

-- ---- by numbers

-- if no item was removed
pub between_same : (sizes : List ℕ) (before after : ℕ) (old new : Option ℕ) → after ≡ before → new ≡ old → (after ≡ 0 → new ≡ None) →
    StepsBetween sizes before after old new
between_same sizes before after old new count same empty = record { fewer = omega arith; same = λ _. same; none = empty; between = λ less some. absurd (omega arith) }

-- a step after another
pub between_then : (sizes : List ℕ) (b m a : ℕ) (o x n : Option ℕ) → StepsBetween sizes b m o x → StepsBetween sizes m a x n → StepsBetween sizes b a o n
between_then sizes b m a o x n first second = record {
  fewer = (let f = first.fewer in let s = second.fewer in omega arith);
  same = λ e. (let f = first.fewer in let s = second.fewer in second.same (omega arith) ∙ first.same (omega arith));
  none = second.none;
  between = λ less some. go less some (cases_lt a m) (cases_lt m b);
}
  where
    go : a < b → 0 < a → (a < m) ⊎ (m ≤ a) → (m < b) ⊎ (b ≤ m) →
        (k : ℕ) × (l : ℕ) × (n ≡ Some k) × (o ≡ Some l) × (k ≤ l) × ((size : ℕ) → smallest_size sizes a ≡ Some size → size ≤ k) × Contains sizes k
    go all some (inl less) (inl more) =
        let s = second.between less some in
        let f = first.between more (omega arith) in
        let same : s.1 ≡ f.0 = some_same s.1 f.0 (sym s.3 ∙ f.2) in
        (s.0, f.1, s.2, f.3, (let p = s.4 in let q = f.4 in omega (arith, p, q, same)), s.5, s.6)
    go all some (inl less) (inr last) =
        let s = second.between less some in
        let same : x ≡ o = first.same (let f = first.fewer in omega arith) in
        (s.0, s.1, s.2, sym same ∙ s.3, s.4, s.5, s.6)
    go all some (inr last) (inl more) =
        let count : a ≡ m = (let s = second.fewer in omega arith) in
        let f = first.between more (omega arith) in
        (f.0, f.1, second.same count ∙ f.2, f.3, f.4, λ size e. f.5 size (ap (smallest_size sizes) (sym count) ∙ e), f.6)
    go all some (inr last) (inr first_last) = absurd (omega arith)

-- ---- by nodes

values_between : (n m : Option Node) → own_count m ≡ own_count n → value_block_size m ≡ value_block_size n →
    StepsBetween cell_sizes (own_count n) (own_count m) (value_block_size n) (value_block_size m)
values_between n m e f = between_same cell_sizes (own_count n) (own_count m) (value_block_size n) (value_block_size m) e f (values_none m)

children_between : (n m : Option Node) → own_children m ≡ own_children n → child_block_size m ≡ child_block_size n →
    StepsBetween node_sizes (own_children n) (own_children m) (child_block_size n) (child_block_size m)
children_between n m e f = between_same node_sizes (own_children n) (own_children m) (child_block_size n) (child_block_size m) e f (children_none m)

pub blocks_still : (n m : Option Node) → m ≡ n → BlocksBetween n m
blocks_still n m e = record {
  values = values_between n m (ap own_count e) (ap value_block_size e);
  children = children_between n m (ap own_children e) (ap child_block_size e);
}

pub blocks_then : (a b c : Option Node) → BlocksBetween a b → BlocksBetween b c → BlocksBetween a c
blocks_then a b c x y = record { values = between_then cell_sizes _ _ _ _ _ _ x.values y.values; children = between_then node_sizes _ _ _ _ _ _ x.children y.children }

-- if a value was removed
pub taken_between : {T : Type 0} (reading : List ℕ → Option Node) (paths : List (List ℕ)) (values : List ℕ → ℕ → Option T) (p : List ℕ) (b : ℕ) (n m : Node)
    (v : Store Node) (w w2 : Store (Option T)) → ValueTaken reading paths values p b n m v w w2 → reading p ≡ Some n →
    (x : List ℕ) → BlocksBetween (reading x) (with_node reading p m x)
taken_between reading paths values p b n m v w w2 t is x = elim (same_or x p) as (λ _. BlocksBetween (reading x) (with_node reading p m x)) [
  | inl e ↦ subst (λ o. BlocksBetween o (with_node reading p m x)) (sym (ap reading e ∙ is)) (subst (BlocksBetween (Some n)) (sym (with_here reading p m x e)) (
      let s = same_children n m t.children in
      record { values = shrinks_between cell_sizes w w2 _ _ _ _ refl t.shrinks; children = children_between (Some n) (Some m) s.0 s.1 }))
  | inr ne ↦ blocks_still (reading x) (with_node reading p m x) (with_other reading p m x ne)
]

-- if a child was removed
pub dropped_between : (reading : List ℕ → Option Node) (paths : List (List ℕ)) (p : List ℕ) (c : ℕ) (n m leaf : Node) (v v2 : Store Node) →
    ChildDropped reading paths p c n m v v2 → reading p ≡ Some n → reading (p ++ c ∷ []) ≡ Some leaf → IsBare leaf →
    (x : List ℕ) → BlocksBetween (reading x) (with_child_removed reading p m c x)
dropped_between reading paths p c n m leaf v v2 t is under bare x = by (same_or x (p ++ c ∷ [])) (same_or x p)
  where
    by : (x ≡ p ++ c ∷ []) ⊎ (x ≢ p ++ c ∷ []) → (x ≡ p) ⊎ (x ≢ p) → BlocksBetween (reading x) (with_child_removed reading p m c x)
    by (inl at) other =
        subst (λ o. BlocksBetween o (with_child_removed reading p m c x)) (sym (ap reading at ∙ under)) (subst (BlocksBetween (Some leaf)) (sym (changed_below reading p m c None x at)) (record {
          values = values_between (Some leaf) None (sym bare.no_values) (sym (values_none (Some leaf) bare.no_values));
          children = children_between (Some leaf) None (sym bare.no_children) (sym (children_none (Some leaf) bare.no_children));
        }))
    by (inr ne) (inl at) =
        let s = same_values n m t.values in
        subst (λ o. BlocksBetween o (with_child_removed reading p m c x)) (sym (ap reading at ∙ is)) (subst (BlocksBetween (Some n)) (sym (changed_here reading p m c None x at)) (record {
          values = values_between (Some n) (Some m) s.0 s.1;
          children = shrinks_between node_sizes v v2 _ _ _ _ refl t.shrinks;
        }))
    by (inr ne) (inr other) = blocks_still (reading x) (with_child_removed reading p m c x) (changed_other reading p m c None x other ne)

-- pruning leaves each node's values unchanged, and the children of the node where it stopped in a
-- block that is no larger
pub pruned_between : (reading : List ℕ → Option Node) (paths : List (List ℕ)) (path : List ℕ) (level : ℕ) (node : Node) (v v2 : Store Node)
    (p : PrunedTo reading paths path level node v v2) (x : List ℕ) → BlocksBetween (reading x) (p.later x)
pruned_between reading paths path level node v v2 p x =
    let same = drops_values reading paths p.later p.left p.drops x in
    let steps = pruned_children reading paths path level node v v2 p x in
    record { values = values_between (reading x) (p.later x) same.0 same.1; children = steps_between node_sizes (free_counts v.tiers) _ _ _ _ refl steps.1 steps.0 }

-- ---- arrays that stay

module _ {S : Type 0} where
  pub stays_none : (v : Store S) → Stays v v
  stays_none v = record { limit = refl; longer = omega arith; made = λ size. omega arith }

  pub stays_grown : (v w : Store S) (most : ℕ) → Grows v w most → Stays v w
  stays_grown v w most g = record { limit = g.limit_is; longer = g.longer; made = g.made }

  pub stays_then : (v w x : Store S) → Stays v w → Stays w x → Stays v x
  stays_then v w x a b = record {
    limit = b.limit ∙ a.limit;
    longer = (let p = a.longer in let q = b.longer in omega (arith, p, q));
    made = made_then v w x a.made b.made;
  }
