-- The size of a block after a removal, by the tiers and the counts of nodes.
use Rattle.prefix_trie_table.proofs.Prelude.{◌≡◌, ◌≢◌, ℕ, ◌<◌, ◌≤◌, ◌⊎◌, inl, inr, List, [], ◌∷◌, ◌++◌, length, take, Option, None, Some, is_some, refl, sym, ap, ◌∙◌, subst, arith, cases_Bool, cases_lt, HasBlock, StepsDown, LongerByOne, MakesAtMost, made_of, Node, rank, node_sizes, cell_sizes, with_child_removed, own_count, is_start, own_children, child_block_size, value_block_size, GrowsBy, MakesFew, SameValues, EntryTaken, Drops, none, more, PrunedTo, Store, size_in, size_if_any, free_counts, made_in, SameBlock}
use Rattle.std.proofs.lemmas.Bool.{true≢false}
use Rattle.prefix_trie_table.proofs.Tree.Children.{same_or, changed_below, changed_here, changed_other}
use Rattle.prefix_trie_table.proofs.Removal.ShrinkingLists.{steps_same, steps_gone, values_none, children_none}
use Rattle.prefix_trie_table.proofs.Removal.NodesLeft.{start_is}
use Rattle.prefix_trie_table.proofs.Tree.Trees.{is_none-None}

-- ---- by nodes

-- what becomes of the block of a node's values, and of its children
abbrev pub ValuesStep : List ℕ → Option Node → Option Node → Type 0
ValuesStep free n m = StepsDown cell_sizes free (own_count n) (own_count m) (value_block_size n) (value_block_size m)

abbrev pub ChildrenStep : List ℕ → Option Node → Option Node → Type 0
ChildrenStep free n m = StepsDown node_sizes free (own_children n) (own_children m) (child_block_size n) (child_block_size m)

pub same_values : (n m : Node) → SameValues n m → SameBlock own_count value_block_size (Some n) (Some m)
same_values n m s = (ap (λ b. rank b 32) s.bitmap, λ i. size_if_any (rank (s.bitmap i) 32) (size_in cell_sizes (s.tier i)))

pub same_node : (count : Option Node → ℕ) (size : Option Node → Option ℕ) (n m : Option Node) → m ≡ n → SameBlock count size n m
same_node count size n m e = (ap count e, ap size e)

values_kept : (free : List ℕ) (n m : Option Node) → SameBlock own_count value_block_size n m → ValuesStep free n m
values_kept free n m e = steps_same cell_sizes free (own_count n) (own_count m) (value_block_size n) (value_block_size m) e.0 e.1 (values_none m)

pub children_kept : (free : List ℕ) (n m : Option Node) → SameBlock own_children child_block_size n m → ChildrenStep free n m
children_kept free n m e = steps_same node_sizes free (own_children n) (own_children m) (child_block_size n) (child_block_size m) e.0 e.1 (children_none m)

-- the same numbers and sizes
pub steps_read : {c c2 d d2 : ℕ} {o o2 n n2 : Option ℕ} (R : ℕ → ℕ → Option ℕ → Option ℕ → Type 0) → c2 ≡ c → d2 ≡ d → o2 ≡ o → n2 ≡ n → R c d o n → R c2 d2 o2 n2
steps_read R ec ed eo en r = subst (λ (x : ℕ × ℕ × Option ℕ × Option ℕ). R x.0 x.1 x.2 x.3) (λ i. (sym ec i, sym ed i, sym eo i, sym en i)) r

-- the same for an array that kept its length and its blocks
pub grows_same : {S : Type 0} (sizes : List ℕ) (u v w : Store S) (old new : Option ℕ) → u.tiers ≡ v.tiers → length u.slots ≡ length v.slots →
    GrowsBy MakesFew sizes u w old new → GrowsBy MakesFew sizes v w old new
grows_same sizes u v w old new tiers long g = record {
  longer = subst (λ ts. LongerByOne sizes (free_counts ts) old new (length v.slots) (length w.slots)) tiers
      (subst (λ n. LongerByOne sizes (free_counts u.tiers) old new n (length w.slots)) long g.longer);
  made = subst (λ ts. MakesAtMost sizes (made_of sizes (free_counts ts) old new) (made_in ts) (made_in w.tiers)) tiers g.made;
}

-- if no block changed
pub grows_not : {S : Type 0} (sizes : List ℕ) (v w : Store S) (old new : Option ℕ) → w.tiers ≡ v.tiers → length w.slots ≡ length v.slots → GrowsBy MakesFew sizes v w old new
grows_not sizes v w old new tiers long = record {
  longer = inl long;
  made = λ size there. (let e : made_in w.tiers size ≡ made_in v.tiers size = ap (λ ts. made_in ts size) tiers in (omega (arith, e), omega (arith, e)));
}

-- ---- by path, if a value was removed

module _ {T : Type 0} (reading : List ℕ → Option Node) (paths : List (List ℕ)) (values : List ℕ → ℕ → Option T) (path : List ℕ) (b : ℕ)
    (v : Store Node) (w w2 : Store (Option T)) (t : EntryTaken reading paths values path b v w w2) where
  -- a node that is missing stays so
  pub taken_gone : (x : List ℕ) → reading x ≡ None → t.later x ≡ None
  taken_gone x e = is_none-None (t.later x) (t.same x ∙ ap is_some e)

  -- the block of its node's values steps down, and each other is as it was
  pub taken_values : (x : List ℕ) → ValuesStep (free_counts w.tiers) (reading x) (t.later x)
  taken_values x = elim (same_or x path) as (λ _. ValuesStep (free_counts w.tiers) (reading x) (t.later x)) [
    | inl e ↦ subst (λ y. ValuesStep (free_counts w.tiers) (reading y) (t.later y)) (sym e) t.shrinks.steps
    | inr ne ↦ values_kept (free_counts w.tiers) (reading x) (t.later x) (same_node own_count value_block_size (reading x) (t.later x) (t.others x ne))
  ]

  -- all blocks of children are as they were
  pub taken_children : (x : List ℕ) → SameBlock own_children child_block_size (reading x) (t.later x)
  taken_children x = elim (same_or x path) as (λ _. SameBlock own_children child_block_size (reading x) (t.later x)) [
    | inl e ↦ subst (λ y. SameBlock own_children child_block_size (reading y) (t.later y)) (sym e) t.children
    | inr ne ↦ same_node own_children child_block_size (reading x) (t.later x) (t.others x ne)
  ]

-- ---- by path, if a search path was pruned

-- a node that is missing stays so
pub drops_gone : (reading : List ℕ → Option Node) (paths : List (List ℕ)) (later : List ℕ → Option Node) (left : List (List ℕ)) →
    Drops reading paths later left → (x : List ℕ) → reading x ≡ None → later x ≡ None
drops_gone reading paths later left (none) x e = e
drops_gone reading paths later left (more f ps v p c n m leaf drops hold is below bare same) x e =
    let gone : f x ≡ None = drops_gone reading paths f ps drops x e in
    elim (same_or x (p ++ c ∷ [])) as (λ _. with_child_removed f p m c x ≡ None) [
      | inl at ↦ changed_below f p m c None x at
      | inr ne ↦ changed_other f p m c None x (λ at. true≢false (ap is_some (sym is ∙ ap f (sym at) ∙ gone))) ne ∙ gone
    ]

-- all blocks of values are as they were
pub drops_values : (reading : List ℕ → Option Node) (paths : List (List ℕ)) (later : List ℕ → Option Node) (left : List (List ℕ)) →
    Drops reading paths later left → (x : List ℕ) → SameBlock own_count value_block_size (reading x) (later x)
drops_values reading paths later left (none) x = (refl, refl)
drops_values reading paths later left (more f ps v p c n m leaf drops hold is below bare same) x =
    let before = drops_values reading paths f ps drops x in
    let one = by (same_or x (p ++ c ∷ [])) (same_or x p) in
    (one.0 ∙ before.0, one.1 ∙ before.1)
  where
    by : (x ≡ p ++ c ∷ []) ⊎ (x ≢ p ++ c ∷ []) → (x ≡ p) ⊎ (x ≢ p) → SameBlock own_count value_block_size (f x) (with_child_removed f p m c x)
    by (inl at) other =
        let gone : with_child_removed f p m c x ≡ None = changed_below f p m c None x at in
        let was : f x ≡ Some leaf = ap f at ∙ below in (
          ap own_count gone ∙ sym (ap own_count was ∙ bare.no_values),
          ap value_block_size gone ∙ sym (ap value_block_size was ∙ values_none (Some leaf) bare.no_values),
        )
    by (inr ne) (inl at) =
        let now : with_child_removed f p m c x ≡ Some m = changed_here f p m c None x at in
        let was : f x ≡ Some n = ap f at ∙ is in
        let s = same_values n m same in
        (ap own_count now ∙ s.0 ∙ sym (ap own_count was), ap value_block_size now ∙ s.1 ∙ sym (ap value_block_size was))
    by (inr ne) (inr other) = same_node own_count value_block_size (f x) (with_child_removed f p m c x) (changed_other f p m c None x other ne)

module _ (reading : List ℕ → Option Node) (paths : List (List ℕ)) (path : List ℕ) (level : ℕ) (node : Node) (v v2 : Store Node)
    (p : PrunedTo reading paths path level node v v2) where
  -- the list of a node's children steps down, and was in a block if some of more are left
  abbrev Steps : List ℕ → Option Node → Type 0
  Steps x o =
      ChildrenStep (free_counts v.tiers) (reading x) o
      × (own_children o < own_children (reading x) → 0 < own_children o → HasBlock node_sizes (own_children (reading x)) (child_block_size (reading x)))

  as_it_was : (x : List ℕ) → p.later x ≡ reading x → Steps x (p.later x)
  as_it_was x e = (
    children_kept (free_counts v.tiers) (reading x) (p.later x) (same_node own_children child_block_size (reading x) (p.later x) e),
    λ less some. absurd (let s = ap own_children e in omega (arith, less, s)),
  )

  pruned_on : (k : ℕ) → k ≤ length path → Steps (take k path) (p.later (take k path))
  pruned_on k within = elim (cases_lt k level) as (λ _. Steps (take k path) (p.later (take k path))) [
    | inl high ↦ as_it_was (take k path) (p.above k high)
    | inr deep ↦ elim (cases_lt level k) as (λ _. Steps (take k path) (p.later (take k path))) [
      | inl below ↦ subst (Steps (take k path)) (sym (p.gone k below within)) (
        steps_gone node_sizes (free_counts v.tiers) (own_children (reading (take k path))) 0 (child_block_size (reading (take k path))) None refl refl
            (children_none (reading (take k path))),
        λ less some. absurd (omega (arith, some)),
      )
      | inr up ↦ subst (λ l. Steps (take l path) (p.later (take l path))) (let e : level ≡ k = omega arith in e)
          (subst (Steps (take level path)) (sym p.is) (p.shrinks.steps, λ less some. p.shrinks.has less))
    ]
  ]

  -- the block of the children of the node where pruning stopped steps down, as do those of the
  -- removed nodes; each other is unchanged
  pub pruned_children : (x : List ℕ) → Steps x (p.later x)
  pruned_children x = elim (cases_Bool (is_start x path)) as (λ _. Steps x (p.later x)) [
    | inl on ↦ (let s = start_is x path on in subst (λ y. Steps y (p.later y)) s.0 (pruned_on (length x) s.1))
    | inr off ↦ as_it_was x (p.off x off)
  ]

  -- the array of nodes grew by the block of that node at most
  pub pruned_grows : GrowsBy MakesFew node_sizes v v2 (child_block_size (reading (take level path))) (child_block_size (p.later (take level path)))
  pruned_grows = subst (λ o. GrowsBy MakesFew node_sizes v v2 (child_block_size (reading (take level path))) (child_block_size o)) (sym p.is) p.shrinks.grows
