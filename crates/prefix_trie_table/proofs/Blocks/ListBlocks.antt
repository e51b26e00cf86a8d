-- The children of each node, and the values of each node, are in a block of one of the sizes that holds them: for the
-- invariant.
use Rattle.prefix_trie_table.proofs.Prelude.{◌≡◌, ℕ, zero, suc, ◌<◌, inl, inr, Bool, true, cond, ◌&&◌, List, length, map, flat_map, Option, None, Some, is_some, refl, sym, ap, ◌∙◌, subst, arith, cases_Bool, get_or_default, get, Sizes, HasBlock, NodesHaveBlocks, child_block_sizes, value_block_sizes, child_count, own_entries, Nodes, has_node, is_node_depth, State, and-first, Node, rank, bits, blank_node, node_sizes, cell_sizes, chunks_of, Holds, read, own_count, without, value_blocks, AreSizesBy, Sized, own_children, child_block_size, value_block_size, IsShapeOf, Store, HasList, size_in, tier_sizes, size_if_any}
use Rattle.prefix_trie_table.proofs.Insertion.Additions.{children_list}
use Rattle.prefix_trie_table.proofs.Strings.BitLists.{rank-all}
use Rattle.prefix_trie_table.proofs.Removal.Items.{held_fits}
use Rattle.prefix_trie_table.proofs.Tree.Shapes.{reads_node, shape_nodes}
use Rattle.prefix_trie_table.proofs.Removal.ModelSizes.{size_read, own_is, children_is}
use Rattle.prefix_trie_table.proofs.Tree.Trees.{is_none-None}
use Rattle.prefix_trie_table.proofs.Tree.Values.{values_first}

-- a list in a block of tier k has a block that holds it
list_housed : {S : Type 0} (vacant : S) (v : Store S) (k start : ℕ) (sizes : List ℕ) → tier_sizes v.tiers ≡ sizes →
    length sizes ≡ 7 → (count : ℕ) → HasList vacant v k start count → HasBlock sizes count (size_if_any count (size_in sizes k))
list_housed vacant v k start sizes are seven zero list = refl
list_housed vacant v k start sizes are seven (suc n) list =
    let fits = held_fits vacant v k start (suc n) sizes are seven list (omega arith) in
    let inside : k < length sizes = (let f = fits.0 in omega arith) in
    (size_in sizes k, refl, (k, inside, get_or_default sizes k (size_in sizes k) 0 inside), fits.1)

-- what holds of each node by its path holds of it by its string
module _ (size : Option Node → Option ℕ) (count : Option Node → ℕ) (sizes : List ℕ) (reading : List ℕ → Option Node)
    (housed : (x : List ℕ) → HasBlock sizes (count (reading x)) (size (reading x))) (none : size None ≡ None) (nodes : List Node)
    (reads : (x : List ℕ) → read nodes x ≡ reading x) (n : Nodes)
    (are : (p : List Bool) → has_node n p ≡ (is_node_depth p && is_some (reading (chunks_of p))))
    (number : List Bool → ℕ) (has : (p : List Bool) → is_node_depth p ≡ true → number p ≡ count (reading (chunks_of p)))
    (blocks : Sizes) (blocks_are : AreSizesBy size nodes blocks) where
  nodes_housed : NodesHaveBlocks sizes n number blocks
  nodes_housed = record {
    at_nodes = λ p there.
        let depth = and-first (is_node_depth p) (is_some (reading (chunks_of p))) (sym (are p) ∙ there) in
        subst (λ c. HasBlock sizes c (get blocks p)) (sym (has p depth))
        (subst (λ o. HasBlock sizes (count (reading (chunks_of p))) o) (sym (size_read size nodes reading blocks blocks_are reads p depth))
        (housed (chunks_of p)));
    elsewhere = λ p some_missing. elim (cases_Bool (is_node_depth p)) as (λ _. get blocks p ≡ None) [
      | inl depth ↦
          size_read size nodes reading blocks blocks_are reads p depth
          ∙ ap size (is_none-None (reading (chunks_of p)) (sym (ap (λ b. b && is_some (reading (chunks_of p))) depth) ∙ sym (are p) ∙ some_missing))
          ∙ none
      | inr other ↦ blocks_are p ∙ ap (λ b. cond b (size (read nodes (chunks_of p))) None) other
    ];
  }

module _ {T : Type 0} (reading : List ℕ → Option Node) (values : List ℕ → ℕ → Option T) (paths : List (List ℕ)) (v : Store Node)
    (w : Store (Option T)) (holds : Holds reading values paths v w) where
  pub children_housed : (x : List ℕ) → HasBlock node_sizes (own_children (reading x)) (child_block_size (reading x))
  children_housed x = by (reading x) refl
    where
      by : (o : Option Node) → reading x ≡ o → HasBlock node_sizes (own_children o) (child_block_size o)
      by None e = refl
      by (Some n) e =
          list_housed blank_node v n.child_tier n.child_block node_sizes holds.hold.sizes_are refl (rank n.child_bitmap 32)
          (children_list reading paths v holds.hold x n e)

  pub values_housed : (x : List ℕ) → HasBlock cell_sizes (own_count (reading x)) (value_block_size (reading x))
  values_housed x = by (reading x) refl
    where
      list : (n : Node) → reading x ≡ Some n → HasList None w n.value_tier n.value_block (rank n.value_bitmap 32)
      list n e = record {
        live = flat_map (value_blocks cell_sizes reading values) (without x paths);
        size = size_in cell_sizes n.value_tier;
        items = map (values x) (bits n.value_bitmap);
        is_count = rank-all (values x) n.value_bitmap;
        sound = values_first cell_sizes node_sizes reading paths v holds.hold values w holds.cells x n e;
      }

      by : (o : Option Node) → reading x ≡ o → HasBlock cell_sizes (own_count o) (value_block_size o)
      by None e = refl
      by (Some n) e =
          list_housed None w n.value_tier n.value_block cell_sizes holds.cells.sizes_are refl (rank n.value_bitmap 32) (list n e)

  module _ (s : State T) (is : IsShapeOf v.slots w.slots s) (sized : Sized v.slots) where
    -- each node has a block that holds its children
    pub child_blocks_housed : NodesHaveBlocks child_block_sizes s.nodes (child_count s.nodes) sized.0
    child_blocks_housed =
        nodes_housed child_block_size own_children child_block_sizes reading children_housed refl v.slots
        (reads_node reading values paths v w holds) s.nodes (shape_nodes reading values paths v w holds s is) (child_count s.nodes)
        (children_is reading values paths v w holds s is) sized.0 sized.1.1.0

    -- each node has a block that holds its values
    pub value_blocks_housed : NodesHaveBlocks value_block_sizes s.nodes (own_entries s.entries) sized.1.0
    value_blocks_housed =
        nodes_housed value_block_size own_count value_block_sizes reading values_housed refl v.slots
        (reads_node reading values paths v w holds) s.nodes (shape_nodes reading values paths v w holds s is) (own_entries s.entries)
        (own_is reading values paths v w holds s is) sized.1.0 sized.1.1.1
