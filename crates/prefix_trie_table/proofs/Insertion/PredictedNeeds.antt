-- The blocks that an insertion needs are those that the model states for the table's entries, nodes
-- and layout.
use Rattle.prefix_trie_table.proofs.Prelude.{◌≡◌, ℕ, ◌+◌, ◌-◌, ◌*◌, ◌/◌, ◌%◌, ◌<◌, ◌≤◌, inl, inr, Bool, true, cond, ◌&&◌, List, length, take, Option, None, Some, is_some, Result, refl, sym, ap, ap₂, ◌∙◌, subst, arith, eq-eqb, length-take-le, append-nil, false≢true, cases_Bool, cases_lt, take-take, option_to_list, get, child_block_sizes, value_block_sizes, child_count, own_entries, block_needed, child_blocks_needed, value_blocks_needed, has_node, is_node_depth, home, State, is-same_string, none_needed, blocks_needed, Node, Reached, nodes_needed, cells_needed, ObtainsBoth, IsTable, IsLast, slot_at, rank, node_sizes, cell_sizes, chunks_of, is_start, Holds, IsEnd, has_child, has_value, Sized, child_block_size, value_block_size, value_need, IsShapeOf, Shaped, Store, needs}
use Rattle.prefix_trie_table.proofs.Strings.SmallFacts.{whole_levels}
use Rattle.prefix_trie_table.proofs.Tree.Invariant.{some_table}
use Rattle.prefix_trie_table.proofs.Insertion.Needs.{nodes_here, nodes_below, cells_here, cells_below}
use Rattle.prefix_trie_table.proofs.Strings.Bits.{has_bit-zero}
use Rattle.prefix_trie_table.proofs.Strings.BitLists.{rank-zero-all}
use Rattle.prefix_trie_table.proofs.Strings.Digits.{path-length, path-take}
use Rattle.prefix_trie_table.proofs.Lookup.DescentEnds.{prefix_some}
use Rattle.prefix_trie_table.proofs.Lookup.Descents.{deepest_is}
use Rattle.prefix_trie_table.proofs.Lookup.SearchPaths.{path_end}
use Rattle.prefix_trie_table.proofs.Counts.OwnCounts.{children_counted, values_counted}
use Rattle.prefix_trie_table.proofs.Tree.Shapes.{shape_nodes, shape_entries}
use Rattle.prefix_trie_table.proofs.Blocks.NodeLayouts.{layout_of}
use Rattle.prefix_trie_table.proofs.Strings.Beginnings.{is_start_take}
use Rattle.prefix_trie_table.proofs.Tree.Trees.{reads, is_none-None}

whole : (i l : ℕ) → i ≤ l / 5 → 5 * i ≤ l
whole i l h = omega (arith, h)

last_level : (level l : ℕ) → level ≡ l / 5 → l < 5 * level + 5
last_level level l e = omega (arith, e)

inner_level : (level l : ℕ) → level < l / 5 → 5 * level + 5 ≤ l
inner_level level l h = omega (arith, h)

module _ {T : Type 0} (reading : List ℕ → Option Node) (values : List ℕ → ℕ → Option T) (paths : List (List ℕ)) (v : Store Node) (w : Store (Option T))
    (holds : Holds reading values paths v w) (s : State T) (is : IsShapeOf v.slots w.slots s) (sized : Sized v.slots) where
  module _ (p : List Bool) (depth : is_node_depth p ≡ true) where
    pub child_size : (o : Option Node) → reading (chunks_of p) ≡ o → get sized.0 p ≡ child_block_size o
    child_size o e =
        sized.1.1.0 p ∙ ap₂ (λ d x. cond d (child_block_size x) None) depth (reads node_sizes reading paths v holds.hold (chunks_of p) ∙ e)

    pub value_size : (o : Option Node) → reading (chunks_of p) ≡ o → get sized.1.0 p ≡ value_block_size o
    value_size o e =
        sized.1.1.1 p ∙ ap₂ (λ d x. cond d (value_block_size x) None) depth (reads node_sizes reading paths v holds.hold (chunks_of p) ∙ e)

    pub children_are : (n : Node) → reading (chunks_of p) ≡ Some n → child_count s.nodes p ≡ rank n.child_bitmap 32
    children_are n e =
        children_counted node_sizes reading paths v holds.hold p depth s.nodes (shape_nodes reading values paths v w holds s is) n.child_bitmap
        (λ c. ap (λ o. has_child o c) e)

    pub no_children : reading (chunks_of p) ≡ None → child_count s.nodes p ≡ 0
    no_children e =
        children_counted node_sizes reading paths v holds.hold p depth s.nodes (shape_nodes reading values paths v w holds s is) 0
        (λ c. ap (λ o. has_child o c) e ∙ sym (has_bit-zero c)) ∙ rank-zero-all

    pub values_are : (n : Node) → reading (chunks_of p) ≡ Some n → own_entries s.entries p ≡ rank n.value_bitmap 32
    values_are n e =
        values_counted node_sizes reading paths v holds.hold p depth values w cell_sizes holds.cells s.entries
        (shape_entries reading values paths v w holds s is) n.value_bitmap (λ b. ap (λ o. has_value o b) e)

    pub no_values : reading (chunks_of p) ≡ None → own_entries s.entries p ≡ 0
    no_values e =
        values_counted node_sizes reading paths v holds.hold p depth values w cell_sizes holds.cells s.entries
        (shape_entries reading values paths v w holds s is) 0 (λ b. ap (λ o. has_value o b) e ∙ sym (has_bit-zero b)) ∙ rank-zero-all

  module _ (q : List Bool) where
    -- the nodes on the search path of q, by their levels
    pub search_path : (i : ℕ) → i ≤ length q / 5 → chunks_of (take (5 * i) q) ≡ take i (chunks_of q)
    search_path i h = path-take i q (whole i (length q) h)

    pub depth_is : (i : ℕ) → i ≤ length q / 5 → is_node_depth (take (5 * i) q) ≡ true
    depth_is i h = eq-eqb (length (take (5 * i) q) % 5) 0 (whole_levels (length (take (5 * i) q)) i (length-take-le (5 * i) q (whole i (length q) h)))

    pub node_is : (i : ℕ) → i ≤ length q / 5 → has_node s.nodes (take (5 * i) q) ≡ is_some (reading (take i (chunks_of q)))
    node_is i h =
        shape_nodes reading values paths v w holds s is (take (5 * i) q)
        ∙ ap₂ (λ d p. d && is_some (reading p)) (depth_is i h) (search_path i h)

    module _ (here : Reached) (end : IsEnd reading (chunks_of q) here.level) (at : reading (take here.level (chunks_of q)) ≡ Some here.node) where
      deep : here.level ≤ length q / 5
      deep = (let w = end.within in let e = path-length q in omega arith)

      above : (i : ℕ) → i ≤ here.level → is_some (reading (take i (chunks_of q))) ≡ true
      above i h =
          prefix_some node_sizes reading paths v holds.hold (take i (chunks_of q)) (take here.level (chunks_of q)) (ap is_some at)
          (ap (λ p. is_start p (take here.level (chunks_of q))) (sym (take-take i here.level (chunks_of q) h)) ∙ is_start_take i (take here.level (chunks_of q)))

      gone : (i : ℕ) → here.level < i → i ≤ length q / 5 → reading (take i (chunks_of q)) ≡ None
      gone i more h = elim (cases_Bool (is_some (reading (take i (chunks_of q))))) as (λ _. reading (take i (chunks_of q)) ≡ None) [
        | inl some ↦ absurd (false≢true (sym (end.stops (let e = path-length q in omega arith))
            ∙ prefix_some node_sizes reading paths v holds.hold (take (here.level + 1) (chunks_of q)) (take i (chunks_of q)) some
            (ap (λ p. is_start p (take i (chunks_of q))) (sym (take-take (here.level + 1) i (chunks_of q) (omega arith))) ∙ is_start_take (here.level + 1) (take i (chunks_of q)))))
        | inr none ↦ is_none-None (reading (take i (chunks_of q))) none
      ]

      own : reading (chunks_of (take (5 * here.level) q)) ≡ Some here.node
      own = ap reading (search_path here.level deep) ∙ at

      below_none : (i : ℕ) → here.level < i → i ≤ length q / 5 → reading (chunks_of (take (5 * i) q)) ≡ None
      below_none i more h = ap reading (search_path i h) ∙ gone i more h

      -- the blocks for nodes
      children_needed : child_blocks_needed s.nodes (layout_of v.slots v.tiers w.tiers sized) q ≡ nodes_needed here q
      children_needed = elim (cases_lt here.level (length q / 5)) as (λ _. child_blocks_needed s.nodes (layout_of v.slots v.tiers w.tiers sized) q ≡ nodes_needed here q) [
        | inl inside ↦
            blocks_needed s.nodes sized.0 q (length q / 5) refl here.level inside
            (λ i h. node_is i (omega arith) ∙ above i h) (λ i more h. node_is i h ∙ ap is_some (gone i more h))
            (λ i more h. (child_size (take (5 * i) q) (depth_is i h) None (below_none i more h), no_children (take (5 * i) q) (depth_is i h) (below_none i more h)))
            ∙ ap₂ (λ o c. needs (block_needed child_block_sizes o c) (length q / 5 - (here.level + 1)))
            (child_size (take (5 * here.level) q) (depth_is here.level deep) (Some here.node) own) (children_are (take (5 * here.level) q) (depth_is here.level deep) here.node own)
            ∙ sym (nodes_below here q (inner_level here.level (length q) inside))
        | inr past ↦
            let last : here.level ≡ length q / 5 = (let d = deep in omega arith) in
            none_needed s.nodes sized.0 q (length q / 5) refl (λ i h. node_is i h ∙ above i (omega arith))
            ∙ sym (nodes_here here q (last_level here.level (length q) last))
      ]

      one_needed : (o : Option ℕ) → block_needed value_block_sizes (get sized.1.0 (home q)) (own_entries s.entries (home q)) ≡ o →
          value_blocks_needed s.entries (layout_of v.slots v.tiers w.tiers sized) q ≡ needs o 0
      one_needed o same =
          ap (λ b. option_to_list (cond b (block_needed value_block_sizes (get sized.1.0 (home q)) (own_entries s.entries (home q))) None)) (is-same_string (home q) (home q) refl)
          ∙ ap (λ p. option_to_list p) same ∙ sym (append-nil (option_to_list o))

      -- the block for values
      values_needed : value_blocks_needed s.entries (layout_of v.slots v.tiers w.tiers sized) q ≡ cells_needed here q
      values_needed = elim (cases_lt here.level (length q / 5)) as (λ _. value_blocks_needed s.entries (layout_of v.slots v.tiers w.tiers sized) q ≡ cells_needed here q) [
        | inl inside ↦
            let none = below_none (length q / 5) inside (omega arith) in
            one_needed (value_need None) (ap₂ (block_needed value_block_sizes) (value_size (home q) (depth_is (length q / 5) (omega arith)) None none)
            (no_values (home q) (depth_is (length q / 5) (omega arith)) none)) ∙ sym (cells_below here q (inner_level here.level (length q) inside))
        | inr past ↦
            let last : here.level ≡ length q / 5 = (let d = deep in omega arith) in
            let at_home : reading (chunks_of (home q)) ≡ Some here.node = ap (λ i. reading (chunks_of (take (5 * i) q))) (sym last) ∙ own in
            one_needed (value_need (Some here.node))
            (ap₂ (block_needed value_block_sizes) (value_size (home q) (depth_is (length q / 5) (omega arith)) (Some here.node) at_home)
            (values_are (home q) (depth_is (length q / 5) (omega arith)) here.node at_home)) ∙ sym (cells_here here q (last_level here.level (length q) last))
      ]

-- what the insertion of a missing string obtains are the blocks that the model states
pub obtained : {T X E : Type 0} (for_limit for_memory : E → Type 0) (q : List Bool) (here : Reached) (v v2 : Store Node) (w w2 : Store (Option T)) (count : ℕ)
    (s : Shaped v.slots w.slots) (is : IsTable v w count s.0) (sized : Sized v.slots) (r : Result X E) → IsLast q here v →
    ObtainsBoth for_limit for_memory r v v2 w w2 (nodes_needed here q) (cells_needed here q) → ObtainsBoth for_limit for_memory r v v2 w w2
    (child_blocks_needed s.0.nodes (layout_of v.slots v.tiers w.tiers sized) q) (value_blocks_needed s.0.entries (layout_of v.slots v.tiers w.tiers sized) q)
obtained for_limit for_memory q here v v2 w w2 count s is sized r at obtains =
    let t = some_table is in
    let end = path_end q here v at t.reading t.paths t.holds.hold in
    let own = deepest_is t.reading t.paths v (chunks_of q) here.level (slot_at here) t.holds.hold (at.along.deepest t.reading t.paths t.holds.hold) here.node at.along.node_is in
    subst (λ ns. ObtainsBoth for_limit for_memory r v v2 w w2 ns (value_blocks_needed s.0.entries (layout_of v.slots v.tiers w.tiers sized) q))
    (sym (children_needed t.reading t.values t.paths v w t.holds s.0 s.1 sized q here end own))
    (subst (λ cs. ObtainsBoth for_limit for_memory r v v2 w w2 (nodes_needed here q) cs) (sym (values_needed t.reading t.values t.paths v w t.holds s.0 s.1 sized q here end own)) obtains)
