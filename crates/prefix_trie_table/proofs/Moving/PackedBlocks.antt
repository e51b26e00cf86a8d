-- If each block is the smallest that holds its list and none is free, the entries and the nodes
-- determine the number of slots.
use Rattle.prefix_trie_table.proofs.Prelude.{◌≡◌, ℕ, zero, suc, ◌+◌, ◌<◌, Bool, true, ◌&&◌, List, [], ◌∷◌, ◌++◌, length, map, flat_map, replicate, sum_by, Option, None, Some, is_some, refl, sym, ap, ap₂, ◌∙◌, arith, eq-eqb, ◌%◌, length-map, nil_from_length, get, entries, keys, Sizes, child_block_sizes, value_block_sizes, child_count, own_entries, packed_block, packed_slots, packed_cell_slots, IsPacked, Nodes, has_node, is_node_depth, State, and-first, Node, rank, bits, blank_node, node_sizes, cell_sizes, HasSizes, chunks_of, read, own_count, child_items, child_blocks, child_blocks_of, value_blocks, value_blocks_of, Holds, NodesHold, IsPackedNode, NoneFree, AreSizesBy, Sized, own_children, child_block_size, value_block_size, IsShapeOf, Store, Tier, UsedBlock, Sound, of_size, free_extents, tier_at, tier_sizes, size_in, size_if_any, free_counts}
use Rattle.prefix_trie_table.proofs.Blocks.BySize.{free_at, node_sized, cell_sized}
use Rattle.prefix_trie_table.specs.Forest.{held, size_in}
use Rattle.prefix_trie_table.proofs.Blocks.ListBlocks.{child_blocks_housed, value_blocks_housed}
use Rattle.prefix_trie_table.proofs.Blocks.NodeLayouts.{storage_of}
use Rattle.prefix_trie_table.proofs.Blocks.SlotSums.{sum_by-mapped}
use Rattle.prefix_trie_table.proofs.Counts.BlockUsers.{nodes_sum}
use Rattle.prefix_trie_table.proofs.Counts.EntryCounts.{size_of_extent}
use Rattle.prefix_trie_table.proofs.Splitting.RootSpace.{slots_told}
use Rattle.prefix_trie_table.proofs.Removal.ModelSizes.{size_read, own_is, children_is}
use Rattle.prefix_trie_table.proofs.Strings.BitLists.{rank-all}
use Rattle.prefix_trie_table.proofs.Strings.PathStrings.{string_at, string_depth, string_path, paths_steps, paths_once, same_nodes}
use Rattle.prefix_trie_table.proofs.Strings.PathSums.{sum_same}
use Rattle.prefix_trie_table.proofs.Tree.Shapes.{reads_node, shape_nodes}

-- ---- no block is free

no_extents : (ts : List Tier) → ((j : ℕ) → j < length ts → length (tier_at ts j).starts ≡ 0) → free_extents ts ≡ []
no_extents [] none = refl
no_extents (t ∷ ts) none = ap₂ (λ xs es. map (of_size t.size) xs ++ es) (nil_from_length t.starts (none 0 (omega arith))) (no_extents ts (λ j h. none (suc j) (omega arith)))

no_counts : (ts : List Tier) → ((j : ℕ) → j < length ts → length (tier_at ts j).starts ≡ 0) → (n : ℕ) → length ts ≡ n → free_counts ts ≡ replicate n 0
no_counts [] none n e = ap (λ k. replicate k 0) e
no_counts (t ∷ ts) none n e = ap₂ (λ k ks. k ∷ ks) (none 0 (omega arith)) (no_counts ts (λ j h. none (suc j) (omega arith)) (length ts) refl) ∙ ap (λ k. replicate k 0) e

-- nor of any tier
none_at : {S : Type 0} (v : Store S) → HasSizes v.tiers → NoneFree v → (j : ℕ) → j < length v.tiers → length (tier_at v.tiers j).starts ≡ 0
none_at v has none j inside = sym (free_at v.tiers j has inside) ∙ none (size_in (tier_sizes v.tiers) j)

-- ---- the slots of blocks by the nodes that have them

module _ {S : Type 0} where
  abbrev block_size : UsedBlock S → ℕ
  block_size b = b.size

  held_slots : (sizes : List ℕ) (k start size : ℕ) (xs : List S) (n : ℕ) → length xs ≡ n → size_if_any n size ≡ packed_block sizes n →
      sum_by block_size (held k start size xs) ≡ packed_slots sizes n
  held_slots sizes k start size [] n e packed = ap (packed_slots sizes) e
  held_slots sizes k start size (x ∷ xs) zero e packed = absurd (omega (arith, e))
  held_slots sizes k start size (x ∷ xs) (suc n) e packed =
      (let one : 0 + size ≡ size = omega arith in one)
      ∙ ap (λ o. elim o as (λ _. ℕ) [ None ↦ 0 | Some m ↦ m ]) packed

  -- all slots after those before the blocks belong to used blocks
  all_slots : (vacant : S) (f : List ℕ → List (UsedBlock S)) (paths : List (List ℕ)) (v : Store S) → Sound vacant (flat_map f paths) v → HasSizes v.tiers → NoneFree v →
      length v.slots ≡ v.first + sum_by (λ p. sum_by block_size (f p)) paths
  all_slots vacant f paths v sound has none = omega (arith, slots_told vacant f paths v sound, ap (λ es. sum_by size_of_extent es) (no_extents v.tiers (none_at v has none)))

-- a sum over the nodes is one over their paths
by_paths : (reading : List ℕ → Option Node) (paths : List (List ℕ)) (v : Store Node) → NodesHold node_sizes reading paths v → (n : Nodes) →
    ((s : List Bool) → has_node n s ≡ (is_node_depth s && is_some (reading (chunks_of s)))) → (f : List Bool → ℕ) →
    sum_by f (keys n) ≡ sum_by (λ p. f (string_at p)) paths
by_paths reading paths v hold n are f =
    sum_by-mapped f (λ (e : List Bool × Unit {0}). e.0) (entries n)
    ∙ ap (λ m. sum_by (λ (e : List Bool × Unit {0}). f e.0) (entries m)) (same_nodes node_sizes reading paths v hold n are)
    ∙ nodes_sum (λ e. f e.0) paths (paths_steps node_sizes reading paths v hold) (paths_once node_sizes reading paths v hold)

-- ---- the sizes of blocks by string

module _ (size : Option Node → Option ℕ) (count : Option Node → ℕ) (sizes : List ℕ) (reading : List ℕ → Option Node)
    (packed : (x : List ℕ) → size (reading x) ≡ packed_block sizes (count (reading x))) (nodes : List Node) (reads : (x : List ℕ) → read nodes x ≡ reading x)
    (n : Nodes) (are : (p : List Bool) → has_node n p ≡ (is_node_depth p && is_some (reading (chunks_of p))))
    (number : List Bool → ℕ) (has : (p : List Bool) → is_node_depth p ≡ true → number p ≡ count (reading (chunks_of p)))
    (blocks : Sizes) (blocks_are : AreSizesBy size nodes blocks) where
  at_each : (p : List Bool) → has_node n p ≡ true → get blocks p ≡ packed_block sizes (number p)
  at_each p there =
      let depth = and-first (is_node_depth p) (is_some (reading (chunks_of p))) (sym (are p) ∙ there) in
      size_read size nodes reading blocks blocks_are reads p depth ∙ packed (chunks_of p) ∙ ap (packed_block sizes) (sym (has p depth))

module _ {T : Type 0} (reading : List ℕ → Option Node) (values : List ℕ → ℕ → Option T) (paths : List (List ℕ)) (v : Store Node) (w : Store (Option T))
    (holds : Holds reading values paths v w) (packed : (p : List ℕ) (n : Node) → reading p ≡ Some n → IsPackedNode n) (no_node : NoneFree v) (no_cell : NoneFree w)
    (first : w.first ≡ 0) (s : State T) (is : IsShapeOf v.slots w.slots s) where
  are : (p : List Bool) → has_node s.nodes p ≡ (is_node_depth p && is_some (reading (chunks_of p)))
  are = shape_nodes reading values paths v w holds s is

  packed_sizes : (o : Option Node) → ((n : Node) → o ≡ Some n → IsPackedNode n) →
      (child_block_size o ≡ packed_block child_block_sizes (own_children o)) × (value_block_size o ≡ packed_block value_block_sizes (own_count o))
  packed_sizes None each = (refl, refl)
  packed_sizes (Some n) each = ((each n refl).children, (each n refl).values)

  -- the slots of one node's blocks
  child_slots : (p : List ℕ) → sum_by block_size (child_blocks node_sizes reading p) ≡ packed_slots child_block_sizes (own_children (reading p))
  child_slots p = by (reading p) (packed_sizes (reading p) (packed p)).0
    where
      by : (o : Option Node) → child_block_size o ≡ packed_block child_block_sizes (own_children o) → sum_by block_size (child_blocks_of node_sizes reading p o) ≡ packed_slots child_block_sizes (own_children o)
      by None e = refl
      by (Some n) e =
          held_slots child_block_sizes n.child_tier n.child_block (size_in node_sizes n.child_tier) (child_items reading p n.child_bitmap) (rank n.child_bitmap 32)
          (rank-all _ n.child_bitmap) e

  cell_slots : (p : List ℕ) → sum_by block_size (value_blocks cell_sizes reading values p) ≡ packed_slots value_block_sizes (own_count (reading p))
  cell_slots p = by (reading p) (packed_sizes (reading p) (packed p)).1
    where
      by : (o : Option Node) → value_block_size o ≡ packed_block value_block_sizes (own_count o) → sum_by block_size (value_blocks_of cell_sizes values p o) ≡ packed_slots value_block_sizes (own_count o)
      by None e = refl
      by (Some n) e =
          held_slots value_block_sizes n.value_tier n.value_block (size_in cell_sizes n.value_tier) (map (values p) (bits n.value_bitmap)) (rank n.value_bitmap 32)
          (rank-all (values p) n.value_bitmap) e

  -- and to all of those
  all_long : {S : Type 0} (vacant : S) (f : List ℕ → List (UsedBlock S)) (u : Store S) → Sound vacant (flat_map f paths) u → HasSizes u.tiers → NoneFree u →
      (sizes : List ℕ) (count : Option Node → ℕ) (number : List Bool → ℕ) → ((p : List Bool) → is_node_depth p ≡ true → number p ≡ count (reading (chunks_of p))) →
      ((p : List ℕ) → sum_by block_size (f p) ≡ packed_slots sizes (count (reading p))) → length u.slots ≡ u.first + sum_by (λ p. packed_slots sizes (number p)) (keys s.nodes)
  all_long vacant f u sound has none sizes count number is_count each =
      all_slots vacant f paths u sound has none
      ∙ ap (λ n. u.first + n) (sym (by_paths reading paths v holds.hold s.nodes are (λ p. packed_slots sizes (number p))
      ∙ sum_same (λ p. sum_by block_size (f p)) (λ p. packed_slots sizes (number (string_at p))) paths
      (λ p listed. ap (packed_slots sizes) (is_count (string_at p) (eq-eqb (length (string_at p) % 5) 0 (string_depth p))
      ∙ ap (λ x. count (reading x)) (string_path p (paths_steps node_sizes reading paths v holds.hold p listed))) ∙ sym (each p))))

  seven : (ts : List Tier) (sizes : List ℕ) → tier_sizes ts ≡ sizes → length ts ≡ length sizes
  seven ts sizes e = sym (length-map ts (λ t. t.size)) ∙ ap (λ xs. length xs) e

  pub is_packed : (z : Sized v.slots) → IsPacked s (storage_of v w z)
  is_packed z = record {
    child_blocks = record {
      at_nodes = at_each child_block_size own_children child_block_sizes reading (λ x. (packed_sizes (reading x) (packed x)).0) v.slots (reads_node reading values paths v w holds) s.nodes are
          (child_count s.nodes) (children_is reading values paths v w holds s is) z.0 z.1.1.0;
      elsewhere = (child_blocks_housed reading values paths v w holds s is z).elsewhere;
    };
    value_blocks = record {
      at_nodes = at_each value_block_size own_count value_block_sizes reading (λ x. (packed_sizes (reading x) (packed x)).1) v.slots (reads_node reading values paths v w holds) s.nodes are
          (own_entries s.entries) (own_is reading values paths v w holds s is) z.1.0 z.1.1.1;
      elsewhere = (value_blocks_housed reading values paths v w holds s is z).elsewhere;
    };
    no_child_block_free = no_counts v.tiers (none_at v (node_sized v.tiers holds.hold.sizes_are) no_node) 7 (seven v.tiers node_sizes holds.hold.sizes_are);
    no_value_block_free = no_counts w.tiers (none_at w (cell_sized w.tiers holds.cells.sizes_are) no_cell) 7 (seven w.tiers cell_sizes holds.cells.sizes_are);
    node_slots =
        all_long blank_node (child_blocks node_sizes reading) v holds.hold.sound (node_sized v.tiers holds.hold.sizes_are) no_node child_block_sizes own_children
        (child_count s.nodes) (children_is reading values paths v w holds s is) child_slots
        ∙ ap (λ n. n + sum_by (λ p. packed_slots child_block_sizes (child_count s.nodes p)) (keys s.nodes)) holds.hold.first_is;
    cell_slots =
        all_long None (value_blocks cell_sizes reading values) w holds.cells.sound (cell_sized w.tiers holds.cells.sizes_are) no_cell value_block_sizes own_count
        (own_entries s.entries) (own_is reading values paths v w holds s is) cell_slots
        ∙ ap (λ n. n + packed_cell_slots s.entries s.nodes) first ∙ (let e : 0 + packed_cell_slots s.entries s.nodes ≡ packed_cell_slots s.entries s.nodes = omega arith in e);
  }
