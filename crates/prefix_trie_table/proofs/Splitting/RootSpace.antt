-- A second table never needs more slots than the first has.
use Rattle.prefix_trie_table.proofs.Prelude.{same_Some, ◌≡◌, ℕ, zero, suc, ◌+◌, ◌≤◌, true, List, [], ◌∷◌, length, map, flat_map, sum_by, Option, None, Some, refl, sym, ap, ◌∙◌, arith, sum_by-le-sum_by, HasBlock, packed_slots, State, goes_up, smallest_of, Node, rank, bits, blank_node, node_at, node_sizes, cell_sizes, own_count, child_items, child_blocks, child_blocks_of, value_blocks, value_blocks_of, CanBuild, child_slots, value_slots, slots_below, own_children, Store, UsedBlock, Sound, extent, free_extents, held, size_in, tier_sizes, size_if_any, IsTrie}
use Rattle.prefix_trie_table.specs.OwnBlocks.{child_block_size, value_block_size}
use Rattle.prefix_trie_table.proofs.Blocks.ListBlocks.{children_housed, values_housed}
use Rattle.prefix_trie_table.proofs.Blocks.SlotSums.{sum_by-flat_map, sum_by-mapped}
use Rattle.prefix_trie_table.proofs.Blocks.Tilings.{blocks_sum}
use Rattle.prefix_trie_table.proofs.Counts.EntryCounts.{size_of_extent, tiling-sum}
use Rattle.prefix_trie_table.proofs.Blocks.BuiltLists.{slots_found}
use Rattle.prefix_trie_table.proofs.Splitting.WholeTree.{own_of, whole_tree}
use Rattle.prefix_trie_table.proofs.Strings.BitLists.{rank-all}
use Rattle.prefix_trie_table.proofs.Tree.Invariant.{some_table}

-- an array has the slots before its first block, those of the used blocks and those of the free
-- ones
pub slots_told : {S : Type 0} (vacant : S) {X : Type 0} (f : X → List (UsedBlock S)) (xs : List X) (v : Store S) → Sound vacant (flat_map f xs) v →
    length v.slots ≡ v.first + sum_by (λ x. sum_by (λ b. b.size) (f x)) xs + sum_by size_of_extent (free_extents v.tiers)
slots_told vacant f xs v s =
    omega (
      arith,
      tiling-sum (tier_sizes v.tiers) v.first (length v.slots) s.blocks.blocks s.blocks.tiles,
      blocks_sum (tier_sizes v.tiers) v.first (length v.slots) (map extent (flat_map f xs)) (free_extents v.tiers) s.blocks size_of_extent,
      sum_by-mapped size_of_extent extent (flat_map f xs),
      sum_by-flat_map (λ b. b.size) f xs,
    )

-- the smallest block is no larger than the one that a list has
packed_within : {S : Type 0} (sizes : List ℕ) → goes_up 0 sizes ≡ true → (count k start : ℕ) (items : List S) → length items ≡ count →
    HasBlock sizes count (size_if_any count (size_in sizes k)) → packed_slots sizes count ≤ sum_by (λ b. b.size) (held k start (size_in sizes k) items)
packed_within sizes up zero k start items e has = omega arith
packed_within sizes up (suc n) k start [] e has = absurd (omega (arith, e))
packed_within sizes up (suc n) k start (x ∷ items) e has =
    let least = smallest_of 0 sizes up (suc n) has.0 has.2 has.3 in
    let less = least.least in omega (arith, same_Some (size_in sizes k) has.0 has.1, slots_found sizes n least.size least.found, less)

module _ {T : Type 0} (width count : ℕ) (v : Store Node) (w : Store (Option T)) (s : State T) (trie : IsTrie width count v w s) where
  abbrev reading : List ℕ → Option Node
  reading = trie.table.reading

  abbrev paths : List (List ℕ)
  paths = trie.table.paths

  nodes_at : (x : List ℕ) → own_of child_slots reading paths v trie.table.nodes (reading x) ≤ sum_by (λ b. b.size) (child_blocks node_sizes reading x)
  nodes_at x = by (reading x) (children_housed reading trie.table.values paths v w (some_table trie.table).holds x)
    where
      by : (o : Option Node) → HasBlock node_sizes (own_children o) (child_block_size o) →
          own_of child_slots reading paths v trie.table.nodes o ≤ sum_by (λ b. b.size) (child_blocks_of node_sizes reading x o)
      by None has = omega arith
      by (Some n) has =
          packed_within node_sizes refl (rank n.child_bitmap 32) n.child_tier n.child_block (child_items reading x n.child_bitmap)
          (rank-all _ n.child_bitmap) has

  cells_at : (x : List ℕ) → own_of value_slots reading paths v trie.table.nodes (reading x) ≤ sum_by (λ b. b.size) (value_blocks cell_sizes reading trie.table.values x)
  cells_at x = by (reading x) (values_housed reading trie.table.values paths v w (some_table trie.table).holds x)
    where
      by : (o : Option Node) → HasBlock cell_sizes (own_count o) (value_block_size o) →
          own_of value_slots reading paths v trie.table.nodes o ≤ sum_by (λ b. b.size) (value_blocks_of cell_sizes trie.table.values x o)
      by None has = omega arith
      by (Some n) has =
          packed_within cell_sizes refl (rank n.value_bitmap 32) n.value_tier n.value_block (map (trie.table.values x) (bits n.value_bitmap))
          (rank-all _ n.value_bitmap) has

  module _ (n : Node) (is_root : n ≡ node_at v.slots 0) (levels : ℕ) where
    root_space : {S : Type 0} (vacant : S) (own : Node → ℕ) (f : List ℕ → List (UsedBlock S)) (u : Store S) → Sound vacant (flat_map f paths) u →
        ((x : List ℕ) → own_of own reading paths v trie.table.nodes (reading x) ≤ sum_by (λ b. b.size) (f x)) →
        u.first + slots_below own v.slots levels n ≤ length u.slots
    root_space vacant own f u sound each =
        omega (
          arith,
          whole_tree own reading paths v trie.table.nodes levels n (trie.table.nodes.rooted ∙ ap Some (sym is_root)),
          sum_by-le-sum_by (λ x. own_of own reading paths v trie.table.nodes (reading x)) (λ x. sum_by (λ b. b.size) (f x)) paths each,
          slots_told vacant f paths u sound,
        )

    -- new arrays under the same limit have space for all
    pub root_nodes : (v1 : Store Node) → Sound blank_node [] v1 → tier_sizes v1.tiers ≡ node_sizes → length v1.slots ≡ 1 → v1.limit ≡ v.limit →
        CanBuild blank_node node_sizes (slots_below child_slots v.slots levels n) v1
    root_nodes v1 sound are one limit = record {
      live = [];
      sound = sound;
      sizes_are = are;
      space =
          let space = root_space blank_node child_slots (child_blocks node_sizes reading) v trie.table.nodes.sound nodes_at in
          let first = trie.table.nodes.first_is in let within = trie.table.nodes_within in omega (arith, space, first, within, one, limit);
    }

    pub root_cells : (w1 : Store (Option T)) → Sound None [] w1 → tier_sizes w1.tiers ≡ cell_sizes → length w1.slots ≡ 0 → w1.limit ≡ v.limit →
        CanBuild None cell_sizes (slots_below value_slots v.slots levels n) w1
    root_cells w1 sound are none limit = record {
      live = [];
      sound = sound;
      sizes_are = are;
      space =
          let space = root_space None value_slots (value_blocks cell_sizes reading trie.table.values) w trie.table.cells.sound cells_at in
          let within = trie.table.cells_within in let same = trie.table.one_limit in omega (arith, space, within, same, none, limit);
    }
