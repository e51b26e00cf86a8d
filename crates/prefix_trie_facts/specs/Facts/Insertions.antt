-- Worked facts on the blocks that an insertion needs and those that are missing, on the maps of rows, and on nodes
-- with values. They are this project's own.
use Rattle.std.specs.Prelude.{◌≡◌, ℕ, ◌++◌, true, false, Bool, List, [], ◌∷◌, map, take, Some, None}
use Rattle.std.specs.FinMap.{from_sorted}
use Rattle.prefix_trie_bits.specs.Model.Blocks.{Sizes, Layout, own_entries, child_count, no_layout}
use Rattle.prefix_trie_bits.specs.Model.Insertion.{gains_child, child_block_needed, value_block_needed, missing_node_slots, missing_cell_slots, PassesLimit, MissingFitsLimit}
use Rattle.prefix_trie_bits.specs.Calls.Nodes.{holders, parents}
use Rattle.prefix_trie_bits.specs.Model.Step.{State, Insert, Remove, Value}
use Rattle.prefix_trie_facts.specs.Facts.Blocks.{none_free, space_of}
use Rattle.prefix_trie_facts.specs.Rows.Examples.{path_at, Row, LeadsTo, counted, full_pairs, sets}
use Rattle.prefix_trie_facts.specs.Rows.Limits.{short_pairs}

-- blocks, each with the pair of its node
abbrev pub Blocks : Type 0
Blocks = List ((ℕ × ℕ) × ℕ)

abbrev pub by_path : ℕ → (ℕ × ℕ) × ℕ → List Bool × ℕ
by_path width b = (path_at width b.0, b.1)

-- their sizes by the strings of the nodes; the pairs are in listing order
abbrev pub sizes_at : ℕ → Blocks → Sizes
sizes_at width blocks = from_sorted (map (by_path width) blocks)

-- the layout with these used blocks of children and of values, and these numbers of free blocks
abbrev pub layout_at : ℕ → Blocks → Blocks → List ℕ → List ℕ → Layout
layout_at width children vals free_children free_values = record {
  child_blocks = sizes_at width children;
  value_blocks = sizes_at width vals;
  free_child_blocks = free_children;
  free_value_blocks = free_values;
}

-- the slots for nodes and for values that are missing for the insertion of a key, in a map with
-- this layout
abbrev pub lacking : ℕ → State ℕ → Layout → ℕ × ℕ → ℕ × ℕ
lacking width t layout q = (missing_node_slots t.nodes layout (path_at width q), missing_cell_slots t.entries layout (path_at width q))

-- a block of one slot for each of these nodes
abbrev pub with_one : ℕ × ℕ → (ℕ × ℕ) × ℕ
with_one p = (p, 1)

-- n free blocks of one slot
abbrev pub ones_free : ℕ → List ℕ
ones_free n = n ∷ 0 ∷ 0 ∷ 0 ∷ 0 ∷ 0 ∷ 0 ∷ []

-- the child blocks of row 37's map with the other key
abbrev pub far_children : Blocks
far_children =
    ((0, 0), 1) ∷ ((0xf8000000, 5), 1) ∷ ((0xffc00000, 10), 1) ∷ ((0xfffe0000, 15), 1) ∷ ((0xfffff000, 20), 1) ∷ ((0xffffff80, 25), 1) ∷ []

abbrev pub far_layout : Layout
far_layout = layout_at 32 far_children (((0xfffffffc, 30), 1) ∷ []) none_free none_free

-- row 17's calls before its last
abbrev seven_removed : Row
seven_removed = sets (counted short_pairs) ++
    (Remove (192, 2), Value (Some 24)) ∷
    (Remove (192, 3), Value (Some 25)) ∷
    (Remove (192, 4), Value (Some 26)) ∷
    (Remove (208, 4), Value (Some 27)) ∷
    (Remove (224, 3), Value (Some 28)) ∷
    (Remove (224, 4), Value (Some 29)) ∷
    (Remove (240, 4), Value (Some 30)) ∷
    []

-- row 38's layout as first filled
abbrev pub three_slots : Layout
three_slots = layout_at 8 (((0, 0), 1) ∷ []) (((0, 0), 2) ∷ ((0, 5), 1) ∷ []) none_free none_free

pub record InsertionsHold : Type 0 where
  -- rows 37 and 13: the first key needs six child blocks and a value block, which exceeds a limit of 4; a short key
  -- does not
  pub first_key : LeadsTo 32 [] (λ t.
      (lacking 32 t no_layout (0, 32) ≡ (6, 1))
      × (lacking 32 t no_layout (0, 4) ≡ (0, 1))
      × PassesLimit t.entries t.nodes (space_of 4 1 0) no_layout (path_at 32 (0, 32))
      × (¬ (PassesLimit t.entries t.nodes (space_of 4 1 0) no_layout (path_at 32 (0, 4)))))
  -- for a key of five bits, one block for the root's child and one for its value are missing.
  -- `Memory` is possible if one of them would fit the limit, and impossible if neither would.
  pub first_child : LeadsTo 8 [] (λ t.
      (lacking 8 t no_layout (0, 5) ≡ (1, 1))
      × MissingFitsLimit t.entries t.nodes (space_of 10 9 10) no_layout (path_at 8 (0, 5))
      × MissingFitsLimit t.entries t.nodes (space_of 10 10 9) no_layout (path_at 8 (0, 5))
      × (¬ (MissingFitsLimit t.entries t.nodes (space_of 10 10 10) no_layout (path_at 8 (0, 5)))))
  -- row 37: after its first key is removed all its blocks are free, and serve the other one
  pub freed : LeadsTo 32 ((Insert (0, 32) 1, Value None) ∷ (Remove (0, 32), Value (Some 1)) ∷ []) (λ t.
      lacking 32 t (layout_at 32 [] [] (ones_free 6) (ones_free 1)) (0xffffffff, 32) ≡ (0, 0))
  -- row 37: inserting the first key again needs a block of two at the root, and one for each of
  -- five new nodes; the last node gets no child. A node off the search path gets none, and no node
  -- is at the string of three bits.
  pub far_key : LeadsTo 32 ((Insert (0xffffffff, 32) 2, Value None) ∷ []) (λ t.
      (lacking 32 t far_layout (0, 32) ≡ (7, 1))
      × (map (λ p. gains_child t.nodes (path_at 32 (0, 32)) (path_at 32 p)) ((0, 0) ∷ (0, 5) ∷ (0, 25) ∷ (0, 30) ∷ (0xf8000000, 5) ∷ (0, 3) ∷ [])
      ≡ true ∷ true ∷ true ∷ false ∷ false ∷ false ∷ [])
      × (map (λ p. child_block_needed t.nodes far_layout.child_blocks (path_at 32 (0, 32)) (path_at 32 p)) ((0, 0) ∷ (0, 5) ∷ (0, 30) ∷ [])
      ≡ Some 2 ∷ Some 1 ∷ None ∷ [])
      × (map (λ p. value_block_needed t.entries far_layout.value_blocks (path_at 32 (0, 32)) (path_at 32 p)) ((0, 30) ∷ (0, 0) ∷ (0, 25) ∷ [])
      ≡ Some 1 ∷ None ∷ None ∷ [])
      -- its neighbour has a node already: no node gets a child, and that node needs a block of two slots
      × (gains_child t.nodes (path_at 32 (0xfffffffe, 32)) (path_at 32 (0xffffff80, 25)) ≡ false)
      × (lacking 32 t far_layout (0xfffffffe, 32) ≡ (0, 2)))
  -- row 14: with 24 entries the root's block of 24 is full and one of 31 is missing; with 23
  -- entries none is missing
  pub full : LeadsTo 8 (sets (counted (take 24 short_pairs))) (λ t.
      lacking 8 t (layout_at 8 [] (((0, 0), 24) ∷ []) none_free (1 ∷ 1 ∷ 1 ∷ 1 ∷ 1 ∷ 0 ∷ 0 ∷ [])) (192, 2) ≡ (0, 31))
  pub with_space : LeadsTo 8 (sets (counted (take 23 short_pairs))) (λ t.
      lacking 8 t (layout_at 8 [] (((0, 0), 24) ∷ []) none_free (1 ∷ 1 ∷ 1 ∷ 1 ∷ 1 ∷ 0 ∷ 0 ∷ [])) (176, 4) ≡ (0, 0))
  -- row 17: the block of 24 is full again, and the free block of 31 is taken
  pub free_serves : LeadsTo 8 seven_removed (λ t.
      (own_entries t.entries [] ≡ 24)
      × (lacking 8 t (layout_at 8 [] (((0, 0), 24) ∷ []) none_free (1 ∷ 1 ∷ 1 ∷ 1 ∷ 1 ∷ 0 ∷ 1 ∷ [])) (240, 4) ≡ (0, 0)))
  -- row 15 with nodes of one key each: the root has 24 children in a block of 24, and for the next
  -- one a block of 32 is missing
  pub children : LeadsTo 5 (sets (counted (take 24 (full_pairs 5)))) (λ t.
      (child_count t.nodes [] ≡ 24)
      × (lacking 5 t (layout_at 5 (((0, 0), 24) ∷ []) (map with_one (take 24 (full_pairs 5))) (1 ∷ 1 ∷ 1 ∷ 1 ∷ 1 ∷ 0 ∷ 0 ∷ []) none_free) (24, 5) ≡ (32, 1)))
  -- row 38: the root's two entries fill its block of two; for the third a block of four is missing,
  -- which exceeds a limit of 3 and fits one of 7
  pub three : LeadsTo 8 (sets (((0, 1), 1) ∷ ((128, 1), 2) ∷ ((0, 5), 3) ∷ [])) (λ t.
      (lacking 8 t three_slots (64, 2) ≡ (0, 4))
      × PassesLimit t.entries t.nodes (space_of 3 2 3) three_slots (path_at 8 (64, 2))
      × (¬ (MissingFitsLimit t.entries t.nodes (space_of 3 2 3) three_slots (path_at 8 (64, 2))))
      × (¬ (PassesLimit t.entries t.nodes (space_of 7 2 3) three_slots (path_at 8 (64, 2)))))
  -- a key that is just five bits longer than a node is not its own
  pub five_bits : LeadsTo 8 (sets (((0, 5), 1) ∷ [])) (λ t.
      (holders t.entries t.nodes ≡ path_at 8 (0, 5) ∷ [])
      × (own_entries t.entries [] ≡ 0)
      × (own_entries t.entries (path_at 8 (0, 5)) ≡ 1)
      × (parents t.nodes ≡ [] ∷ []))
