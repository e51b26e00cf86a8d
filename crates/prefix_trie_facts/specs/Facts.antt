-- Worked facts that no reply contains: visits, holders and parents, block sizes, tilings, calls of
-- a test, a writing walk, a split.
-- They are this project's own, and belong to worked rows.
pub mod Blocks
pub mod Insertions
pub mod Steps
use Rattle.std.specs.Prelude.{◌≡◌, ℕ, ◌+◌, ◌%◌, ◌==◌, true, false, [], ◌∷◌, length, Some, None}
use Rattle.std.specs.FinMap.{len, values}
use Rattle.prefix_trie_bits.specs.Model.Selections.{listing, listing_after, prefix_pairs}
use Rattle.prefix_trie_bits.specs.Calls.Nodes.{holders, parents}
use Rattle.prefix_trie_bits.specs.Model.Visits.{visits, visits_to_match}
use Rattle.prefix_trie_bits.specs.Calls.Retaining.{RetainsEntries}
use Rattle.prefix_trie_bits.specs.Calls.WritingWalk.{WritingWalk, walk_over, Next, Passes}
use Rattle.prefix_trie_bits.specs.Calls.Blocks.{AreBlocksOf}
use Rattle.prefix_trie_bits.specs.Model.Blocks.{value_block_sizes, child_block_sizes, smallest_size, own_entries, child_count}
use Rattle.prefix_trie_bits.specs.Calls.SplitsOff.{SplitsOff, packed_block, packed_slots, packed_node_slots, packed_cell_slots}
use Rattle.prefix_trie_bits.specs.Model.Step.{State, Insert, Remove, RemoveKeepTree, Value}
use Rattle.prefix_trie_facts.specs.Facts.Blocks.{at_slot}
use Rattle.prefix_trie_facts.specs.Rows.Examples.{path_at, back_at, Row, LeadsTo, sets}

-- the smallest sizes that hold 3, 8, 9 and 25 items; 32 values fit no value block
pub record SmallestSizes : Type 0 where
  pub three : smallest_size value_block_sizes 3 ≡ Some 4
  pub eight : smallest_size value_block_sizes 8 ≡ Some 8
  pub nine : smallest_size value_block_sizes 9 ≡ Some 16
  pub twenty_five : smallest_size value_block_sizes 25 ≡ Some 31
  pub children_25 : smallest_size child_block_sizes 25 ≡ Some 32
  pub too_many : smallest_size value_block_sizes 32 ≡ None
  -- an empty list has no block, and one of nine children one of sixteen slots
  pub none : packed_block child_block_sizes 0 ≡ None
  pub packed_nine : packed_slots child_block_sizes 9 ≡ 16

-- row 34's five entries
abbrev five_calls : Row
five_calls = sets (((0, 5), 1) ∷ ((4, 6), 2) ∷ ((6, 8), 3) ∷ ((8, 5), 4) ∷ ((128, 1), 5) ∷ [])

-- row 9's six networks
abbrev six_calls : Row
six_calls =
    sets (((0xc0a80000, 21), 1) ∷ ((0xc0a80000, 22), 2) ∷ ((0xc0a80000, 23), 3) ∷ ((0xc0a80000, 24), 4) ∷ ((0xc0a80400, 22), 5) ∷
    ((0xc0a80400, 23), 6) ∷ [])

-- the facts of this file
pub record FactsHold : Type 0 where
  -- two of row 5's keys: seven nodes are read for 32 bits, six for 29, and the root alone for a string with another first bit
  pub visits32 : LeadsTo 32 (sets (((0x01020300, 32), 1) ∷ ((0x01020301, 32), 2) ∷ [])) (λ t.
      (visits t.nodes (path_at 32 (0x01020301, 32)) ≡ 7)
      × (visits_to_match t.entries t.nodes (path_at 32 (0x01020301, 32)) ≡ 7)
      × (visits t.nodes (path_at 32 (0x01020301, 29)) ≡ 6)
      × (visits t.nodes (path_at 32 (0x81020301, 32)) ≡ 1))
  -- row 6's map: twenty-six nodes are read for 128 bits
  pub visits128 : LeadsTo 128 (sets (((0, 125), 1) ∷ ((1, 128), 2) ∷ [])) (λ t.
      (visits t.nodes (path_at 128 (1, 128)) ≡ 26) × (visits_to_match t.entries t.nodes (path_at 128 (1, 128)) ≡ 26))
  -- four of row 25's networks and the lookup of 10.1.1.0/24: one that stops at the shortest match
  -- reads two nodes of five
  pub visits_to_first : LeadsTo 32 (sets (((0x0a000000, 8), 0) ∷ ((0x0a010000, 16), 1) ∷ ((0x0a010100, 24), 2) ∷ ((0x0a010100, 25), 4) ∷ [])) (λ t.
      (visits t.nodes (path_at 32 (0x0a010100, 24)) ≡ 5) × (visits_to_match t.entries t.nodes (path_at 32 (0x0a010100, 24)) ≡ 2))
  -- row 37's map with its two far keys: eleven parents, two holders, and two children of the root
  pub two_far_keys : LeadsTo 32 (
      (Insert (0, 32) 1, Value None) ∷
      (Remove (0, 32), Value (Some 1)) ∷
      (Insert (0xffffffff, 32) 2, Value None) ∷
      (Insert (0, 32) 3, Value None) ∷
      []) (λ t.
      (length (parents t.nodes) ≡ 11)
      × (length (holders t.entries t.nodes) ≡ 2)
      × (child_count t.nodes [] ≡ 2)
      × (child_count t.nodes (path_at 32 (0, 5)) ≡ 1))
  -- row 32's map after `remove_keep_tree`: the nodes that stay are parents, and none is a holder
  pub kept_tree : LeadsTo 32 ((Insert (0, 16) 1, Value None) ∷ (RemoveKeepTree (0, 16), Value (Some 1)) ∷ []) (λ t.
      (length (parents t.nodes) ≡ 3) × (holders t.entries t.nodes ≡ []) × (visits t.nodes (path_at 32 (0, 32)) ≡ 4))
  -- row 38's map as first filled: the root has two entries of its own, and its child one
  pub own : LeadsTo 8 (sets (((0, 1), 1) ∷ ((128, 1), 2) ∷ ((0, 5), 3) ∷ [])) (λ t.
      (own_entries t.entries [] ≡ 2)
      × (own_entries t.entries (path_at 8 (0, 5)) ≡ 1)
      × (length (holders t.entries t.nodes) ≡ 2)
      × (child_count t.nodes [] ≡ 1))
  pub smallest : SmallestSizes
  -- row 14's array of values: 86 slots, the block of 31 live and one of each other size free
  pub cells :
      AreBlocksOf value_block_sizes 0 (at_slot 55 31 ∷ [])
      (at_slot 0 1 ∷ at_slot 1 2 ∷ at_slot 3 4 ∷ at_slot 7 8 ∷ at_slot 15 16 ∷ at_slot 31 24 ∷ []) 86
  -- row 15's array of nodes: 88 slots with the root at slot 0, the block of 32 live and one of each other size free
  pub nodes :
      AreBlocksOf child_block_sizes 1 (at_slot 56 32 ∷ [])
      (at_slot 1 1 ∷ at_slot 2 2 ∷ at_slot 4 4 ∷ at_slot 8 8 ∷ at_slot 16 16 ∷ at_slot 32 24 ∷ []) 88
  -- an array of nodes without blocks has the root's slot alone
  pub empty_array : AreBlocksOf child_block_sizes 1 [] [] 1
  -- row 42: a test that is called in listing order, and returns true on its first, third and fifth
  -- call
  pub odd_askings :
      RetainsEntries (λ f _ (_ : ℕ) b f'. (b ≡ (f % 2 == 0)) × (f' ≡ f + 1)) 0
      ((false ∷ [], 1) ∷ (false ∷ false ∷ [], 2) ∷ (false ∷ false ∷ false ∷ [], 4) ∷ (false ∷ true ∷ [], 3) ∷ (false ∷ true ∷ false ∷ [], 5) ∷ [])
      ((false ∷ [], 1) ∷ (false ∷ false ∷ false ∷ [], 4) ∷ (false ∷ true ∷ false ∷ [], 5) ∷ [])
  -- such a test is not true twice in a row, since each call starts in the state that the call before it left
  pub not_from_one_state :
      ¬ (RetainsEntries (λ f _ (_ : ℕ) b f'. (b ≡ (f % 2 == 0)) × (f' ≡ f + 1)) 0
      ((false ∷ [], 1) ∷ (true ∷ [], 2) ∷ []) ((false ∷ [], 1) ∷ (true ∷ [], 2) ∷ []))
  -- row 34: a writing walk that starts after (5, 8) adds ten to each value that it lends, and no
  -- other value changes. It does not end while a key is to come.
  pub written : LeadsTo 8 five_calls (λ t.
      (first : WritingWalk ℕ) × (second : WritingWalk ℕ) × (third : WritingWalk ℕ) × (last : WritingWalk ℕ)
      × Passes (walk_over t.entries t.nodes (listing_after t.entries (path_at 8 (5, 8)))) (path_at 8 (6, 8)) 13 first
      × Passes first (path_at 8 (8, 5)) 14 second
      × Passes second (path_at 8 (128, 1)) 15 third
      × Next third None last
      × ((early : WritingWalk ℕ) → ¬ (Next second None early))
      × (values last.entries ≡ 1 ∷ 2 ∷ 13 ∷ 14 ∷ 15 ∷ []))
  -- row 47: splitting off 192.168.0.0/22 gives a second map of three entries, and both maps have
  -- five nodes
  pub split_off : LeadsTo 32 six_calls (λ t.
      (second : State ℕ) × (after : State ℕ) × SplitsOff t (path_at 32 (0xc0a80000, 22)) second after
      × (prefix_pairs (back_at 32) (listing second.entries) ≡ ((0xc0a80000, 22), 2) ∷ ((0xc0a80000, 23), 3) ∷ ((0xc0a80000, 24), 4) ∷ [])
      × (len second.nodes ≡ 5) × (own_entries second.entries (path_at 32 (0xc0a80000, 20)) ≡ 3)
      × (values after.entries ≡ 1 ∷ 5 ∷ 6 ∷ []) × (len after.nodes ≡ 5)
      × (packed_node_slots second.nodes ≡ 5) × (packed_cell_slots second.entries second.nodes ≡ 4))
