-- Which blocks of addresses a longer network lies in. This project's own.
use Rattle.std.specs.Prelude.{◌≡◌, ◌↔◌, ℕ, ◌+◌, ◌-◌, ◌*◌, ◌%◌, ◌^◌, ◌<◌, ◌≤◌, ◌==◌, nat_le, nat_lt, Bool, true, ◌&&◌, List, length, filter, flat_map, slice_index}
use Rattle.std.proofs.Common.{suc}
use Rattle.std.specs.FinMap.{contains_key, empty, keys}
use Rattle.prefix_trie_bits.specs.Model.Bits.{begins}
use Rattle.prefix_trie_bits.specs.Model.Entries.{Entries}
use Rattle.prefix_trie_bits.specs.Model.Nodes.{Nodes, beginnings, has_node, with_nodes}
use Rattle.prefix_trie_forwarding.specs.Counts.{block_of}
use Rattle.prefix_trie_forwarding.specs.Walks.{HasGroup, IsAddress}

-- whether a string has the bits of a root and whole bytes more, as a block has
abbrev pub is_block : ℕ → List Bool → Bool
is_block root_bits p = nat_le root_bits (length p) && ((length p - root_bits) % 8 == 0)

-- the blocks that a key lies in and is longer than
abbrev pub blocks_above : ℕ → List Bool → List (List Bool)
blocks_above root_bits s = filter (λ p. is_block root_bits p && nat_lt (length p) (length s)) (beginnings s)

module _ {T : Type 0} where
  -- the blocks that a longer key lies in: each of them needs a group
  abbrev pub needed_groups : ℕ → Entries T → Nodes
  needed_groups root_bits m = with_nodes empty (flat_map (blocks_above root_bits) (keys m))

  -- an entry lies in a block, and its key is longer than what the addresses of the block have in common
  abbrev pub IsNeeded : Entries T → List Bool → Type 0
  IsNeeded m p = (s : List Bool) × (contains_key m s ≡ true) × (begins p s ≡ true) × (length p < length s)

  -- the blocks that have groups are those that the entries need
  abbrev pub HasNeededGroups : ℕ → ℕ → List ℕ → Entries T → Type 0
  HasNeededGroups root_bits levels slots m = (a k : ℕ) → IsAddress (2 ^ root_bits) levels a → suc k ≤ levels
      → HasGroup (2 ^ root_bits) levels (slice_index slots) a k ↔ IsNeeded m (block_of root_bits levels a k)

  -- a set of blocks is that of all blocks, of the bits of a root and of whole bytes more, that the entries need
  pub record AreNeeded (root_bits : ℕ) (m : Entries T) (blocks : Nodes) : Type 0 where
    pub needed : (p : List Bool) → has_node blocks p ≡ true → IsNeeded m p
    pub lengths : (p : List Bool) → has_node blocks p ≡ true → (n : ℕ) × (length p ≡ root_bits + 8 * n)
    pub all : (p : List Bool) (n : ℕ) → length p ≡ root_bits + 8 * n → IsNeeded m p → has_node blocks p ≡ true
