-- The search path of a bit string down the nodes. This project's own.
use Rattle.std.specs.Prelude.{◌≡◌, ℕ, ◌+◌, ◌*◌, ◌≤◌, Bool, false, List, Option, length, slice_index_or}
use Rattle.prefix_trie_table.specs.declared.allocator.node.Node.{Node}
use Rattle.prefix_trie_table.specs.declared.table.lookup.Reached.{Reached}
use Rattle.prefix_trie_bits.specs.Bitmaps.{has_bit}
use Rattle.prefix_trie_table.specs.Blocks.Cells.{node_at, node_sizes}
use Rattle.prefix_trie_table.specs.Digits.{chunks_of}
use Rattle.prefix_trie_table.specs.Blocks.Store.{Store}
use Rattle.prefix_trie_table.specs.Forest.{NodesHold, Deepest, IsEnd}

-- the slot of a node that was reached
abbrev pub slot_at : Reached → ℕ
slot_at here = here.at

-- this node is on the search path of a bit string
pub record IsAlong (q : List Bool) (here : Reached) (v : Store Node) : Type 0 where
  pub whole : 5 * here.level ≤ length q
  pub node_is : here.node ≡ node_at v.slots (slot_at here)
  pub deepest : (reading : List ℕ → Option Node) (paths : List (List ℕ)) → NodesHold node_sizes reading paths v → Deepest reading (chunks_of q) here.level (slot_at here) v

-- this node is the last one on the search path
pub record IsLast (q : List Bool) (here : Reached) (v : Store Node) : Type 0 where
  pub along : IsAlong q here v
  pub missing : 5 * here.level + 5 ≤ length q → has_bit here.node.child_bitmap (slice_index_or (chunks_of q) here.level 0) ≡ false

-- this node is the bit string's own
pub record IsOwn (q : List Bool) (here : Reached) (v : Store Node) : Type 0 where
  pub along : IsAlong q here v
  pub last : here.level ≡ length (chunks_of q)
  pub short : length q ≤ 128

-- each node on the search path of a bit string was visited once
abbrev pub ReadsAlong : List Bool → Store Node → ℕ → ℕ → Type 0
ReadsAlong q v before after =
    (reading : List ℕ → Option Node) (paths : List (List ℕ)) → NodesHold node_sizes reading paths v → (level : ℕ) × IsEnd reading (chunks_of q) level × (after ≡ before + (level + 1))
