-- The invariant of a table's fields, and what bounds the growth of its arrays. This project's own.
use Rattle.std.specs.Prelude.{◌≡◌, ℕ, ◌+◌, ◌*◌, ◌<◌, ◌≤◌, ◌⊎◌, Bool, false, List, Option, length, take, slice_index_or, Result, IfErr}
use Rattle.std.specs.FinMap.{len}
use Rattle.prefix_trie_bits.specs.Calls.Entries.{AreWithin}
use Rattle.prefix_trie_bits.specs.Calls.Nodes.{AreNodes}
use Rattle.prefix_trie_bits.specs.Model.Step.{State}
use Rattle.prefix_trie_table.specs.declared.allocator.node.Node.{Node}
use Rattle.prefix_trie_bits.specs.Bitmaps.{has_bit}
use Rattle.prefix_trie_table.specs.Blocks.Cells.{node_at, node_sizes, cell_sizes}
use Rattle.prefix_trie_table.specs.Digits.{chunks_of, bit_of}
use Rattle.prefix_trie_table.specs.Blocks.Store.{Store, KeepsMade}
use Rattle.prefix_trie_table.specs.Forest.{NodesHold, CellsHold, Holds, Deepest, entry_count}
use Rattle.prefix_trie_table.specs.Shape.{IsShapeOf}

-- THE INVARIANT of every table: nodes and values are in blocks, and each used block has exactly one owner
-- Each free list has capacity for all blocks of its size, so freeing a block never allocates: this is the invariant of
-- `FreeList`.
pub record IsTable {T : Type 0} (v : Store Node) (w : Store (Option T)) (count : ℕ) (shape : State T) : Type 0 where
  -- the nodes by path, the values by path and bit, and the paths of the nodes
  pub reading : List ℕ → Option Node
  pub values : List ℕ → ℕ → Option T
  pub paths : List (List ℕ)
  -- each parent has one used block of nodes, with exactly its children in order; the used and the
  -- free blocks tile the array after the root's slot, and every other slot is vacant
  pub nodes : NodesHold node_sizes reading paths v
  -- the same for values: each node with values has one used block, with exactly its values in order
  pub cells : CellsHold cell_sizes reading values paths w
  -- no slot comes before the blocks of values
  pub cells_first : w.first ≡ 0
  -- both arrays have the same limit, which neither exceeds
  pub one_limit : w.limit ≡ v.limit
  pub nodes_within : length v.slots ≤ v.limit
  pub cells_within : length w.slots ≤ w.limit
  -- the count is the number of values, and the number of entries that contracts see
  pub counted : count ≡ entry_count reading paths
  pub sized : count ≡ len shape.entries

-- the arrays of a table that have exactly these entries and nodes, with no string longer than the width
pub record IsTrie {T : Type 0} (width count : ℕ) (v : Store Node) (w : Store (Option T)) (shape : State T) : Type 0 where
  pub table : IsTable v w count shape
  pub shaped : IsShapeOf v.slots w.slots shape
  pub within : AreWithin width shape.entries
  pub nodes : AreNodes width shape.entries shape.nodes

-- this node, in this slot, is the last one on the search path of the first len bits of b
pub record IsReached (b : List Bool) (len level : ℕ) (node : Node) (slot : ℕ) (v : Store Node) : Type 0 where
  pub long : len ≤ length b
  pub whole : 5 * level ≤ len
  pub node_is : node ≡ node_at v.slots slot
  pub deepest : (reading : List ℕ → Option Node) (paths : List (List ℕ)) → NodesHold node_sizes reading paths v →
      Deepest reading (chunks_of (take len b)) level slot v
  pub missing : 5 * level + 5 ≤ len → has_bit node.child_bitmap (slice_index_or (chunks_of (take len b)) level 0) ≡ false

-- an array grows by at most `most` slots, and no block is lost
-- The start of its first block and its limit are unchanged, and the limit holds if it held.
pub record Grows {S : Type 0} (v w : Store S) (most : ℕ) : Type 0 where
  pub first_is : w.first ≡ v.first
  pub limit_is : w.limit ≡ v.limit
  pub longer : length v.slots ≤ length w.slots
  pub at_most : length w.slots ≤ length v.slots + most
  pub within : length v.slots ≤ v.limit → length w.slots ≤ w.limit
  pub made : KeepsMade v w

-- the blocks of one insertion may exceed the limit: a block of 32 nodes and 24 of one node, or a block of 31 cells
abbrev pub MayPass : {T : Type 0} → Store Node → Store (Option T) → Type 0
MayPass v w = (v.limit < length v.slots + 56) ⊎ (w.limit < length w.slots + 31)

-- both arrays grow by at most those blocks, and a call is refused for the limit only if they may exceed it
pub record GrowsBoth {T X E : Type 0} (for_limit : E → Type 0) (r : Result X E) (v v2 : Store Node) (w w2 : Store (Option T)) : Type 0 where
  pub nodes : Grows v v2 56
  pub cells : Grows w w2 31
  pub range : IfErr r (λ e. for_limit e → MayPass v w)

module _ {T : Type 0} where
  -- P holds for the nodes, their paths and the values that these arrays have
  abbrev pub ForHeld : Store Node → Store (Option T) → ((List ℕ → Option Node) → List (List ℕ) → (List ℕ → ℕ → Option T) → Type 0) → Type 0
  ForHeld v w P =
      (reading : List ℕ → Option Node) (paths : List (List ℕ)) (values : List ℕ → ℕ → Option T) → Holds reading values paths v w → P reading paths values

  -- the value at the first len bits of b
  abbrev pub own_value : (List ℕ → ℕ → Option T) → List Bool → ℕ → Option T
  own_value values b len = values (chunks_of (take len b)) (bit_of (take len b))
