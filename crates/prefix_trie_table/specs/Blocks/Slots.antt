-- The slots of values, and an array of blocks with another value in a slot. This project's own.
use Rattle.std.specs.Prelude.{◌≡◌, ℕ, ◌+◌, ◌<◌, true, List, Option, None, Some, IsSome, length, slice_index_or, slice_set}
use Rattle.prefix_trie_table.specs.declared.allocator.node.Node.{Node}
use Rattle.prefix_trie_table.specs.declared.table.seat.Seat.{Seat}
use Rattle.prefix_trie_bits.specs.Bitmaps.{has_bit, rank}
use Rattle.prefix_trie_table.specs.Blocks.Store.{Store}

-- the array with x in slot i
abbrev pub with_slot : {S : Type 0} → Store S → ℕ → S → Store S
with_slot v i x = record v { slots = slice_set v.slots i x }

-- the array with the value x at a seat, if there is one
abbrev pub with_cell : {T : Type 0} → Store (Option T) → Option Seat → T → Store (Option T)
with_cell w None x = w
with_cell w (Some seat) x = with_slot w seat.slot (Some x)

-- there is a value at this seat
pub record HasValue {T : Type 0} (w : Store (Option T)) (seat : Seat) : Type 0 where
  pub is_there : seat.slot < length w.slots
  pub stored : IsSome (slice_index_or w.slots seat.slot None)

-- the value at bit b of the node with a path is at this seat
pub record IsSeat (reading : List ℕ → Option Node) (path : List ℕ) (b : ℕ) (seat : Seat) : Type 0 where
  pub node : Node
  pub is : reading path ≡ Some node
  pub set : has_bit node.value_bitmap b ≡ true
  pub slot_is : seat.slot ≡ node.value_block + rank node.value_bitmap b
