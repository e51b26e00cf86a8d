-- An array of blocks after a `&mut` to one of its values was returned and ended. This project's
-- own.
use Rattle.std.specs.Prelude.{ℕ, [], ◌∷◌, Option, Some, None, vec_capacity, ⊤}
use Rattle.std.specs.Borrow.{Lends, LendsIf, Fml, RattleType, MutBor}
use Rattle.std.specs.contracts.option.Option as option
use Rattle.std.specs.contracts.vec.Vec as vec
use Rattle.std.specs.declared.alloc.Allocator as alloc
use Rattle.prefix_trie_table.specs.declared.allocator.slots.Slot as slot
use Rattle.prefix_trie_table.specs.contracts.allocator.blocks.Blocks as blocks
use Rattle.prefix_trie_table.specs.Blocks.Store.{Store}
use Rattle.prefix_trie_table.specs.declared.table.seat.Seat.{Seat}
use Rattle.prefix_trie_table.specs.Blocks.Slots.{with_slot, with_cell}

-- the array of an array of blocks, as its type in the logic
abbrev pub array_of_row : (S A : RattleType) → slot.Ghosts S.Denot → alloc.Ghosts A.Denot → RattleType
array_of_row S A g a = blocks.the_row S (vec.the_row S A a) A g (record { list = λ v. v.items; capacities = λ v. vec_capacity v ∷ []; can_hold = λ _. ⊤ }) a

-- once the borrow r ends, the slot has the last value written through r
abbrev pub lends_slot : (S A : RattleType) → slot.Ghosts S.Denot → alloc.Ghosts A.Denot → MutBor (Store S.Denot) → ℕ → MutBor S.Denot → Fml
lends_slot S A g a v i r = Lends (array_of_row S A g a) S v r (with_slot v.now i)

-- once the borrow r ends, the cell has the last value written through r
abbrev pub lends_held : (T : RattleType) → MutBor (Option T.Denot) → MutBor T.Denot → Fml
lends_held T cell r = Lends (option.the_row T) T cell r Some

module _ (T A : RattleType) (a : alloc.Ghosts A.Denot) (w : MutBor (Store (Option T.Denot))) where
  -- once the borrow r ends, the value at the seat is the last one written through r
  abbrev pub lends_cell : Seat → MutBor T.Denot → Fml
  lends_cell seat r = Lends (array_of_row (option.the_row T) A (record { vacant = None }) a) T w r (with_cell w.now (Some seat))

  -- the same if there may be no seat and no reference; the array is unchanged then
  abbrev pub lends_cell_if : Option Seat → Option (MutBor T.Denot) → Fml
  lends_cell_if seat r = LendsIf (array_of_row (option.the_row T) A (record { vacant = None }) a) T w r (with_cell w.now seat) w.now
