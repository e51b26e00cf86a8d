-- The invariant of `push_vacant`: the slots appended so far are vacant, and the capacity is unchanged.
use Rattle.prefix_trie_table.proofs.Prelude.{◌≡◌, ◌+◌, ◌++◌, replicate, length}
use Rattle.prefix_trie_table.proofs.allocator.slots.push_vacant.Given as goal

abbrev pub invariant-loop-i : goal.invariant-loop-i
invariant-loop-i g l =
    record {
      items : (g.R.SlotArray.list l.slots) ≡ (g.R.SlotArray.list l.initial.slots) ++ replicate l._i g.S.Slot.vacant;
      len : length (g.R.SlotArray.list l.slots) ≡ length (g.R.SlotArray.list l.initial.slots) + l._i;
      capacities : g.R.SlotArray.capacities l.slots ≡ g.R.SlotArray.capacities l.initial.slots;
    }
