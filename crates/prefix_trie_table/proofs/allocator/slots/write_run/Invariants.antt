-- The invariant of `write_run`: the first i items are written, and the other slots are unchanged.
use Rattle.prefix_trie_table.proofs.Prelude.{◌≡◌, length, take, put_run}
use Rattle.prefix_trie_table.proofs.allocator.slots.write_run.Given as goal

abbrev pub invariant-loop-i : goal.invariant-loop-i
invariant-loop-i g l =
    record {
      items : g.R.SlotArray.list l.slots ≡ put_run (g.R.SlotArray.list l.fn.slots) l.from (take l.i l.items);
      len : length (g.R.SlotArray.list l.slots) ≡ length (g.R.SlotArray.list l.fn.slots);
      capacities : g.R.SlotArray.capacities l.slots ≡ g.R.SlotArray.capacities l.fn.slots;
    }
