-- The invariant of `move_run`: the items moved so far are exchanged, and later slots are unchanged.
use Rattle.prefix_trie_table.proofs.Prelude.{◌≡◌, length, swap_runs}
use Rattle.prefix_trie_table.proofs.allocator.slots.move_run.Given as goal

abbrev pub invariant-loop-i : goal.invariant-loop-i
invariant-loop-i g l = record { items : (g.R.SlotArray.list l.slots) ≡ swap_runs (g.R.SlotArray.list l.initial.slots) l.from l.to l.i; len : length (g.R.SlotArray.list l.slots) ≡ length (g.R.SlotArray.list l.initial.slots); capacities : g.R.SlotArray.capacities l.slots ≡ g.R.SlotArray.capacities l.initial.slots }
