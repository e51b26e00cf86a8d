-- The invariant of the loop: the first items are inserted.
use Rattle.prefix_trie_c.proofs.Each.{Begins}
use Rattle.prefix_trie_c.proofs.calls.insert_each.Given as goal

abbrev pub invariant-loop-i : goal.invariant-loop-i
invariant-loop-i g l = Begins g.P.R.Key.bit_width g.P.Prefix.len_of g.P.Prefix.path g.E.Entry.item_of l.entries l.initial.routes l.i l.routes
