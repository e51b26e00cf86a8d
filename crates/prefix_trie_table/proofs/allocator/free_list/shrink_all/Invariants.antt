-- The invariant of `shrink_all`: the blocks of all sizes are unchanged.
use Rattle.prefix_trie_table.proofs.Prelude.{◌≡◌}
use Rattle.prefix_trie_table.proofs.allocator.free_list.shrink_all.Given as goal

abbrev pub invariant-loop-k : goal.invariant-loop-k
invariant-loop-k g l = l.lists.items ≡ l.fn.lists.items
