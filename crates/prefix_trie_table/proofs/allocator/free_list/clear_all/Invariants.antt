-- The invariant of `clear_all`: the lists so far have no blocks, and the later ones are unchanged.
use Rattle.prefix_trie_table.proofs.Prelude.{◌≡◌, ◌++◌, map, take, drop, no_blocks}
use Rattle.prefix_trie_table.proofs.allocator.free_list.clear_all.Given as goal

abbrev pub invariant-loop-list : goal.invariant-loop-list
invariant-loop-list g l = l.list-items ≡ map (λ t. no_blocks t.size) (take l.list-index l.initial.list-items) ++ drop l.list-index l.initial.list-items
