-- The invariant of `empty_lists`: there is one empty free list for each size so far.
use Rattle.prefix_trie_table.proofs.Prelude.{◌≡◌, map, take, no_blocks}
use Rattle.prefix_trie_table.proofs.allocator.blocks.empty_lists.Given as goal

abbrev pub invariant-loop-size : goal.invariant-loop-size
invariant-loop-size g l = l.lists.items ≡ map no_blocks (take l.size-index l.sizes)
