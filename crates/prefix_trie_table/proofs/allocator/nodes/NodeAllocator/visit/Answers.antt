-- Reading a node ticks the counter once.
use Rattle.prefix_trie_table.proofs.Prelude.{rules}
use Rattle.prefix_trie_table.proofs.allocator.nodes.NodeAllocator.visit.Goals as goal

pub returns-clause-one_more : goal.returns-clause-one_more
returns-clause-one_more g c = search rules
