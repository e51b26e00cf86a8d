-- Preparing blocks of nodes meets the contract of `Blocks::prepare`, which the node allocator only passes on.
use Rattle.prefix_trie_table.proofs.allocator.nodes.NodeAllocator.prepare.Goals as goal

pub prepare-requires : goal.prepare-requires
prepare-requires g c = rw (← c.self.view_is) at c.requires

pub returns : goal.returns
returns g c = rw (← c.self.view_is) c.prepare.ensures
