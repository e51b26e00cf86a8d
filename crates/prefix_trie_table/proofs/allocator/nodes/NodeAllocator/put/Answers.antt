-- Writing a node keeps the store sound, as `Blocks::put` promises.
use Rattle.prefix_trie_table.proofs.allocator.nodes.NodeAllocator.put.Goals as goal

pub returns-clause-sound : goal.returns-clause-sound
returns-clause-sound g c = rw (← c.self.view_is) c.put.ensures.sound
