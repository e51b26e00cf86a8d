-- The table is a tree with its sizes, as `walk_of` requires.
use Rattle.prefix_trie_table.proofs.Tree.Invariant.{sized_trie}
use Rattle.prefix_trie_table.proofs.table.Table.walk.Goals as goal

pub walk_of-requires : goal.walk_of-requires
walk_of-requires g c = sized_trie _ _ _ _ c.self.inside.shape c.self.invariant _ c.self.view_is c.requires.within c.requires.nodes
