-- The layout has the counts of the array of nodes, and each node with children has one used block.
use Rattle.prefix_trie_table.proofs.Prelude.{◌+◌, ap, ap₂, sym, ◌∙◌, child_block_sizes, block_counts, slots_counted, used_blocks, Contents}
use Rattle.prefix_trie_table.proofs.Tree.Invariant.{some_table}
use Rattle.prefix_trie_table.proofs.Counts.BlockCounts.{node_counts, slots_are, free_within}
use Rattle.prefix_trie_table.proofs.Counts.BlockUsers.{parents_used}
use Rattle.prefix_trie_table.proofs.Blocks.ListBlocks.{child_blocks_housed}
use Rattle.prefix_trie_table.proofs.Tree.Shapes.{shape_nodes}
use Rattle.prefix_trie_table.proofs.table.Table.node_blocks.Goals as goal

pub returns : goal.returns
returns g c =
    let t = some_table c.self.invariant in
    let v = c.self.inside.nodes in
    let w = c.self.inside.cells in
    let s = c.self.inside.shape in
    let counts = c.counts.ensures.counts in
    record {
      counts = counts ∙ node_counts t.reading t.paths v t.holds.hold c.self.inside.sizes
          ∙ ap (λ (s : Contents g.row.T.Denot). block_counts child_block_sizes s.layout.child_blocks s.layout.free_child_blocks) c.self.view_is;
      slots = rw (← c.self.view_is) (c.counts.ensures.made ∙ ap₂ (λ a b. a + b) t.holds.hold.first_is (sym (slots_are v.tiers (free_within _ _ v t.holds.hold.sound)) ∙ ap slots_counted (sym counts)));
      used = rw (← c.self.view_is) (ap used_blocks counts ∙ sym (parents_used t.reading t.paths v t.holds.hold s.0.nodes (shape_nodes t.reading t.values t.paths v w t.holds s.0 s.1)));
      blocks = rw (← c.self.view_is) (child_blocks_housed t.reading t.values t.paths v w t.holds s.0 s.1 c.self.inside.sizes);
    }
