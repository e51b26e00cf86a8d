-- The layout has the counts of the array of values, and each node with values has one used block.
use Rattle.prefix_trie_table.proofs.Prelude.{◌≡◌, ◌+◌, arith, ap, ap₂, sym, ◌∙◌, value_block_sizes, block_counts, slots_counted, used_blocks, Contents}
use Rattle.prefix_trie_table.proofs.Tree.Invariant.{some_table}
use Rattle.prefix_trie_table.proofs.Counts.BlockCounts.{seven_cells, cell_counts, slots_are, free_within}
use Rattle.prefix_trie_table.proofs.Counts.BlockUsers.{holders_used}
use Rattle.prefix_trie_table.proofs.Blocks.ListBlocks.{value_blocks_housed}
use Rattle.prefix_trie_table.proofs.Tree.Shapes.{shape_nodes, shape_entries}
use Rattle.prefix_trie_table.proofs.table.Table.cell_blocks.Goals as goal

pub counts-requires : goal.counts-requires
counts-requires g c =
    let t = some_table c.self.invariant in
    seven_cells t.reading t.paths c.self.inside.nodes t.holds.hold t.values c.self.inside.cells t.holds.cells

pub returns : goal.returns
returns g c =
    let t = some_table c.self.invariant in
    let v = c.self.inside.nodes in
    let w = c.self.inside.cells in
    let s = c.self.inside.shape in
    let counts = c.counts.ensures.counts in
    record {
      counts = counts ∙ cell_counts t.reading t.paths v t.holds.hold t.values w t.holds.cells c.self.inside.sizes
          ∙ ap (λ (s : Contents g.row.T.Denot). block_counts value_block_sizes s.layout.value_blocks s.layout.free_value_blocks) c.self.view_is;
      slots = rw (← c.self.view_is) (c.counts.ensures.made
          ∙ ap₂ (λ a b. a + b) c.self.invariant.cells_first (sym (slots_are w.tiers (free_within _ _ w t.holds.cells.sound)) ∙ ap slots_counted (sym counts))
          ∙ (let e : 0 + slots_counted c.counts.result ≡ slots_counted c.counts.result = omega arith in e));
      used = rw (← c.self.view_is) (ap used_blocks counts
          ∙ sym (holders_used t.reading t.paths v t.holds.hold s.0.nodes (shape_nodes t.reading t.values t.paths v w t.holds s.0 s.1) t.values w t.holds.cells s.0.entries
          (shape_entries t.reading t.values t.paths v w t.holds s.0 s.1)));
      blocks = rw (← c.self.view_is) (value_blocks_housed t.reading t.values t.paths v w t.holds s.0 s.1 c.self.inside.sizes);
    }
