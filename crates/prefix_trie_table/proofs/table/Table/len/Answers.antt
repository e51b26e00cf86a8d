-- The limit and the blocks of the nodes are part of the table's invariant; the count is stored.
use Rattle.prefix_trie_table.proofs.Prelude.{◌≤◌, ◌<◌, ◌^◌, subst, len, arith, HaveBlocks, Contents, state}
use Rattle.prefix_trie_table.proofs.Counts.EntryCounts.{entries_bound}
use Rattle.prefix_trie_table.proofs.Tree.Invariant.{some_table}
use Rattle.prefix_trie_table.proofs.Blocks.ListBlocks.{child_blocks_housed, value_blocks_housed}
use Rattle.prefix_trie_table.proofs.table.Table.len.Goals as goal

pub returns-clause-limit : goal.returns-clause-limit
returns-clause-limit g c =
    let held = c.self.invariant in
    subst (λ (m : Contents g.row.T.Denot). (m.space.limit < 2 ^ 32) × (m.space.node_slots ≤ m.space.limit) × (m.space.cell_slots ≤ m.space.limit)) c.self.view_is
    (c.len-slots.ensures.narrow, held.nodes_within, omega (arith, held.cells_within, held.one_limit))

pub returns-clause-few : goal.returns-clause-few
returns-clause-few g c =
    let held = c.self.invariant in
    let bound = entries_bound held.reading held.values held.paths c.self.inside.cells held.cells in
    let number = held.counted in
    let same = held.sized in
    subst (λ (m : Contents g.row.T.Denot). len m.entries ≤ m.space.cell_slots) c.self.view_is (omega (arith, bound, number, same))

pub returns-clause-blocks : goal.returns-clause-blocks
returns-clause-blocks g c =
    let t = some_table c.self.invariant in
    let shape = c.self.inside.shape in
    subst (λ (m : Contents g.row.T.Denot). HaveBlocks (state m) m.layout) c.self.view_is (record {
      child_blocks = child_blocks_housed t.reading t.values t.paths c.self.inside.nodes c.self.inside.cells t.holds shape.0 shape.1 c.self.inside.sizes;
      value_blocks = value_blocks_housed t.reading t.values t.paths c.self.inside.nodes c.self.inside.cells t.holds shape.0 shape.1 c.self.inside.sizes;
    })
