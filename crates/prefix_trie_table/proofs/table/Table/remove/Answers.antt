-- Removing a value and then the empty nodes of its path is the model's step `Remove`, and the table keeps its invariant.
use Rattle.prefix_trie_table.proofs.Tree.Invariant.{some_table, some_counted}
use Rattle.prefix_trie_table.proofs.Removal.NodesLeft.{removed_without}
use Rattle.prefix_trie_table.proofs.Blocks.NodeLayouts.{table_sizes}
use Rattle.prefix_trie_table.proofs.Tree.ModelSteps.{removes_step}
use Rattle.prefix_trie_table.proofs.Removal.ModelSizes.{removed_in, pruned_in}
use Rattle.prefix_trie_table.proofs.table.Table.remove.Goals as goal

pub remove_entry-requires : goal.remove_entry-requires
remove_entry-requires g c = record { table = some_counted c.self.invariant }

pub invariant_of-self-inside : goal.invariant_of-self-inside
invariant_of-self-inside g c =
    let e = c.remove_entry.ensures in
    let left = removed_without _ _ _ _ _ _ _ c.self.inside.shape c.self.invariant c.remove_entry.result e.value e.counted e.removed in
    ((_, left.shape), (table_sizes _ _ left.some, tt))

pub invariant_of-self : goal.invariant_of-self
invariant_of-self g c =
    let e = c.remove_entry.ensures in
    (removed_without _ _ _ _ _ _ _ c.self.inside.shape c.self.invariant c.remove_entry.result e.value e.counted e.removed).table e.node_space e.cell_space c.self-1.given.0

pub returns : goal.returns
returns g c =
    let q = c.args.path in
    let v2 = c.remove_entry.new.nodes in
    let w2 = c.remove_entry.new.cells in
    let i = c.self.inside in
    let s2 = c.self-1.given.0 in
    let z2 = c.self-1.given.1.0 in
    let e = c.remove_entry.ensures in
    let left = invariant_of-self g c in
    let out = removed_without q i.nodes v2 i.cells w2 _ _ i.shape c.self.invariant c.remove_entry.result e.value e.counted e.removed in
    rw (← c.self.view_is) (record {
      step = removes_step i.nodes v2 i.cells w2 _ _ i.shape c.self.invariant i.sizes s2 left z2 q c.remove_entry.result out.was (out.only s2)
          (removed_in q i.nodes v2 i.cells w2 _ i.shape i.sizes c.self.invariant s2 z2 e.removed (some_table left))
          (pruned_in q i.nodes v2 i.cells w2 _ i.shape i.sizes c.self.invariant s2 z2 e.removed (some_table left)) e.node_space e.cell_space;
    })
