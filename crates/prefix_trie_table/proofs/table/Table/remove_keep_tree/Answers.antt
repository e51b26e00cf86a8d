-- Removing a value and no node is the model's step `RemoveKeepTree`, and the table keeps its invariant.
use Rattle.prefix_trie_table.proofs.Tree.Invariant.{some_table, some_counted}
use Rattle.prefix_trie_table.proofs.Removal.OneEntry.{kept_without}
use Rattle.prefix_trie_table.proofs.Insertion.Spaces.{Grows-none}
use Rattle.prefix_trie_table.proofs.Blocks.NodeLayouts.{table_sizes}
use Rattle.prefix_trie_table.proofs.Tree.ModelSteps.{takes_step}
use Rattle.prefix_trie_table.proofs.Removal.ModelSizes.{kept_in, kept_children}
use Rattle.prefix_trie_table.proofs.table.Table.remove_keep_tree.Goals as goal

pub remove_value-requires : goal.remove_value-requires
remove_value-requires g c = record { table = some_counted c.self.invariant }

pub invariant_of-self-inside : goal.invariant_of-self-inside
invariant_of-self-inside g c =
    let e = c.remove_value.ensures in
    let left = kept_without _ _ _ _ _ _ _ c.self.inside.shape c.self.invariant c.remove_value.result e.value e.counted e.taken in
    ((_, left.shape), (table_sizes _ _ left.some, tt))

pub invariant_of-self : goal.invariant_of-self
invariant_of-self g c =
    let e = c.remove_value.ensures in
    (kept_without _ _ _ _ _ _ _ c.self.inside.shape c.self.invariant c.remove_value.result e.value e.counted e.taken).table
    (Grows-none _ _ 24 e.node_blocks.space e.node_blocks.tiers) e.cell_space c.self-1.given.0

pub returns : goal.returns
returns g c =
    let q = c.args.path in
    let v2 = c.remove_value.new.nodes in
    let w2 = c.remove_value.new.cells in
    let i = c.self.inside in
    let s2 = c.self-1.given.0 in
    let z2 = c.self-1.given.1.0 in
    let e = c.remove_value.ensures in
    let same = e.node_blocks in
    let left = invariant_of-self g c in
    let out = kept_without q i.nodes v2 i.cells w2 _ _ i.shape c.self.invariant c.remove_value.result e.value e.counted e.taken in
    rw (← c.self.view_is) (record {
      step = takes_step i.nodes v2 i.cells w2 _ _ i.shape c.self.invariant i.sizes s2 left z2 q c.remove_value.result out.was (out.only s2)
          (kept_in q i.nodes v2 i.cells w2 _ i.shape i.sizes c.self.invariant s2 z2 e.taken same.space.0 same.tiers (some_table left))
          (kept_children q i.nodes v2 i.cells w2 _ i.shape i.sizes c.self.invariant s2 z2 e.taken same.space.0 same.tiers) same.tiers
          (Grows-none i.nodes v2 24 same.space same.tiers) same.space.0 e.cell_space;
    })
