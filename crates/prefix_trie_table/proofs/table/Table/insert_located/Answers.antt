-- Inserting at the end of the search of a missing bit string is a step of the model, or a refusal that keeps the entries.
use Rattle.prefix_trie_table.proofs.Prelude.{ap, Contents}
use Rattle.prefix_trie_table.proofs.Tree.Invariant.{some_table, some_counted}
use Rattle.prefix_trie_table.proofs.Tree.KeptTables.{ends_at, end_last}
use Rattle.prefix_trie_table.proofs.Insertion.Placements.{inserting, placed_leaves, placed_counts, placed_step}
use Rattle.prefix_trie_table.proofs.Tree.Shapes.{left_shape, table_left}
use Rattle.prefix_trie_table.proofs.Blocks.NodeLayouts.{table_sizes}
use Rattle.prefix_trie_table.proofs.table.Table.insert_located.Goals as goal

pub insert_entry-requires-clause-table : goal.insert_entry-requires-clause-table
insert_entry-requires-clause-table g c = some_counted c.self.invariant

pub insert_entry-requires-clause-ends : goal.insert_entry-requires-clause-ends
insert_entry-requires-clause-ends g c =
    let i = c.self.inside in
    ends_at i.nodes i.cells i.count i.shape c.self.invariant c.args.path c.args.end.reached _ (ap (λ (s : Contents g.row.T.Denot). s.build) c.self.view_is)
    (rw (← c.self.view_is) at c.requires.absent) c.requires.end.0

pub invariant_of-self-inside : goal.invariant_of-self-inside
invariant_of-self-inside g c =
    let i = c.self.inside in
    let p = c.insert_entry in
    let q = c.args.path in
    let leaves = placed_leaves q c.args.value i.nodes p.new.nodes i.cells p.new.cells i.count p.new.entries i.shape c.self.invariant (rw (← c.self.view_is) at c.requires.absent) p.result p.ensures.placed in
    let counts = placed_counts q c.args.value i.nodes p.new.nodes i.cells p.new.cells i.count p.new.entries i.shape c.self.invariant p.result p.ensures.counted in
    let shape = left_shape q c.args.value i.nodes p.new.nodes i.cells p.new.cells i.count p.new.entries i.shape c.self.invariant (inserting p.result) leaves in
    (shape, (table_sizes _ _ (some_table (table_left q c.args.value i.nodes p.new.nodes i.cells p.new.cells i.count p.new.entries i.shape c.self.invariant (inserting p.result) leaves counts p.ensures.grows.nodes p.ensures.grows.cells shape)), tt))

pub invariant_of-self : goal.invariant_of-self
invariant_of-self g c =
    let i = c.self.inside in
    let p = c.insert_entry in
    let q = c.args.path in
    table_left q c.args.value i.nodes p.new.nodes i.cells p.new.cells i.count p.new.entries i.shape c.self.invariant (inserting p.result)
    (placed_leaves q c.args.value i.nodes p.new.nodes i.cells p.new.cells i.count p.new.entries i.shape c.self.invariant (rw (← c.self.view_is) at c.requires.absent) p.result p.ensures.placed)
    (placed_counts q c.args.value i.nodes p.new.nodes i.cells p.new.cells i.count p.new.entries i.shape c.self.invariant p.result p.ensures.counted) p.ensures.grows.nodes p.ensures.grows.cells c.self-1.given.0

pub returns-clause-step : goal.returns-clause-step
returns-clause-step g c =
    let i = c.self.inside in
    let p = c.insert_entry in
    let at = end_last i.nodes i.cells i.count i.shape c.self.invariant c.args.path c.args.end.reached _ (ap (λ (s : Contents g.row.T.Denot). s.build) c.self.view_is) c.requires.end.0 in
    let absent = rw (← c.self.view_is) at c.requires.absent in
    rw (← c.self.view_is) (placed_step c.args.path c.args.value i.nodes p.new.nodes i.cells p.new.cells i.count p.new.entries i.shape c.self.invariant c.self-1.given.0
    (invariant_of-self g c) i.sizes c.self-1.given.1.0 c.args.end.reached at absent p.result
    (placed_leaves _ c.args.value i.nodes p.new.nodes i.cells p.new.cells i.count p.new.entries i.shape c.self.invariant absent p.result p.ensures.placed)
    p.ensures.obtains p.ensures.grows)
