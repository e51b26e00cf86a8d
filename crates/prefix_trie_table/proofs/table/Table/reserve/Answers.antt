-- Making blocks changes neither entries nor nodes, so the end of the search stays right and the table keeps its invariant.
use Rattle.prefix_trie_table.proofs.Prelude.{rules, ap, State, Contents}
use Rattle.prefix_trie_table.proofs.Tree.Invariant.{some_table}
use Rattle.prefix_trie_table.proofs.Tree.KeptTables.{ends_at, end_last, kept_shape, kept_same, kept_table, kept_end, kept_prepares}
use Rattle.prefix_trie_table.proofs.Blocks.NodeLayouts.{table_sizes}
use Rattle.prefix_trie_table.proofs.Tree.ModelSteps.{longer_space}
use Rattle.prefix_trie_table.proofs.table.Table.reserve.Goals as goal

pub prepare-requires-clause-table : goal.prepare-requires-clause-table
prepare-requires-clause-table g c = some_table c.self.invariant

pub prepare-requires-clause-ends : goal.prepare-requires-clause-ends
prepare-requires-clause-ends g c =
    let i = c.self.inside in
    ends_at i.nodes i.cells i.count i.shape c.self.invariant c.args.path c.args.end.now.reached _ (ap (λ (s : Contents g.row.T.Denot). s.build) c.self.view_is)
    (rw (← c.self.view_is) at c.requires.absent) c.requires.end.0

pub invariant_of-self-inside : goal.invariant_of-self-inside
invariant_of-self-inside g c =
    let p = c.prepare.ensures in
    let shape = kept_shape _ _ _ _ _ c.self.inside.shape c.self.invariant p.kept in
    (shape, (table_sizes _ _ (some_table (kept_table _ _ _ _ _ c.self.inside.shape c.self.invariant p.kept p.grows.nodes p.grows.cells shape)), tt))

pub invariant_of-self : goal.invariant_of-self
invariant_of-self g c =
    let p = c.prepare.ensures in
    kept_table _ _ _ _ _ c.self.inside.shape c.self.invariant p.kept p.grows.nodes p.grows.cells c.self-1.given.0

pub returns : goal.returns
returns g c =
    let i = c.self.inside in
    let new = c.prepare.new in
    let p = c.prepare.ensures in
    let s2 = c.self-1.given.0 in
    let z2 = c.self-1.given.1.0 in
    let at = end_last i.nodes i.cells i.count i.shape c.self.invariant c.args.path c.args.end.now.reached _ (ap (λ (s : Contents g.row.T.Denot). s.build) c.self.view_is) c.requires.end.0 in
    let same = kept_same i.nodes new.nodes i.cells new.cells i.count i.shape c.self.invariant p.kept s2 in
    rw (← c.self.view_is) (record {
      unchanged = (ap (λ (s : State g.row.T.Denot). s.entries) same, ap (λ (s : State g.row.T.Denot). s.nodes) same);
      end = (kept_end i.nodes new.nodes i.cells new.cells i.count i.shape c.self.invariant p.kept c.args.path c.args.end.now.reached at, c.requires.end.1);
      prepares = kept_prepares i.nodes new.nodes i.cells new.cells i.count i.shape c.self.invariant p.kept c.args.path c.args.end.now.reached at i.sizes z2 c.prepare.result
          p.grows.nodes p.grows.cells p.obtains;
      range = search rules;
      space = longer_space i.nodes new.nodes i.cells new.cells i.count i.count i.shape c.self.invariant i.sizes s2 (invariant_of-self g c) z2 p.grows.nodes p.grows.cells;
    })
