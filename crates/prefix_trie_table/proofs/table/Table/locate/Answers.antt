-- What `locate_in` finds in the array of nodes is the value's seat, or the end of the search path, in the tree by path.
use Rattle.prefix_trie_table.proofs.Tree.Invariant.{some_table}
use Rattle.prefix_trie_table.proofs.Lookup.EntryMatches.{met_on_path}
use Rattle.prefix_trie_table.proofs.Lookup.Locations.{located}
use Rattle.prefix_trie_table.proofs.table.Table.locate.Goals as goal

pub returns : goal.returns
returns g c =
    let i = c.self.inside in
    let t = some_table c.self.invariant in
    rw (← c.self.view_is) (record {
      located = located i.nodes i.cells i.count i.shape c.self.invariant i.sizes c.args.path c.locate_in.result c.locate_in.ensures.located;
      visits = met_on_path i.nodes i.cells t i.shape.0 i.shape.1 c.args.path _ _ (c.locate_in.ensures.visits t.reading t.paths t.holds.hold);
    })
