-- A seat of a stored bit string is a slot of the array that has its value, so the cell there is not vacant.
use Rattle.prefix_trie_table.proofs.Prelude.{is_some, sym, ap, ◌∙◌, false≢true, get, Contents}
use Rattle.prefix_trie_table.proofs.Lookup.Locations.{found_inside, found_value, found_some}
use Rattle.prefix_trie_table.proofs.table.Table.at.Goals as goal

pub at-requires : goal.at-requires
at-requires g c =
    let i = c.self.inside in
    found_inside i.nodes i.cells i.count i.shape c.self.invariant c.args.path c.args.seat _
    (ap (λ (s : Contents g.row.T.Denot). s.build) c.self.view_is) c.requires

pub unreachable-requires : goal.unreachable-requires
unreachable-requires g c =
    let i = c.self.inside in
    let q = c.args.path in
    let same = ap (λ (s : Contents g.row.T.Denot). s.build) c.self.view_is in
    let read = found_value i.nodes i.cells i.count i.shape c.self.invariant q c.args.seat _ same c.requires c.at.result.now c.at.ensures.slot in
    false≢true (sym (ap is_some (read ∙ c.in-None.is)) ∙ found_some i.nodes i.cells i.count i.shape c.self.invariant q c.args.seat _ same c.requires)

pub returns : goal.returns
returns g c =
    let i = c.self.inside in
    let q = c.args.path in
    let same = ap (λ (s : Contents g.row.T.Denot). s.build) c.self.view_is in
    sym (ap (λ (s : Contents g.row.T.Denot). get s.entries q) c.self.view_is)
    ∙ found_value i.nodes i.cells i.count i.shape c.self.invariant q c.args.seat _ same c.requires c.at.result.now c.at.ensures.slot ∙ c.in-Some.is
