-- The table is still a table after the value in a seat is overwritten, with the entry of that bit string changed.
use Rattle.prefix_trie_table.proofs.Prelude.{Some, refl, sym, ap, ◌∙◌, get, Contents, with_value_at}
use Rattle.prefix_trie_table.proofs.Tree.Invariant.{some_table}
use Rattle.prefix_trie_table.proofs.Lookup.Lending.{cell_there, seat_has, left_shape, table_left, stored_is, written_seen}
use Rattle.prefix_trie_table.proofs.Lookup.Locations.{seat_found}
use Rattle.prefix_trie_table.proofs.table.Table.at_mut.Goals as goal

pub lend-requires : goal.lend-requires
lend-requires g c =
    let i = c.self.inside in
    let q = c.args.path in
    let same = ap (λ (s : Contents g.row.T.Denot). s.build) c.self.view_is in
    seat_has i.nodes i.cells (some_table c.self.invariant) q c.args.seat
    (seat_found i.nodes i.cells i.count i.shape c.self.invariant q c.args.seat _ same c.requires)

pub invariant_of-self-inside-lent : goal.invariant_of-self-inside-lent
invariant_of-self-inside-lent g c =
    let i = c.self.inside in
    let q = c.args.path in
    let same = ap (λ (s : Contents g.row.T.Denot). s.build) c.self.view_is in
    let at = seat_found i.nodes i.cells i.count i.shape c.self.invariant q c.args.seat _ same c.requires in
    λ x. (left_shape i.nodes i.cells i.count i.shape c.self.invariant q (Some c.args.seat) at x, (i.sizes, tt))

pub invariant_of-self-lent : goal.invariant_of-self-lent
invariant_of-self-lent g c =
    let i = c.self.inside in
    let q = c.args.path in
    let same = ap (λ (s : Contents g.row.T.Denot). s.build) c.self.view_is in
    let at = seat_found i.nodes i.cells i.count i.shape c.self.invariant q c.args.seat _ same c.requires in
    λ x. table_left i.nodes i.cells i.count i.shape c.self.invariant q (Some c.args.seat) at x (c.self-1.given x).0

pub returns : goal.returns
returns g c =
    let i = c.self.inside in
    let q = c.args.path in
    let same = ap (λ (s : Contents g.row.T.Denot). s.build) c.self.view_is in
    let at = seat_found i.nodes i.cells i.count i.shape c.self.invariant q c.args.seat _ same c.requires in (
      (
        refl,
        λ x. written_seen i.nodes i.cells i.count i.shape c.self.invariant q i.sizes (Some c.args.seat) at c.args.seat x refl (c.self-1.given x).0 (c.self-1.given x).1.0
            ∙ ap (λ (s : Contents g.row.T.Denot). with_value_at s q x) c.self.view_is,
      ),
      record {
        writes_back = tt;
        value = sym (ap (λ (s : Contents g.row.T.Denot). get s.entries q) c.self.view_is) ∙ stored_is i.nodes i.cells i.count i.shape c.self.invariant q
            ∙ sym (cell_there i.nodes i.cells (some_table c.self.invariant) q c.args.seat at).1 ∙ c.lend.ensures.value;
      },
    )
