-- The cell at the seat of a string has its value, and a string without a seat has none.
use Rattle.prefix_trie_table.proofs.Prelude.{◌∙◌, None, is_some, sym, ap, get, get_or, seat_of, some-value, Contents}
use Rattle.prefix_trie_table.specs.Walking.Walks.{slot_of}
use Rattle.prefix_trie_table.proofs.Lookup.Locations.{stored_if, found_inside, found_read, found_some}
use Rattle.prefix_trie_table.proofs.Tree.Trees.{is_none-None}
use Rattle.prefix_trie_table.proofs.table.Table.value_at_seat.Goals as goal

pub value_at-requires-clause-is_there : goal.value_at-requires-clause-is_there
value_at-requires-clause-is_there g c =
    let i = c.self.inside in
    found_inside i.nodes i.cells i.count i.shape c.self.invariant c.requires.0 c.in-Some.seat _ (ap (λ (s : Contents g.row.T.Denot). s.build) c.self.view_is) (c.requires.1 ∙ c.in-Some.is)

pub value_at-requires-clause-set : goal.value_at-requires-clause-set
value_at-requires-clause-set g c =
    let i = c.self.inside in
    let same = ap (λ (s : Contents g.row.T.Denot). s.build) c.self.view_is in
    some-value (get_or i.cells.slots (slot_of c.in-Some.seat) None)
    (ap is_some (found_read i.nodes i.cells i.count i.shape c.self.invariant c.requires.0 c.in-Some.seat _ same (c.requires.1 ∙ c.in-Some.is))
    ∙ found_some i.nodes i.cells i.count i.shape c.self.invariant c.requires.0 c.in-Some.seat _ same (c.requires.1 ∙ c.in-Some.is))

pub returns-in-Some : goal.returns-in-Some
returns-in-Some g c = λ q seated.
    let i = c.self.inside in
    let same = ap (λ (s : Contents g.row.T.Denot). s.build) c.self.view_is in
    sym c.value_at.ensures
    ∙ found_read i.nodes i.cells i.count i.shape c.self.invariant q c.in-Some.seat _ same (seated ∙ c.in-Some.is)
    ∙ ap (λ (s : Contents g.row.T.Denot). get s.entries q) c.self.view_is

pub returns-in-None : goal.returns-in-None
returns-in-None g c = λ q seated.
    let i = c.self.inside in
    sym (is_none-None (get i.shape.0.entries q)
    (stored_if i.nodes i.cells i.count i.shape c.self.invariant q
    ∙ ap is_some (ap (λ (s : Contents g.row.T.Denot). seat_of s.build q) c.self.view_is ∙ seated ∙ c.in-None.is)))
    ∙ ap (λ (s : Contents g.row.T.Denot). get s.entries q) c.self.view_is
