-- A match that was stored by `find_longest_each` gives the model's longest match, with its value.
use Rattle.prefix_trie_table.proofs.Prelude.{◌+◌, length}
use Rattle.prefix_trie_table.proofs.Lookup.EntryMatches.{cell_inside, longest_none, longest_returned}
use Rattle.prefix_trie_table.proofs.Lookup.BulkRounds.{answer_is, found_some, found_none}
use Rattle.prefix_trie_table.proofs.Tree.Invariant.{some_table}
use Rattle.prefix_trie_table.proofs.table.Table.value_found.Goals as goal

pub returns-in_default : goal.returns-in_default
returns-in_default g c =
    let t = some_table c.self.invariant in
    let q = c.args.path in
    let held = answer_is c.self.inside.nodes t.reading t.paths t.holds.hold q c.args.found (rw (← c.self.view_is) at c.requires) in
    rw (← c.self.view_is) (longest_none _ _ t _ c.self.inside.shape.1 q (found_none t.reading q (length q + 1) (rw c.in_default.is at held)))

pub value_at-requires : goal.value_at-requires
value_at-requires g c =
    let t = some_table c.self.invariant in
    let q = c.args.path in
    let held = answer_is c.self.inside.nodes t.reading t.paths t.holds.hold q c.args.found (rw (← c.self.view_is) at c.requires) in
    let m = found_some t.reading q (length q + 1) c.in-Some.found (rw c.in-Some.is at held) in
    record { is_there = rw m.1 (cell_inside _ _ t _ c.self.inside.shape.1 q m.0 m.2) }

pub returns : goal.returns
returns g c =
    let t = some_table c.self.invariant in
    let q = c.args.path in
    let held = answer_is c.self.inside.nodes t.reading t.paths t.holds.hold q c.args.found (rw (← c.self.view_is) at c.requires) in
    let m = found_some t.reading q (length q + 1) c.in-Some.found (rw c.in-Some.is at held) in
    rw (← c.self.view_is) (longest_returned _ _ t _ c.self.inside.shape.1 q m.0 m.2 (λ x. x.now) m.3 c.value_at.result (rw m.1 at c.value_at.ensures))
