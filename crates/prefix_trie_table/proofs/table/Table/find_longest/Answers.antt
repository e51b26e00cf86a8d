-- The match that is found last on the search path is the longest in the model, and each node of the path is read once.
use Rattle.prefix_trie_table.proofs.Tree.Invariant.{some_table}
use Rattle.prefix_trie_table.proofs.Lookup.EntryMatches.{has_nodes, cell_inside, longest_none, longest_returned, met_is}
use Rattle.prefix_trie_table.proofs.table.Table.find_longest.Goals as goal

pub longest_on_path-requires : goal.longest_on_path-requires
longest_on_path-requires g c = record { sound = has_nodes _ _ (some_table c.self.invariant) }

pub returns-in_default : goal.returns-in_default
returns-in_default g c =
    let t = some_table c.self.invariant in
    rw (← c.self.view_is) (record {
      value = longest_none _ _ t _ c.self.inside.shape.1 c.args.path (c.in_default.ensures.found t.reading t.paths t.holds.hold);
      visits = met_is _ _ t _ c.self.inside.shape.1 c.args.path _ _ (c.in_default.ensures.visits t.reading t.paths t.holds.hold);
    })

pub value_of_match-requires : goal.value_of_match-requires
value_of_match-requires g c =
    let t = some_table c.self.invariant in
    let held = (c.in-Some.ensures.found t.reading t.paths t.holds.hold).0 in
    record { bit = held.small; is_there = cell_inside _ _ t _ c.self.inside.shape.1 c.args.path c.in-Some.found held }

pub returns : goal.returns
returns g c =
    let t = some_table c.self.invariant in
    let found = c.in-Some.ensures.found t.reading t.paths t.holds.hold in
    rw (← c.self.view_is) (record {
      value = longest_returned _ _ t _ c.self.inside.shape.1 c.args.path c.in-Some.found found.0 (λ x. x.now) found.1 c.value_of_match.result c.value_of_match.ensures;
      visits = met_is _ _ t _ c.self.inside.shape.1 c.args.path _ _ (c.in-Some.ensures.visits t.reading t.paths t.holds.hold);
    })
