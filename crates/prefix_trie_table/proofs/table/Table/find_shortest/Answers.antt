-- The match that is found first on the search path is the shortest in the model, and no node after it is read.
use Rattle.prefix_trie_table.proofs.Prelude.{◌+◌, ap, sym, ◌∙◌}
use Rattle.prefix_trie_table.proofs.Tree.Invariant.{some_table}
use Rattle.prefix_trie_table.proofs.Lookup.EntryMatches.{has_nodes, cell_inside, shortest_none, shortest_returned, met_none, met_shortest}
use Rattle.prefix_trie_table.proofs.table.Table.find_shortest.Goals as goal

pub shortest_on_path-requires : goal.shortest_on_path-requires
shortest_on_path-requires g c = record { sound = has_nodes _ _ (some_table c.self.invariant) }

pub returns-in_default : goal.returns-in_default
returns-in_default g c =
    let t = some_table c.self.invariant in
    let none = c.in_default.ensures.found t.reading t.paths t.holds.hold in
    rw (← c.self.view_is) (record {
      value = shortest_none _ _ t _ c.self.inside.shape.1 c.args.path none;
      visits = met_none _ _ t _ c.self.inside.shape.1 c.args.path _ _ none (c.in_default.ensures.visits t.reading t.paths t.holds.hold);
    })

pub value_of_match-requires : goal.value_of_match-requires
value_of_match-requires g c =
    let t = some_table c.self.invariant in
    let held = (c.in-Some.ensures.found t.reading t.paths t.holds.hold).0 in
    record { bit = held.small; is_there = cell_inside _ _ t _ c.self.inside.shape.1 c.args.path c.in-Some.found held }

pub returns : goal.returns
returns g c =
    let t = some_table c.self.invariant in
    let found = c.in-Some.ensures.found t.reading t.paths t.holds.hold in
    rw (← c.self.view_is) (record {
      value = shortest_returned _ _ t _ c.self.inside.shape.1 c.args.path c.in-Some.found found.0 (λ x. x.now) found.1 c.value_of_match.result c.value_of_match.ensures;
      visits = c.in-Some.ensures.visits
          ∙ ap (λ n. g.V.VisitCounter.count c.args.counter.now + n) (sym (met_shortest _ _ t _ c.self.inside.shape.1 c.args.path c.in-Some.found found.0 found.1));
    })
