-- Each match that `match_each` stores is right for its prefix, and the reads are the sum of the visits of all.
use Rattle.prefix_trie_table.proofs.Prelude.{◌≡◌, ◌+◌, map, sum_by, ap, ◌∙◌, subst, length-map, visits, AreMatchesFound, Contents}
use Rattle.prefix_trie_table.proofs.Lookup.EntryMatches.{has_nodes}
use Rattle.prefix_trie_table.proofs.Lookup.BulkRounds.{are_matches_found, costs_are, costs_sum}
use Rattle.prefix_trie_table.proofs.Tree.Invariant.{some_table}
use Rattle.prefix_trie_table.proofs.table.Table.find_longest_each.Goals as goal

pub match_each-requires-clause-sound : goal.match_each-requires-clause-sound
match_each-requires-clause-sound g c = has_nodes _ _ (some_table c.self.invariant)

pub returns-clause-results : goal.returns-clause-results
returns-clause-results g c =
    let t = some_table c.self.invariant in
    let qs = map g.P.Prefix.path c.args.prefixes.now in
    subst (λ (s : Contents g.row.T.Denot). AreMatchesFound s.build qs c.match_each.new.found) c.self.view_is
    (are_matches_found c.self.inside.nodes t.reading t.paths t.holds.hold qs c.match_each.new.found c.match_each.ensures.matched)

pub returns-clause-visits : goal.returns-clause-visits
returns-clause-visits g c =
    let t = some_table c.self.invariant in
    let ps = c.args.prefixes.now in
    let qs = map g.P.Prefix.path c.args.prefixes.now in
    let s = c.self.inside.shape in
    subst (λ (s : Contents g.row.T.Denot). g.V.VisitCounter.count c.match_each.new.counter ≡ g.V.VisitCounter.count c.args.counter.now + sum_by (λ p. visits s.nodes (g.P.Prefix.path p)) ps) c.self.view_is
    (c.match_each.ensures.counted (map (λ q. visits s.0.nodes q) qs)
    (length-map qs (λ q. visits s.0.nodes q) ∙ length-map ps g.P.Prefix.path)
    (costs_are c.self.inside.nodes c.self.inside.cells t s.0 s.1 qs)
    ∙ ap (λ n. g.V.VisitCounter.count c.args.counter.now + n) (costs_sum s.0.nodes g.P.Prefix.path ps))
