-- The invariant of `match_one_by_one`: the results so far are right, and their reads are counted.
use Rattle.prefix_trie_map.proofs.Prelude.{◌≡◌, ◌+◌, take, HaveMatches, right_for, visits_of_all}
use Rattle.prefix_trie_map.proofs.map.bulk.match_one_by_one.Given as goal

abbrev pub invariant-loop-i : goal.invariant-loop-i
invariant-loop-i g l = record {
  matched : HaveMatches g.X.BulkResult.shows (right_for g.X.BulkResult.right g.P.Prefix.path l.table.entries) l.prefixes l.out l.i;
  read : l.visits ≡ l.fn.visits + visits_of_all g.P.Prefix.path l.table.nodes (take l.i l.prefixes);
}
