-- The invariant of `match_in_groups`: the results of the groups so far are right, and their reads are counted.
use Rattle.prefix_trie_map.proofs.Prelude.{◌≡◌, ◌+◌, ◌-◌, ◌≤◌, length, take, HaveMatches, right_for, visits_of_all}
use Rattle.prefix_trie_map.proofs.map.bulk.match_in_groups.Given as goal

abbrev pub invariant-groups : goal.invariant-groups
invariant-groups g l = record {
  within : l.from ≤ length l.prefixes;
  matched : HaveMatches g.X.BulkResult.shows (right_for g.X.BulkResult.right g.P.Prefix.path l.table.entries) l.prefixes l.out l.from;
  read : l.visits ≡ l.fn.visits + visits_of_all g.P.Prefix.path l.table.nodes (take l.from l.prefixes);
}

abbrev pub decreases-groups : goal.decreases-groups
decreases-groups g l = length l.prefixes - l.from
