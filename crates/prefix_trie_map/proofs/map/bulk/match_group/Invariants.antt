-- The invariant of `match_group`: the results up to the current prefix are right, if those before the group were.
use Rattle.prefix_trie_map.proofs.Prelude.{◌+◌, HaveMatches, right_for}
use Rattle.prefix_trie_map.proofs.map.bulk.match_group.Given as goal

abbrev pub invariant-loop-i : goal.invariant-loop-i
invariant-loop-i g l =
    HaveMatches g.X.BulkResult.shows (right_for g.X.BulkResult.right g.P.Prefix.path l.table.entries) l.prefixes l.fn.out l.from
    → HaveMatches g.X.BulkResult.shows (right_for g.X.BulkResult.right g.P.Prefix.path l.table.entries) l.prefixes l.out (l.from + l.i)
