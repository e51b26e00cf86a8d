-- The invariant of `descend`: the node is on the search path, and each node so far was read once.
use Rattle.prefix_trie_table.proofs.Prelude.{◌+◌, ◌-◌, ◌*◌, length}
use Rattle.prefix_trie_table.proofs.Lookup.SearchPaths.{IsFollowed}
use Rattle.prefix_trie_table.proofs.table.lookup.descend.Given as goal

abbrev pub invariant-down : goal.invariant-down
invariant-down g l = IsFollowed l.fn.path l.here l.nodes l.rest (g.V.VisitCounter.count l.fn.counter) (g.V.VisitCounter.count l.counter)

abbrev pub decreases-down : goal.decreases-down
decreases-down g l = length l.fn.path + 5 - 5 * l.here.level
