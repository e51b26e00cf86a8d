-- The invariant of `shortest_on_path`: no node so far has a match, and each of them was read once.
use Rattle.prefix_trie_table.proofs.Prelude.{ℕ, ◌+◌, ◌-◌, ◌*◌, List, length, Option, Node, node_sizes, NodesHold, NoneHeld}
use Rattle.prefix_trie_table.proofs.Lookup.SearchPaths.{IsFollowed}
use Rattle.prefix_trie_table.proofs.table.matching.shortest_on_path.Given as goal

abbrev pub invariant-down : goal.invariant-down
invariant-down g l =
    record {
      descent : IsFollowed l.fn.path l.here l.nodes l.rest (g.V.VisitCounter.count l.fn.counter) (g.V.VisitCounter.count l.counter);
      none : (reading : List ℕ → Option Node) (paths : List (List ℕ)) → NodesHold node_sizes reading paths l.nodes → NoneHeld reading l.fn.path 0 (5 * l.here.level);
    }

abbrev pub decreases-down : goal.decreases-down
decreases-down g l = length l.fn.path + 5 - 5 * l.here.level
