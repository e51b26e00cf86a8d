-- The invariant of `read_each`: the nodes of the searches so far are read, each with one count.
use Rattle.prefix_trie_table.proofs.Prelude.{◌≡◌, ◌+◌, EachOf, IsAhead}
use Rattle.prefix_trie_table.proofs.table.bulk.read_each.Given as goal

abbrev pub invariant-loop-j : goal.invariant-loop-j
invariant-loop-j g l = record {
  read : EachOf (IsAhead l.nodes.slots l.descents) l.j l.read;
  counted : g.V.VisitCounter.count l.counter ≡ g.V.VisitCounter.count l.fn.counter + l.j;
}
