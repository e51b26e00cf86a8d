-- The invariant of `look_at_each`: of the searches so far, those that go on are in front and the others' results are stored.
use Rattle.prefix_trie_table.proofs.Prelude.{◌≡◌, ◌≤◌, map, take, drop, Node, AreRead, GoOn, Store}
use Rattle.prefix_trie_table.proofs.table.bulk.look_at_each.Given as goal

abbrev pub invariant-loop-j : goal.invariant-loop-j
invariant-loop-j g l = record {
  few : l.kept ≤ l.j;
  rest : drop l.j l.descents ≡ drop l.j l.fn.descents;
  go_on : (v : Store Node) → AreRead v (map g.P.Prefix.path l.prefixes) l.level (take l.count l.fn.descents) l.read
      → GoOn v (map g.P.Prefix.path l.prefixes) l.level (take l.j l.fn.descents) (take l.kept l.descents) l.fn.found l.found;
}
