-- The invariant of the loop that adds nodes: the path is extended down to a blank node, and enough blocks of one slot are free.
use Rattle.prefix_trie_table.proofs.Prelude.{◌≡◌, ◌-◌, ◌/◌, ◌≤◌, ◌<◌, length, blank_node, node_at, free_in}
use Rattle.prefix_trie_table.proofs.Insertion.ExtendedPaths.{IsExtended}
use Rattle.prefix_trie_table.proofs.table.insertion.add_entry.Given as goal

abbrev pub invariant-loop-level : goal.invariant-loop-level
invariant-loop-level g l = record {
  extended : IsExtended l.fn.path l.fn.nodes l.fn.cells l.rest l._level l.at l.nodes;
  blank : node_at l.nodes.slots l.at ≡ blank_node;
  enough : length l.fn.path / 5 - l._level ≤ free_in l.nodes.tiers 1;
  within : l._level ≤ length l.fn.path / 5;
  from : l.fn.end.reached.level < l._level;
}
