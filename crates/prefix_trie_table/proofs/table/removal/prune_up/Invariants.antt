-- The invariant of `prune_up`: the nodes below this level that were left empty are removed, and the others are unchanged.
use Rattle.prefix_trie_table.proofs.Prelude.{◌≡◌, ◌*◌, ◌≤◌, length, rank, chunks_of, IsAtEnd, GivesBack, Grows}
use Rattle.prefix_trie_table.proofs.Removal.Pruning.{Pruning}
use Rattle.prefix_trie_table.proofs.table.removal.prune_up.Given as goal

abbrev pub invariant-loop-level : goal.invariant-loop-level
invariant-loop-level g l = record {
  pruned : (s : IsAtEnd (chunks_of l.path) l.ancestors l.initial.node l.initial.nodes) → Pruning s.reading s.paths (chunks_of l.path) l.ancestors l.level l.node l.initial.nodes l.nodes;
  space : Grows l.initial.nodes l.nodes 24;
  last : rank l.node.child_bitmap 32 ≡ 0 → GivesBack l.initial.nodes l.nodes;
  within : 5 * l.level ≤ length l.path;
}

abbrev pub decreases-loop-level : goal.decreases-loop-level
decreases-loop-level g l = l.level
