-- The invariant of `next_match`: the walk is at a node of the path, and no match was passed over.
use Rattle.prefix_trie_table.proofs.Prelude.{◌≡◌, ℕ, drop, ◌+◌, ◌*◌, ◌-◌, length, IsCovering}
use Rattle.prefix_trie_table.proofs.Lookup.NodeCovers.{HasReached}
use Rattle.prefix_trie_table.proofs.table.cover.next_match.Given as goal

abbrev pub invariant-down : goal.invariant-down
invariant-down g l = (first : ℕ) × IsCovering l.path l.here l.matches first l.nodes
    × ((before : ℕ) → IsCovering l.path l.fn.here l.fn.matches before l.nodes → HasReached l.path before l.here l.matches l.nodes)
    × (l.rest ≡ drop (5 * l.here.level) l.path)

abbrev pub decreases-down : goal.decreases-down
decreases-down g l = length l.path + 5 - 5 * l.here.level
