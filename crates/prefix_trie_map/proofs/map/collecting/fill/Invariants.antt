-- The invariant of `fill`: the map has the items that the iterator gave so far.
use Rattle.prefix_trie_map.proofs.Prelude.{Puts}
use Rattle.prefix_trie_map.proofs.map.collecting.fill.Given as goal

abbrev pub invariant-loop-prefix : goal.invariant-loop-prefix
invariant-loop-prefix g l = Puts g.P.Prefix.path l.fn.map l.yielded l.map
