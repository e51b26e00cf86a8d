-- The invariant of the search: the range sought is among the `size` ones from `base` on.
use Rattle.prefix_trie_bits.specs.Model.Bits.{number}
use Rattle.prefix_trie_fib.specs.Search.{IsAmong}
use Rattle.prefix_trie_fib.proofs.ranges.line.Line.range_among.Given as goal

abbrev pub invariant-loop-size : goal.invariant-loop-size
invariant-loop-size g l = IsAmong l.self l.base l.size (number (g.K.Key.bits l.address))

abbrev pub decreases-loop-size : goal.decreases-loop-size
decreases-loop-size g l = l.size
