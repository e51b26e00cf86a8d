-- The invariant: the first bits are written, four in each round.
use Rattle.prefix_trie_fib.proofs.Halves.{IsWritten}
use Rattle.prefix_trie_fib.proofs.compact.halves.from_upper.Given as goal

abbrev pub invariant-loop-i : goal.invariant-loop-i
invariant-loop-i g l = IsWritten g.K.Key.bit_width l.fn.half l.i (g.K.Key.bits l.key)
