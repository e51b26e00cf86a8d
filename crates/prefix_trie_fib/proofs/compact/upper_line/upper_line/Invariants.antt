-- The invariant: the first ranges are appended by their upper 64 bits.
use Rattle.std.proofs.Common.{◌≡◌, take}
use Rattle.prefix_trie_fib.specs.Layouts.{widened}
use Rattle.prefix_trie_fib.proofs.compact.upper_line.upper_line.Given as goal

abbrev pub invariant-loop-i : goal.invariant-loop-i
invariant-loop-i g l = widened g.K.Key.bit_width l.upper ≡ take l.i l.fn.line
