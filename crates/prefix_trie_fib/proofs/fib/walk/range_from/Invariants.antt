-- The invariant: no range so far has a value.
use Rattle.std.proofs.Common.{◌≡◌, drop}
use Rattle.prefix_trie_fib.specs.Ranges.{valued_ranges}
use Rattle.prefix_trie_fib.proofs.fib.walk.range_from.Given as goal

abbrev pub invariant-loop-i : goal.invariant-loop-i
invariant-loop-i g l = valued_ranges g.P.R.Key.bit_width (drop l.fn.from l.fib) ≡ valued_ranges g.P.R.Key.bit_width (drop l.i l.fib)
