-- The invariant: the number of bits stays within its bounds, and its chunks are not more than the ranges.
use Rattle.std.proofs.Common.{◌^◌, ◌-◌, ◌≤◌, ◌⊎◌}
use Rattle.prefix_trie_fib.proofs.index.index_bits.Given as goal

abbrev pub invariant-loop-bits : goal.invariant-loop-bits
invariant-loop-bits l = record {
  least : 8 ≤ l.bits;
  most : l.bits ≤ 20;
  few : (l.bits ≤ 8) ⊎ (2 ^ l.bits ≤ l.ranges);
}

abbrev pub decreases-loop-bits : goal.decreases-loop-bits
decreases-loop-bits l = 20 - l.bits
