-- The invariant: the number of bits stays within its bounds, and its parts are fewer than twice the ranges.
use Rattle.std.proofs.Common.{◌+◌, ◌*◌, ◌^◌, ◌-◌, ◌≤◌}
use Rattle.prefix_trie_fib.proofs.index.bits_of_part.Given as goal

abbrev pub invariant-loop-more : goal.invariant-loop-more
invariant-loop-more l = (4 ≤ l.more) × (l.more ≤ l.most) × (2 ^ l.more + 2 ≤ 2 * l.count)

abbrev pub decreases-loop-more : goal.decreases-loop-more
decreases-loop-more l = l.most - l.more
