-- The invariant: the ranges before `past` start by the address.
use Rattle.std.proofs.Common.{◌-◌, ◌<◌, ◌≤◌}
use Rattle.prefix_trie_bits.specs.Model.Bits.{number}
use Rattle.prefix_trie_fib.specs.Search.{StartsBy}
use Rattle.prefix_trie_fib.proofs.ranges.line.Line.range_from.Given as goal

abbrev pub invariant-loop-past : goal.invariant-loop-past
invariant-loop-past g l = (0 < l.past) × (l.past ≤ l.len) × StartsBy l.self (l.past - 1) (number (g.K.Key.bits l.address))

abbrev pub decreases-loop-past : goal.decreases-loop-past
decreases-loop-past g l = l.len - l.past
