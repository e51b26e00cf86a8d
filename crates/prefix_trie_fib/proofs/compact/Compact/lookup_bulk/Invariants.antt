-- The invariant: the results so far are those of the first addresses.
use Rattle.std.proofs.Common.{◌-◌, ◌≤◌, None, length}
use Rattle.prefix_trie_bits.specs.Model.Bits.{number}
use Rattle.prefix_trie_fib.specs.Bulk.{HaveResults}
use Rattle.prefix_trie_fib.specs.Line.{value_along}
use Rattle.prefix_trie_fib.proofs.compact.Compact.lookup_bulk.Given as goal

abbrev pub invariant-groups : goal.invariant-groups
invariant-groups g l = record {
  within : l.from ≤ length l.addresses;
  results : HaveResults (λ a. value_along None l.self (number (g.K.Key.bits a))) l.addresses l.out l.from;
}

abbrev pub decreases-groups : goal.decreases-groups
decreases-groups g l = length l.addresses - l.from
