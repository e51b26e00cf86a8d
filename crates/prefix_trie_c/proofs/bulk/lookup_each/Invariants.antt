-- The invariant: the results so far are those of the first addresses.
use Rattle.std.proofs.Common.{◌≡◌, ◌-◌, ◌≤◌, length, map, take}
use Rattle.prefix_trie_c.specs.Compiled.{value_at}
use Rattle.prefix_trie_c.specs.Entries.{found_value}
use Rattle.prefix_trie_c.proofs.bulk.lookup_each.Given as goal

abbrev pub invariant-groups : goal.invariant-groups
invariant-groups g l = record {
  long : length l.found ≡ 128;
  same_length : length l.results ≡ length l.addresses;
  within : l.from ≤ length l.addresses;
  written : take l.from l.results ≡ map (λ a. found_value (value_at g.P.R.Key.bit_width l.fib (g.A.Grouped.number_of a))) (take l.from l.addresses);
}

abbrev pub decreases-groups : goal.decreases-groups
decreases-groups g l = length l.addresses - l.from
