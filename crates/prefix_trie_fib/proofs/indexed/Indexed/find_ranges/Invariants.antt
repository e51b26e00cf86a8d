-- The invariant: the first listed addresses have their ranges, and the list stays.
use Rattle.std.proofs.Common.{◌≡◌, length}
use Rattle.prefix_trie_fib.specs.Bulk.{AreRanges}
use Rattle.prefix_trie_fib.proofs.indexed.Indexed.find_ranges.Given as goal

abbrev pub invariant-loop-j : goal.invariant-loop-j
invariant-loop-j g l = record {
  ranges : AreRanges g.K.Key.bits l.self l.addresses l.listed.places l.listed.ranges l.j;
  places : l.listed.places ≡ l.fn.listed.places;
  count : l.listed.count ≡ l.fn.listed.count;
  long_places : length l.listed.places ≡ 128;
  long_ranges : length l.listed.ranges ≡ 128;
}
