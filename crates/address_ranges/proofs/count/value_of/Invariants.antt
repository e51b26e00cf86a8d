-- The invariant: the value is the number of the first bits.
use Rattle.std.proofs.Common.{◌-◌, ◌≡◌, ◌≤◌, take}
use Rattle.prefix_trie_bits.specs.Model.Bits.{number}
use Rattle.address_ranges.proofs.count.value_of.Given as goal

abbrev pub invariant-loop-depth : goal.invariant-loop-depth
invariant-loop-depth g l = record {
  within : l.depth ≤ l.width;
  value : l.value ≡ number (take l.depth (g.K.Key.bits l.key));
}

abbrev pub decreases-loop-depth : goal.decreases-loop-depth
decreases-loop-depth g l = l.width - l.depth
