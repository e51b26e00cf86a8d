-- The invariants: the length is at most the width, and then a block of the length begins at the address.
use Rattle.std.proofs.Common.{◌-◌, ◌≤◌}
use Rattle.prefix_trie_bits.specs.Model.Bits.{number}
use Rattle.address_ranges.specs.Appends.{end_of}
use Rattle.address_ranges.specs.Networks.{IsBlock}
use Rattle.address_ranges.proofs.networks.blocks.largest_at.Given as goal

abbrev pub invariant-loop-len : goal.invariant-loop-len
invariant-loop-len g l = l.len ≤ g.K.Key.bit_width

abbrev pub decreases-loop-len : goal.decreases-loop-len
decreases-loop-len g l = g.K.Key.bit_width - l.len

abbrev pub invariant-loop-len-2 : goal.invariant-loop-len-2
invariant-loop-len-2 g l = record {
  within : l.len ≤ g.K.Key.bit_width;
  block : IsBlock g.K.Key.bit_width (number (g.K.Key.bits l.at)) l.len (end_of g.K.Key.bit_width g.K.Key.bits l.past);
}

abbrev pub decreases-loop-len-2 : goal.decreases-loop-len-2
decreases-loop-len-2 g l = l.len
