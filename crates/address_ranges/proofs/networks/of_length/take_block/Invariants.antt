-- The invariant: no network of the length begins in the ranges that were passed over.
use Rattle.address_ranges.specs.Walks.{most_left}
use Rattle.address_ranges.proofs.OfLength.{AreSkipped}
use Rattle.address_ranges.proofs.networks.of_length.take_block.Given as goal

abbrev pub invariant-loop-ends : goal.invariant-loop-ends
invariant-loop-ends g l = AreSkipped g.K.Key.bit_width l.len l.fn.left l.left

abbrev pub decreases-loop-ends : goal.decreases-loop-ends
decreases-loop-ends g l = most_left g.K.Key.bit_width l.left
