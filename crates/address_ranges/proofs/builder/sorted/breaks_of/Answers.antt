-- Each range starts at the ranges of the set or after them, since the ranges are sorted.
use Rattle.std.proofs.Common.{arith}
use Rattle.address_ranges.specs.Breaks.{numbers}
use Rattle.address_ranges.proofs.Builders.{added_next, is_some, starts_here}
use Rattle.address_ranges.proofs.builder.sorted.breaks_of.Goals as goal

pub push_range-requires-clause-starts : goal.push_range-requires-clause-starts
push_range-requires-clause-starts g c =
    starts_here g.K.Key.bit_width g.K.Key.bits c.args.ranges.now c.loop-range.range-index c.range-item.result (omega arith) c.range-item.is (numbers g.K.Key.bits c.loop-range.out.items) c.loop-range.invariant

pub push_range-requires-clause-some : goal.push_range-requires-clause-some
push_range-requires-clause-some g c =
    is_some g.K.Key.bit_width g.K.Key.bits c.args.ranges.now c.loop-range.range-index c.range-item.result (omega arith) c.range-item.is c.requires.some

pub loop-range-preserved : goal.loop-range-preserved
loop-range-preserved g c =
    added_next g.K.Key.bit_width g.K.Key.bits c.args.ranges.now c.loop-range.range-index c.range-item.result (omega arith) c.range-item.is (numbers g.K.Key.bits c.loop-range.out.items) _
    c.requires.sorted c.loop-range.invariant c.in_ok-push_range.ensures.added
