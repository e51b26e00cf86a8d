-- The invariant: the breakpoints so far are those of the ranges read, and each of their ranges starts by those to come.
use Rattle.address_ranges.specs.Breaks.{numbers}
use Rattle.address_ranges.proofs.Builders.{AreAdded}
use Rattle.address_ranges.proofs.builder.sorted.breaks_of.Given as goal

abbrev pub invariant-loop-range : goal.invariant-loop-range
invariant-loop-range g l = AreAdded g.K.Key.bit_width g.K.Key.bits l.ranges (numbers g.K.Key.bits l.out.items) l.range-index
