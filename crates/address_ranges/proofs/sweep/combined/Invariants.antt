-- The invariant: the breakpoints so far are those of the addresses kept.
use Rattle.std.proofs.Common.{length, ◌-◌, ◌+◌}
use Rattle.address_ranges.specs.Breaks.{numbers}
use Rattle.address_ranges.proofs.Sweeps.{IsSwept}
use Rattle.address_ranges.proofs.sweep.combined.Given as goal

abbrev pub invariant-loop-i : goal.invariant-loop-i
invariant-loop-i g l = IsSwept g.K.Key.bit_width g.O.Operation.keeps (numbers g.K.Key.bits l.left) (numbers g.K.Key.bits l.right) l.i l.j (numbers g.K.Key.bits l.out.items)

abbrev pub decreases-loop-i : goal.decreases-loop-i
decreases-loop-i g l = (length l.left - l.i) + (length l.right - l.j)
