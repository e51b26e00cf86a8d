-- The invariant: no address is kept of the breakpoints read.
use Rattle.std.proofs.Common.{length, [], ◌-◌, ◌+◌}
use Rattle.address_ranges.specs.Breaks.{numbers}
use Rattle.address_ranges.proofs.Sweeps.{IsSwept}
use Rattle.address_ranges.proofs.sweep.keeps_any.Given as goal

abbrev pub invariant-loop-i : goal.invariant-loop-i
invariant-loop-i g l = IsSwept g.K.Key.bit_width g.O.Operation.keeps (numbers g.K.Key.bits l.left) (numbers g.K.Key.bits l.right) l.i l.j []

abbrev pub decreases-loop-i : goal.decreases-loop-i
decreases-loop-i g l = (length l.left - l.i) + (length l.right - l.j)
