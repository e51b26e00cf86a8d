-- The invariant: the breakpoints compared are equal.
use Rattle.std.proofs.Common.{◌≡◌, ℕ, ◌<◌, get_or}
use Rattle.address_ranges.specs.Breaks.{numbers}
use Rattle.address_ranges.proofs.same.are_same.Given as goal

abbrev pub invariant-loop-i : goal.invariant-loop-i
invariant-loop-i g l = (k : ℕ) → k < l.i → get_or (numbers g.K.Key.bits l.left) k 0 ≡ get_or (numbers g.K.Key.bits l.right) k 0
