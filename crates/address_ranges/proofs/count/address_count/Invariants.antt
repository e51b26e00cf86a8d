-- The invariant: the total is the number of addresses below the next breakpoint.
use Rattle.std.proofs.Common.{◌≡◌}
use Rattle.address_ranges.specs.Breaks.{has_address, numbers}
use Rattle.address_ranges.specs.Counts.{count_below}
use Rattle.address_ranges.specs.Networks.{break_or_end}
use Rattle.address_ranges.proofs.count.address_count.Given as goal

abbrev pub invariant-loop-i : goal.invariant-loop-i
invariant-loop-i g l =
    let ns = numbers g.K.Key.bits l.breaks in
    l.total ≡ count_below (has_address ns) (break_or_end g.K.Key.bit_width ns l.i)
