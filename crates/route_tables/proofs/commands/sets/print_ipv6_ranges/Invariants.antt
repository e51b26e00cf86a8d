-- The invariant of `print_ipv6_ranges`: what is printed, with the lines of the ranges still to come, is all.
use Rattle.std.proofs.Common.{flat_map}
use Rattle.address_ranges.specs.Ranges.{ranges_of}
use Rattle.route_tables.specs.Printed.{ipv6_range_line}
use Rattle.route_tables.proofs.Printing.{PrintsSoFar}
use Rattle.route_tables.proofs.commands.sets.print_ipv6_ranges.Given as goal

abbrev pub invariant-loop-first : goal.invariant-loop-first
invariant-loop-first g l =
    (goal.iterator-loop-first g).can_next l.first-iterator
    × (goal.iterator-loop-first g).is_finite l.first-iterator
    × PrintsSoFar l.fn.out l.out (flat_map ipv6_range_line l.first-iterator) (flat_map ipv6_range_line (ranges_of 128 l.set))
