-- The invariant of `print_each`: the networks so far are printed.
use Rattle.route_tables.proofs.Lookups.{FoundSoFar}
use Rattle.route_tables.proofs.commands.lookups.print_each.Given as goal

abbrev pub invariant-loop-network : goal.invariant-loop-network
invariant-loop-network g l = FoundSoFar l.question l.yielded l.is_any l.fn.out l.out
