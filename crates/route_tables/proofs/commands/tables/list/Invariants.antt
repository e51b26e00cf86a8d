-- The invariant of `list`: what is printed, with the lines of the networks still to come, is all.
use Rattle.prefix_trie_joint.specs.Joined.{entries_of}
use Rattle.route_tables.specs.Printed.{routes_text, table_text}
use Rattle.route_tables.proofs.Printing.{PrintsSoFar}
use Rattle.route_tables.proofs.commands.tables.list.Given as goal

abbrev pub invariant-loop-network : goal.invariant-loop-network
invariant-loop-network g l =
    (goal.iterator-loop-network g).can_next l.network-iterator
    × (goal.iterator-loop-network g).is_finite l.network-iterator
    × PrintsSoFar l.fn.out l.out (routes_text l.network-iterator) (table_text (entries_of l.table))
