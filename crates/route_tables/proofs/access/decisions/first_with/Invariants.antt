-- The invariant of `first_with`: the first network with the value of those still to come is the first of all.
use Rattle.std.proofs.Common.{◌≡◌}
use Rattle.prefix_trie_joint.specs.Joined.{entries_of}
use Rattle.prefix_trie_joint.specs.Networks.{ip_path}
use Rattle.route_tables.specs.Access.{shortest_with}
use Rattle.route_tables.proofs.Decisions.{first_with}
use Rattle.route_tables.proofs.access.decisions.first_with.Given as goal

abbrev pub invariant-loop-network : goal.invariant-loop-network
invariant-loop-network l =
    goal.iterator-loop-network.can_next l.network-iterator
    × goal.iterator-loop-network.is_finite l.network-iterator
    × (first_with l.rule l.network-iterator ≡ shortest_with (entries_of l.table) (ip_path l.address) l.rule)
