-- The invariant of `list_within`: what is printed, with the lines of the networks still to come, is all.
use Rattle.prefix_trie.specs.Terms.{listing_below, prefix_pairs}
use Rattle.prefix_trie_joint.specs.Joined.{entries_of}
use Rattle.prefix_trie_joint.specs.Networks.{ip_back, ip_path}
use Rattle.route_tables.specs.Printed.{routes_text}
use Rattle.route_tables.proofs.Printing.{PrintsSoFar}
use Rattle.route_tables.proofs.commands.tables.list_within.Given as goal

abbrev pub invariant-loop-network : goal.invariant-loop-network
invariant-loop-network g l =
    (goal.iterator-loop-network g).can_next l.network-iterator
    × (goal.iterator-loop-network g).is_finite l.network-iterator
    × PrintsSoFar l.fn.out l.out (routes_text l.network-iterator) (routes_text (prefix_pairs ip_back (listing_below (entries_of l.table) (ip_path l.fn.network))))
