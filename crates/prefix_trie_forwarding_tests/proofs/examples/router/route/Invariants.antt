-- The invariant of the loop: the hops so far, and those of the packets still to come, are the hops of all packets.
use Rattle.std.proofs.Common.{◌≡◌, ◌++◌, drop}
use Rattle.prefix_trie.specs.Terms.{no_entries}
use Rattle.prefix_trie_forwarding_tests.specs.Routing.{hops_of_packets}
use Rattle.prefix_trie_forwarding_tests.proofs.examples.router.route.Given as goal

abbrev pub invariant-loop-event : goal.invariant-loop-event
invariant-loop-event g l = l.hops.items ++ hops_of_packets l.table.map.entries (drop l.event-index l.events) ≡ hops_of_packets no_entries l.events
