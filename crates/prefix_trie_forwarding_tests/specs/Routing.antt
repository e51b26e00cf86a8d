-- What a router's routes are after events, and which next hops its packets get.
use Rattle.std.specs.Prelude.{List, [], ◌∷◌, ◌++◌, Option}
use Rattle.prefix_trie.specs.Terms.{Entries, ipv4_address, ipv4_path, longest_match, with_entry, without_entry}
use Rattle.prefix_trie_forwarding.specs.Forwarding.{hop_of}
use Rattle.prefix_trie_forwarding.specs.declared.hop.Hop.{Hop}
use Rattle.prefix_trie_forwarding_tests.specs.declared.examples.router.Event.{Event}
use Rattle.prefix_trie_forwarding_tests.specs.declared.examples.router.Event.TheVariants.{Announced, Withdrawn, Packet}

-- the routes after an event
abbrev pub routes_after : Entries Hop → Event → Entries Hop
routes_after routes (Announced route hop) = with_entry routes (ipv4_path route) hop
routes_after routes (Withdrawn route) = without_entry routes (ipv4_path route)
routes_after routes (Packet address) = routes

-- the next hop of an event's packet, if it is one: that of the longest route that contains its address
abbrev pub hops_at : Entries Hop → Event → List (Option Hop)
hops_at routes (Packet address) = hop_of (longest_match routes (ipv4_address address)) ∷ []
hops_at routes (Announced route hop) = []
hops_at routes (Withdrawn route) = []

-- the next hops of all packets, in order, each by the routes after the events before it
abbrev pub hops_of_packets : Entries Hop → List Event → List (Option Hop)
hops_of_packets routes [] = []
hops_of_packets routes (event ∷ events) = hops_at routes event ++ hops_of_packets (routes_after routes event) events
