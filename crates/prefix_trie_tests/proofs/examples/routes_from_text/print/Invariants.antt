-- The invariant of the loop: the text so far and the lines of the routes still to come are all lines.
use Rattle.std.specs.Prelude.{◌≡◌, ◌++◌, ℕ, List, codes, decimal, flat_map, string_bytes}
use Rattle.prefix_trie.specs.Terms.{ipv4_back, ipv4_network_text, listing, prefix_pairs}
use Rattle.prefix_trie_tests.proofs.examples.routes_from_text.print.Given as goal

-- The line of a route.
abbrev pub line : (ℕ × ℕ) × ℕ → List ℕ
line route = ipv4_network_text route.0 ++ (codes " " ++ (decimal route.1 ++ codes "\n"))

abbrev pub invariant-loop-network : goal.invariant-loop-network
invariant-loop-network g l =
    (goal.iterator-loop-network g).can_next l.network-iterator
    × (goal.iterator-loop-network g).is_finite l.network-iterator
    × (string_bytes l.text ++ flat_map line l.network-iterator ≡ flat_map line (prefix_pairs ipv4_back (listing l.table.entries)))
