-- The invariant of the loop: adding the routes still to come gives the table of all routes.
use Rattle.std.proofs.Common.{◌≡◌, drop}
use Rattle.prefix_trie.specs.Terms.{ipv4_path, no_entries, put_all}
use Rattle.prefix_trie_tests.proofs.examples.forwarding.table_of.Given as goal

abbrev pub invariant-loop-route : goal.invariant-loop-route
invariant-loop-route g l = put_all ipv4_path (drop l.route-index l.routes) l.table.entries ≡ put_all ipv4_path l.routes no_entries
