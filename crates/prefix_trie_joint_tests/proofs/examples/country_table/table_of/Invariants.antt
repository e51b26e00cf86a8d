-- The invariant of the loop: adding the networks still to come gives the table of all networks.
use Rattle.std.proofs.Common.{◌≡◌, drop}
use Rattle.prefix_trie.specs.Terms.{no_entries, put_all}
use Rattle.prefix_trie_joint.specs.Joined.{entries_of}
use Rattle.prefix_trie_joint.specs.Networks.{ip_path}
use Rattle.prefix_trie_joint_tests.proofs.examples.country_table.table_of.Given as goal

abbrev pub invariant-loop-network : goal.invariant-loop-network
invariant-loop-network g l = put_all ip_path (drop l.network-index l.networks) (entries_of l.table) ≡ put_all ip_path l.networks no_entries
