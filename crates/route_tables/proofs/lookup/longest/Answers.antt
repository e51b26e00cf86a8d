-- The match that the map returns is the longest match, and its network has the path of the match.
use Rattle.prefix_trie_joint.specs.Joined.{entries_of}
use Rattle.prefix_trie_joint.specs.Networks.{ip_path}
use Rattle.route_tables.proofs.Paths.{longest_is}
use Rattle.route_tables.proofs.lookup.longest.Goals as goal

pub returns-clause-longest : goal.returns-clause-longest
returns-clause-longest c = longest_is c.lookup_laws.ensures (entries_of c.args.table.now) c.stored_paths.ensures (ip_path c.args.address.now) c.get_lpm.result c.get_lpm.ensures
