-- The walk over all covers begins with the shortest.
use Rattle.std.proofs.Common.{rules}
use Rattle.prefix_trie_joint.specs.Joined.{entries_of}
use Rattle.prefix_trie_joint.specs.Networks.{ip_path}
use Rattle.route_tables.proofs.Decisions.{first_of_covers}
use Rattle.route_tables.proofs.access.decisions.first_with.Goals as goal

pub loop-network-init : goal.loop-network-init
loop-network-init c = (tt, tt, first_of_covers (entries_of c.args.table.now) (ip_path c.args.address.now) c.args.rule.now _ (search rules))
