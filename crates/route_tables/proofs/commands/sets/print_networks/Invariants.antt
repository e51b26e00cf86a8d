-- The invariant of `print_networks`: the lines of the items so far are printed.
use Rattle.std.proofs.Common.{flat_map, take}
use Rattle.std.specs.Io.KnownBytes.{Appends}
use Rattle.prefix_trie_joint.specs.declared.prefix.IpPrefix.{IpPrefix}
use Rattle.route_tables.specs.Printed.{network_line, IsConversion}
use Rattle.route_tables.proofs.commands.sets.print_networks.Given as goal

abbrev pub invariant-loop-network : goal.invariant-loop-network
invariant-loop-network g l = (ip : g.row.P.Denot → IpPrefix) → IsConversion g.P.Into.converts ip → Appends l.fn.out l.out (flat_map (λ network. network_line (ip network)) (take l.network-index l.networks))
