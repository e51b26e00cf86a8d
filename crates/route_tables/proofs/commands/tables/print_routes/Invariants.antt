-- The invariant of `print_routes`: the lines of the entries so far are printed.
use Rattle.std.proofs.Common.{flat_map, take}
use Rattle.std.specs.Io.KnownBytes.{Appends}
use Rattle.prefix_trie_joint.specs.declared.prefix.IpPrefix.{IpPrefix}
use Rattle.route_tables.specs.Printed.{IsConversion}
use Rattle.route_tables.proofs.Printing.{entry_line}
use Rattle.route_tables.proofs.commands.tables.print_routes.Given as goal

abbrev pub invariant-loop-entry : goal.invariant-loop-entry
invariant-loop-entry g l =
    (ip : g.row.P.Denot → IpPrefix) → IsConversion g.P.Into.converts ip → Appends l.fn.out l.out (flat_map (entry_line ip) (take l.entry-index l.routes))
