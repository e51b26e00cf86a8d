-- The networks of a range are those that `networks_of` returns for the numbers of its ends.
use Rattle.std.proofs.Common.{◌≡◌, ◌≤◌, map, rules, arith}
use Rattle.std.specs.Net.Addr.{ipv4_bits}
use Rattle.prefix_trie_joint.specs.declared.prefix.IpPrefix.TheVariants.{V4}
use Rattle.route_tables.proofs.Ranges.{fewest_for}
use Rattle.route_tables.proofs.range.ipv4_networks.Goals as goal

pub returns-clause-read : goal.returns-clause-read
returns-clause-read c =
    let items : c.in_ok-collect.field-0.items ≡ map V4 c.in_ok-networks.networks.items = search rules in
    let ordered : ipv4_bits c.args.first ≤ ipv4_bits c.args.last = omega (arith, c.to_bits-first.ensures, c.to_bits-last.ensures, c.if-last-first.false) in (
      ordered,
      (
        c.in_ok-networks.networks.items,
        items,
        fewest_for 32 c.to_bits-first.result c.to_bits-last.result (ipv4_bits c.args.first) (ipv4_bits c.args.last) c.in_ok-networks.networks.items
            c.to_bits-first.ensures c.to_bits-last.ensures c.to_bits-first.type_inv c.to_bits-last.type_inv
            c.in_ok-networks.ensures.fewest c.in_ok-networks.ensures.bare,
      ),
    )
