-- An IPv4 network is written as its address, a slash and its length: the address has the octets of the number.
use Rattle.std.proofs.Common.{◌≡◌, subst}
use Rattle.std.specs.Fmt.{WritesOnOk, WritesStyledOnOk, formatter_spec, padded}
use Rattle.std.specs.Int.{w32, to_be_bytes}
use Rattle.std.specs.Net.Addr.{IsIpv4OfBits}
use Rattle.prefix_trie_bits.proofs.Texts.Octets.{network_read}
use Rattle.prefix_trie_bits.proofs.prefix.networks.text.Ipv4PrefixDisplay.fmt.Goals as goal

pub returns-clause-writes : goal.returns-clause-writes
unfolding IsIpv4OfBits
returns-clause-writes g c =
    let octets : c.octets.result ≡ to_be_bytes w32 c.args.self.now.0 = cc in
    let len : c.self.inside.len ≡ c.args.self.now.1 = cc in
    let eq = network_read c.in-Ok.text.now c.put_network-start.new.text c.octets.result c.put_network-start.result c.self.inside.len c.args.self.now c.put_network-start.array_long c.put_network-start.ensures.value octets len c.in-Ok.ensures.cases.0 in
    subst (λ t. WritesOnOk g.F.Write.write_str_gives c.args.f.now c.pad.result t c.pad.new.self) eq c.pad.ensures.writes

pub returns-clause-styled : goal.returns-clause-styled
unfolding IsIpv4OfBits
returns-clause-styled g c =
    let octets : c.octets.result ≡ to_be_bytes w32 c.args.self.now.0 = cc in
    let len : c.self.inside.len ≡ c.args.self.now.1 = cc in
    let eq = network_read c.in-Ok.text.now c.put_network-start.new.text c.octets.result c.put_network-start.result c.self.inside.len c.args.self.now c.put_network-start.array_long c.put_network-start.ensures.value octets len c.in-Ok.ensures.cases.0 in
    subst (λ t. WritesStyledOnOk g.F.Write.write_str_gives c.args.f.now c.pad.result (padded (formatter_spec c.args.f.now) t) c.pad.new.self) eq c.pad.ensures.styled
