-- An IPv6 network is written as its address, a slash and its length: the address has the segments of the number.
use Rattle.std.proofs.Common.{◌≡◌, arith}
use Rattle.std.proofs.lemmas.Grind.{common_steps}
use Rattle.std.specs.Int.{w128, to_be_bytes}
use Rattle.std.specs.Net.Addr.{IsIpv6OfBits, segments_of}
use Rattle.prefix_trie_bits.proofs.prefix.networks.text.Ipv6PrefixDisplay.fmt.Goals as goal

pub returns-clause-writes : goal.returns-clause-writes
unfolding IsIpv6OfBits
returns-clause-writes g c =
    let segments : c.address.result.segments ≡ segments_of (to_be_bytes w128 c.args.self.now.0) = c.address.ensures.value in
    grind (arith, common_steps)

pub returns-clause-styled : goal.returns-clause-styled
unfolding IsIpv6OfBits
returns-clause-styled g c =
    let segments : c.address.result.segments ≡ segments_of (to_be_bytes w128 c.args.self.now.0) = c.address.ensures.value in
    grind (arith, common_steps)
