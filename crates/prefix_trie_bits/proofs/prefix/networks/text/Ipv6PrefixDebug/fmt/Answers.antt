-- The debug text of an IPv6 network has its groups in full, since the address has the segments of the number.
use Rattle.std.proofs.Common.{◌≡◌, ◌∙◌, arith}
use Rattle.std.proofs.lemmas.Grind.{common_steps}
use Rattle.std.specs.Int.{w128, to_be_bytes}
use Rattle.std.specs.Net.Addr.{IsIpv6OfBits, segments_of}
use Rattle.prefix_trie_bits.proofs.prefix.networks.text.Ipv6PrefixDebug.fmt.Goals as goal

pub returns : goal.returns
unfolding IsIpv6OfBits
returns g c =
    let segments : c.segments-segments.result ≡ segments_of (to_be_bytes w128 c.args.self.now.0) = c.segments-segments.ensures ∙ c.address.ensures.value in
    grind (arith, common_steps)
