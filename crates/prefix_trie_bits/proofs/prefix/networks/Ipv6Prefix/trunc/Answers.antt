-- The address of an IPv6 network without host bits has the bits of its path and then zeros, which determine its number.
use Rattle.std.proofs.Common.{◌≡◌, ap, ◌∙◌}
use Rattle.prefix_trie_bits.proofs.Networks.Ends.{number_is}
use Rattle.prefix_trie_bits.proofs.prefix.networks.Ipv6Prefix.trunc.Goals as goal

pub returns : goal.returns
returns c =
    let addr : c.self.inside.addr ≡ c.args.self.now.0 = ap (λ p. p.0) c.self.view_is in
    let len : c.self.inside.len ≡ c.args.self.now.1 = ap (λ p. p.1) c.self.view_is in
    let kept : c.from.result ≡ c.args.self.now.1 = c.from.ensures ∙ len in
    let bits = rw (addr, kept) at c.keep.ensures.value in
    λ i. (number_is 128 c.keep.result _ c.keep.ensures.key bits i, len i)
