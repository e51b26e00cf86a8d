-- The IPv6 address that `network` returns has the bits of the prefix and then zeros, which determine its number.
use Rattle.std.proofs.Common.{◌≡◌, ℕ, ap, ◌∙◌, subst}
use Rattle.std.specs.Net.Addr.{IsIpv6OfBits}
use Rattle.prefix_trie_bits.proofs.Networks.Ends.{number_is}
use Rattle.prefix_trie_bits.proofs.prefix.networks.Ipv6Prefix.network.Goals as goal

pub returns : goal.returns
returns c =
    let addr : c.self.inside.addr ≡ c.args.self.now.0 = ap (λ p. p.0) c.self.view_is in
    let len : c.from.result ≡ c.args.self.now.1 = c.from.ensures ∙ ap (λ p. p.1) c.self.view_is in
    let bits = rw (addr, len) at c.keep.ensures.value in
    subst (λ (n : ℕ). IsIpv6OfBits c.from_bits.result n) (number_is 128 c.keep.result _ c.keep.ensures.key bits) c.from_bits.ensures
