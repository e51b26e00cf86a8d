-- An IPv6 network's parent is made from its path without the last bit, if it has a bit.
use Rattle.std.proofs.Common.{◌≡◌, ◌-◌, ◌<◌, ◌≤◌, ap, ◌∙◌, subst, arith}
use Rattle.prefix_trie_bits.proofs.Networks.Parents.{parent_is}
use Rattle.prefix_trie_bits.proofs.prefix.networks.Ipv6Prefix.parent.Goals as goal

pub returns : goal.returns
returns c =
    let addr : c.self.inside.addr ≡ c.args.self.now.0 = ap (λ p. p.0) c.self.view_is in
    let len : c.self.inside.len ≡ c.args.self.now.1 = ap (λ p. p.1) c.self.view_is in
    let within : c.args.self.now.1 ≤ 128 = subst (λ n. n ≤ 128) len c.self.invariant in
    let shorter : c.self.inside.len - 1 ≡ c.args.self.now.1 - 1 = ap (λ n. n - 1) len in
    let positive : 0 < c.args.self.now.1 = omega (arith, len, c.if-self-eq0.false) in
    (positive, parent_is 128 c.args.self.now c.keep-addr.result c.self.inside.addr (c.self.inside.len - 1) c.from.result addr shorter (c.from.ensures ∙ shorter) within c.keep-addr.ensures.key c.keep-addr.ensures.value)
