-- The walk over the IPv4 networks of a length starts at the lowest address and ends within the addresses.
use Rattle.std.proofs.Common.{◌≡◌, ◌+◌, ◌-◌, ◌*◌, ◌^◌, ◌<◌, Some, ap, ◌∙◌, arith}
use Rattle.prefix_trie_bits.specs.Networks.{networks_left, subnets_of}
use Rattle.prefix_trie_bits.proofs.Networks.Subnets.{first_left, shorter}
use Rattle.prefix_trie_bits.proofs.prefix.networks.Ipv4Prefix.subnets.Goals as goal

-- what is left at the start, at the network's own numbers
starts : (c : goal.After-host_u32) → (networks_left 32 c.args.len (Some c.keep.result) c.host_u32.result ≡ subnets_of 32 (c.self.inside.addr, c.self.inside.len) c.args.len)
    × (c.keep.result + c.host_u32.result * 2 ^ (32 - c.args.len) < 2 ^ 32)
starts c =
    first_left 32 c.self.inside.addr c.self.inside.len c.args.len c.keep.result c.host_u32.result (omega (arith, c.if-len-self.false)) c.if-len-gt32.false (omega arith) c.keep.ensures.key
    (rw c.from.ensures at c.keep.ensures.value) (c.host_u32.ensures ∙ ap (λ k. 2 ^ k - 1) (shorter 32 c.self.inside.len c.args.len (omega (arith, c.if-len-self.false)) c.if-len-gt32.false))

pub invariant_of-result : goal.invariant_of-result
invariant_of-result c = (c.if-len-gt32.false, (starts c).1)

pub returns : goal.returns
returns c =
    let len : c.self.inside.len ≡ c.args.self.now.1 = ap (λ p. p.1) c.self.view_is in
    (omega (arith, len, c.if-len-self.false), c.if-len-gt32.false, (starts c).0 ∙ ap (λ p. subnets_of 32 p c.args.len) c.self.view_is)
