-- Networks of one family are ordered as a map lists them, and IPv4 networks come before IPv6 networks.
use Rattle.std.proofs.Common.{refl}
use Rattle.prefix_trie_bits.proofs.Networks.Order.{network_order_laws}
use Rattle.prefix_trie_joint.specs.declared.prefix.IpPrefix.TheVariants.{V4, V6}
use Rattle.prefix_trie_joint.proofs.laws.ip_order_laws.Goals as goal

pub returns : goal.returns
returns c (V4 a) (V4 b) h k m n = network_order_laws.ipv4.listing a b h.1 k.1 m n
returns c (V4 a) (V6 b) h k m n = refl
returns c (V6 a) (V4 b) h k m n = refl
returns c (V6 a) (V6 b) h k m n = network_order_laws.ipv6.listing a b h.1 k.1 m n
