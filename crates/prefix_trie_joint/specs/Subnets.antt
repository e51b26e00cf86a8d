-- The networks of one length inside a network of either family. This project's own.
use Rattle.std.specs.Prelude.{ℕ, List, map}
use Rattle.prefix_trie_bits.specs.Networks.{subnets_of}
use Rattle.prefix_trie_joint.specs.declared.prefix.IpPrefix.{IpPrefix}
use Rattle.prefix_trie_joint.specs.declared.prefix.IpPrefix.TheVariants.{V4, V6}
use Rattle.prefix_trie_joint.specs.declared.prefix.subnets.Subnets.{Subnets}
use Rattle.prefix_trie_joint.specs.declared.prefix.subnets.Subnets.TheVariants as Left

-- from its lowest address on, two for each further bit
abbrev pub ip_subnets_of : IpPrefix → ℕ → List IpPrefix
ip_subnets_of (V4 network) len = map V4 (subnets_of 32 network len)
ip_subnets_of (V6 network) len = map V6 (subnets_of 128 network len)

-- what a walk over them has left
abbrev pub subnets_left : Subnets → List IpPrefix
subnets_left (Left.V4 networks) = map V4 networks
subnets_left (Left.V6 networks) = map V6 networks
