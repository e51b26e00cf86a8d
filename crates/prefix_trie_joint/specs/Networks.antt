-- Networks of both families as bit strings: the family, 0 for IPv4 and 1 for IPv6, and then the path. This project's own.
use Rattle.std.specs.Prelude.{ℕ, Bool, true, false, List, [], ◌∷◌, nat_le}
use Rattle.std.specs.declared.net.ip_addr.IpAddr.{IpAddr}
use Rattle.std.specs.declared.net.ip_addr.IpAddr.TheVariants as Ip
use Rattle.std.specs.Net.Addr.{ipv4_bits, ipv6_bits, IsIpv4OfBits, IsIpv6OfBits}
use Rattle.prefix_trie_bits.specs.Networks.{network_path, network_back, lowest_address, highest_address, HasNoHostBits}
use Rattle.prefix_trie_joint.specs.declared.prefix.IpPrefix.{IpPrefix}
use Rattle.prefix_trie_joint.specs.declared.prefix.IpPrefix.TheVariants.{V4, V6}

-- the bit string of a network
abbrev pub ip_path : IpPrefix → List Bool
ip_path (V4 network) = false ∷ network_path 32 network
ip_path (V6 network) = true ∷ network_path 128 network

-- the network with a bit string, without host bits; no network has the empty one
abbrev pub ip_back : List Bool → IpPrefix
ip_back [] = V4 (network_back 32 [])
ip_back (false ∷ s) = V4 (network_back 32 s)
ip_back (true ∷ s) = V6 (network_back 128 s)

-- how many bits of the address count
abbrev pub ip_len : IpPrefix → ℕ
ip_len (V4 network) = network.1
ip_len (V6 network) = network.1

-- how many bits an address of its family has
abbrev pub ip_width : IpPrefix → ℕ
ip_width (V4 network) = 32
ip_width (V6 network) = 128

-- whether it is an IPv4 network
abbrev pub is_ip_of_ipv4 : IpPrefix → Bool
is_ip_of_ipv4 (V4 network) = true
is_ip_of_ipv4 (V6 network) = false

-- whether an address has at least this many bits
abbrev pub fits_width : IpAddr → ℕ → Bool
fits_width (Ip.V4 address) len = nat_le len 32
fits_width (Ip.V6 address) len = nat_le len 128

-- the network of an address and a length
abbrev pub ip_of_address : IpAddr → ℕ → IpPrefix
ip_of_address (Ip.V4 address) len = V4 (ipv4_bits address, len)
ip_of_address (Ip.V6 address) len = V6 (ipv6_bits address, len)

-- the network of one address
abbrev pub ip_host : IpAddr → IpPrefix
ip_host (Ip.V4 address) = V4 (ipv4_bits address, 32)
ip_host (Ip.V6 address) = V6 (ipv6_bits address, 128)

-- the network with zeros for its host bits
abbrev pub lowest_ip : IpPrefix → IpPrefix
lowest_ip (V4 network) = V4 (lowest_address 32 network, network.1)
lowest_ip (V6 network) = V6 (lowest_address 128 network, network.1)

-- the network with ones for its host bits
abbrev pub highest_ip : IpPrefix → IpPrefix
highest_ip (V4 network) = V4 (highest_address 32 network, network.1)
highest_ip (V6 network) = V6 (highest_address 128 network, network.1)

-- each host bit is 0
abbrev pub HasNoIpHostBits : IpPrefix → Type 0
HasNoIpHostBits (V4 network) = HasNoHostBits 32 network
HasNoIpHostBits (V6 network) = HasNoHostBits 128 network

-- the address of a network
abbrev pub IsIpOf : IpPrefix → IpAddr → Type 0
IsIpOf (V4 network) (Ip.V4 address) = IsIpv4OfBits address network.0
IsIpOf (V4 network) (Ip.V6 address) = ⊥
IsIpOf (V6 network) (Ip.V4 address) = ⊥
IsIpOf (V6 network) (Ip.V6 address) = IsIpv6OfBits address network.0
