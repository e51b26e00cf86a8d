-- Addresses and networks as strings of bits, for the contracts of callers. This project's own.
use Rattle.std.specs.Prelude.{ℕ, Bool, List}
use Rattle.prefix_trie_bits.specs.Model.Bits.{digits}
use Rattle.prefix_trie_bits.specs.Networks.{network_path, network_back}

-- the bits of an IPv4 address
abbrev pub ipv4_address : ℕ → List Bool
ipv4_address addr = digits 32 addr

-- the path of an IPv4 network, which contracts see as its address and its length
abbrev pub ipv4_path : ℕ × ℕ → List Bool
ipv4_path network = network_path 32 network

-- the IPv4 network with a path, without host bits
abbrev pub ipv4_back : List Bool → ℕ × ℕ
ipv4_back s = network_back 32 s

-- the bits of an IPv6 address
abbrev pub ipv6_address : ℕ → List Bool
ipv6_address addr = digits 128 addr

-- the path of an IPv6 network, which contracts see as its address and its length
abbrev pub ipv6_path : ℕ × ℕ → List Bool
ipv6_path network = network_path 128 network

-- the IPv6 network with a path, without host bits
abbrev pub ipv6_back : List Bool → ℕ × ℕ
ipv6_back s = network_back 128 s
