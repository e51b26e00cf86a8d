-- Networks of a table: their texts, and the networks of a range of addresses. This project's own.
use Rattle.std.specs.Prelude.{◌≡◌, ◌==◌, ◌≤◌, ℕ, All, Bool, true, false, List, [], ◌∷◌, map}
use Rattle.std.specs.List.{after_first, before_first, list_any}
use Rattle.std.specs.Net.Addr.{ipv4_bits, ipv6_bits}
use Rattle.std.specs.Net.Grammar.{IsIpText}
use Rattle.std.specs.declared.net.ip_addr.IpAddr.{IpAddr}
use Rattle.std.specs.declared.net.ip_addr.IpAddr.TheVariants as Ip
use Rattle.std.specs.declared.net.ipv4_addr.Ipv4Addr.{Ipv4Addr}
use Rattle.std.specs.declared.net.ipv6_addr.Ipv6Addr.{Ipv6Addr}
use Rattle.prefix_trie_bits.specs.Networks.{network_back, network_path}
use Rattle.address_ranges.specs.Networks.{AreFewest, is_between}
use Rattle.prefix_trie_joint.specs.Networks.{ip_host, lowest_ip}
use Rattle.prefix_trie_joint.specs.Texts.{IsIpNetworkText}
use Rattle.prefix_trie_joint.specs.declared.prefix.IpPrefix.{IpPrefix}
use Rattle.prefix_trie_joint.specs.declared.prefix.IpPrefix.TheVariants.{V4, V6}
use Rattle.route_tables.specs.declared.network.HostBits.{HostBits}
use Rattle.route_tables.specs.declared.network.HostBits.TheVariants.{Cleared, Refused}
use Rattle.route_tables.specs.declared.range.Networks.{Networks}
use Rattle.route_tables.specs.declared.range.Networks.TheVariants.{Many, One}

-- whether a text has a slash
abbrev pub has_slash : List ℕ → Bool
has_slash text = list_any (λ b. b == 47) text

-- whether a text has a hyphen
abbrev pub has_hyphen : List ℕ → Bool
has_hyphen text = list_any (λ b. b == 45) text

-- a network that is written is read as itself if it has no host bits; host bits are cleared or refused
abbrev pub IsReadAs : HostBits → IpPrefix → IpPrefix → Type 0
IsReadAs Refused written network = (network ≡ written) × (written ≡ lowest_ip written)
IsReadAs Cleared written network = network ≡ lowest_ip written

-- with a slash, the text is that of a network; without one, it is an address, the network of which has all its bits
abbrev pub IsTextBySlash : Bool → HostBits → List ℕ → IpPrefix → Type 0
IsTextBySlash true host_bits text network = (written : IpPrefix) × IsIpNetworkText text written × IsReadAs host_bits written network
IsTextBySlash false host_bits text network = (address : IpAddr) × IsIpText text address × (network ≡ ip_host address)

-- the text is that of a network, or of an address
abbrev pub IsNetworkText : HostBits → List ℕ → IpPrefix → Type 0
IsNetworkText host_bits text network = IsTextBySlash (has_slash text) host_bits text network

-- networks are the fewest that cover the addresses from first to last, and none has host bits
abbrev pub AreFewestFor : ℕ → ℕ → ℕ → List (ℕ × ℕ) → Type 0
AreFewestFor width first last networks =
    AreFewest width (is_between first last) (map (network_path width) networks) × All (λ n. network_back width (network_path width n) ≡ n) networks

-- the same for the addresses from an IPv4 address to another that is not before it
abbrev pub AreOfIpv4Range : Ipv4Addr → Ipv4Addr → List IpPrefix → Type 0
AreOfIpv4Range first last networks =
    (ipv4_bits first ≤ ipv4_bits last) × ((ipv4 : List (ℕ × ℕ)) × (networks ≡ map V4 ipv4) × AreFewestFor 32 (ipv4_bits first) (ipv4_bits last) ipv4)

-- the same for IPv6 addresses
abbrev pub AreOfIpv6Range : Ipv6Addr → Ipv6Addr → List IpPrefix → Type 0
AreOfIpv6Range first last networks =
    (ipv6_bits first ≤ ipv6_bits last) × ((ipv6 : List (ℕ × ℕ)) × (networks ≡ map V6 ipv6) × AreFewestFor 128 (ipv6_bits first) (ipv6_bits last) ipv6)

-- the same for addresses of one family; no range has ends of both
abbrev pub AreOfRange : IpAddr → IpAddr → List IpPrefix → Type 0
AreOfRange (Ip.V4 first) (Ip.V4 last) networks = AreOfIpv4Range first last networks
AreOfRange (Ip.V6 first) (Ip.V6 last) networks = AreOfIpv6Range first last networks
AreOfRange (Ip.V4 first) (Ip.V6 last) networks = ⊥
AreOfRange (Ip.V6 first) (Ip.V4 last) networks = ⊥

-- two texts are those of the first and the last address of a range
abbrev pub AreOfEnds : List ℕ → List ℕ → List IpPrefix → Type 0
AreOfEnds before after networks = (first : IpAddr) × (last : IpAddr) × IsIpText before first × IsIpText after last × AreOfRange first last networks

-- with a hyphen, the text denotes the networks of a range; without one, it denotes one network
abbrev pub AreOfTextByHyphen : Bool → HostBits → List ℕ → List IpPrefix → Type 0
AreOfTextByHyphen true host_bits text networks = AreOfEnds (before_first (λ b. b == 45) text) (after_first (λ b. b == 45) text) networks
AreOfTextByHyphen false host_bits text networks = (network : IpPrefix) × IsNetworkText host_bits text network × (networks ≡ network ∷ [])

-- the text denotes these networks
abbrev pub AreOfText : HostBits → List ℕ → List IpPrefix → Type 0
AreOfText host_bits text networks = AreOfTextByHyphen (has_hyphen text) host_bits text networks

-- the networks of a result, in order
abbrev pub all_networks : Networks → List IpPrefix
all_networks (One network) = network ∷ []
all_networks (Many networks) = networks.items
