-- IP networks as pairs of an address and a length, by the width of an address in bits. This project's own.
use Rattle.std.specs.Prelude.{◌≡◌, ℕ, ◌+◌, ◌-◌, ◌*◌, ◌^◌, ◌<◌, ◌≤◌, ◌++◌, Bool, List, [], ◌∷◌, length, take, true, replicate, Option, None, Some}
use Rattle.std.proofs.Common.{zero, suc}
use Rattle.std.specs.declared.cmp.Ordering.{Ordering}
use Rattle.std.specs.Ordering.{nat_cmp, on, then_cmp}
use Rattle.prefix_trie_bits.specs.Model.Bits.{number, digits, zeros}

-- n ones
abbrev pub ones : ℕ → List Bool
ones n = replicate n true

-- the path: as many of the address's first bits as the length says
abbrev pub network_path : ℕ → ℕ × ℕ → List Bool
network_path width network = take network.1 (digits width network.0)

-- the network with a path, without host bits
abbrev pub network_back : ℕ → List Bool → ℕ × ℕ
network_back width s = (number (s ++ zeros (width - length s)), length s)

-- the lowest and the highest address: the path, and then zeros or ones
abbrev pub lowest_address : ℕ → ℕ × ℕ → ℕ
lowest_address width network = number (network_path width network ++ zeros (width - network.1))

abbrev pub highest_address : ℕ → ℕ × ℕ → ℕ
highest_address width network = number (network_path width network ++ ones (width - network.1))

-- each host bit is 0
abbrev pub HasNoHostBits : ℕ → ℕ × ℕ → Type 0
HasNoHostBits width network = network.0 ≡ lowest_address width network

-- n networks of this length, the first at this address, each at the address after the end of the one before
unfoldable pub networks_from : ℕ → ℕ → ℕ → ℕ → List (ℕ × ℕ)
networks_from width len address zero = []
networks_from width len address (suc n) = (address, len) ∷ networks_from width len (address + 2 ^ (width - len)) n

-- the networks of this length inside a network: from its lowest address on, two for each further bit
abbrev pub subnets_of : ℕ → ℕ × ℕ → ℕ → List (ℕ × ℕ)
subnets_of width network len = networks_from width len (lowest_address width network) (2 ^ (len - network.1))

-- what a walk over networks has left: the next one, if there is one, and so many more
abbrev pub networks_left : ℕ → ℕ → Option ℕ → ℕ → List (ℕ × ℕ)
networks_left width len None more = []
networks_left width len (Some address) more = networks_from width len address (suc more)

-- the walk's last network begins at an address
abbrev pub EndsWithin : ℕ → ℕ → Option ℕ → ℕ → Type 0
EndsWithin width len None more = len ≤ width
EndsWithin width len (Some address) more = (len ≤ width) × (address + more * 2 ^ (width - len) < 2 ^ width)

-- the order of networks: by address, and then by length
abbrev pub network_cmp : ℕ × ℕ → ℕ × ℕ → Ordering
network_cmp = then_cmp (on (λ network. network.0) nat_cmp) (on (λ network. network.1) nat_cmp)
