-- The networks that share no address with those of a table. This project's own.
use Rattle.std.specs.Prelude.{◌≡◌, ℕ, ◌≤◌, Bool, true, List}
use Rattle.prefix_trie.specs.Terms.{begins, IsUncovered}
use Rattle.prefix_trie_bits.specs.Networks.{network_path}
use Rattle.address_ranges.specs.Networks.{first_address}
use Rattle.prefix_trie_joint.specs.Networks.{ip_len, ip_path, HasNoIpHostBits}
use Rattle.prefix_trie_joint.specs.declared.prefix.IpPrefix.{IpPrefix}
use Rattle.prefix_trie_joint.specs.declared.prefix.IpPrefix.TheVariants.{V4, V6}
use Rattle.prefix_trie_joint_ops.specs.Smallest.{IsAddress}
use Rattle.route_tables.specs.Tables.{Values}

-- no network of a table contains an address of the network
abbrev pub IsFree : Values → IpPrefix → Type 0
IsFree m network = (q : List Bool) → IsAddress q → begins (ip_path network) q ≡ true → IsUncovered m q

-- a free network of a length within another network
pub record IsFreeWithin (m : Values) (len : ℕ) (within network : IpPrefix) : Type 0 where
  pub long : ip_len network ≡ len
  pub inside : begins (ip_path within) (ip_path network) ≡ true
  pub free : IsFree m network

-- the first address of a network, as a number
abbrev pub first_ip : IpPrefix → ℕ
first_ip (V4 network) = first_address 32 (network_path 32 network)
first_ip (V6 network) = first_address 128 (network_path 128 network)

-- the first of these networks
pub record IsFirstFree (m : Values) (len : ℕ) (within network : IpPrefix) : Type 0 where
  pub is_free : IsFreeWithin m len within network
  pub bare : HasNoIpHostBits network
  pub first : (other : IpPrefix) → IsFreeWithin m len within other → first_ip network ≤ first_ip other
