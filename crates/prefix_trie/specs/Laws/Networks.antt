-- The paths of IP networks, as numbers: for `network_laws`. This project's own.
use Rattle.std.specs.Prelude.{◌≡◌, ℕ, ◌-◌, ◌^◌, ◌/◌, ◌<◌, ◌≤◌, Option, IfSome, nat_eq}
use Rattle.std.specs.Option.{option_map}
use Rattle.prefix_trie_bits.specs.Model.Bits.{begins, number}
use Rattle.prefix_trie.specs.Networks.{ipv4_address, ipv4_path, ipv6_address, ipv6_path}

pub record NetworkLaws : Type 0 where
  -- the path of the network of one address is that address
  pub ipv4_host : (addr : ℕ) → ipv4_path (addr, 32) ≡ ipv4_address addr
  pub ipv6_host : (addr : ℕ) → ipv6_path (addr, 128) ≡ ipv6_address addr
  -- a network contains an address exactly if the numbers of their first bits are the same
  pub ipv4_contains : (network addr len : ℕ) → network < 2 ^ 32 → addr < 2 ^ 32 → len ≤ 32
      → begins (ipv4_path (network, len)) (ipv4_address addr) ≡ nat_eq (network / 2 ^ (32 - len)) (addr / 2 ^ (32 - len))
  pub ipv6_contains : (network addr len : ℕ) → network < 2 ^ 128 → addr < 2 ^ 128 → len ≤ 128
      → begins (ipv6_path (network, len)) (ipv6_address addr) ≡ nat_eq (network / 2 ^ (128 - len)) (addr / 2 ^ (128 - len))
  -- the bits of a number of addresses are those of that number
  pub ipv4_count : (count : Option ℕ) → IfSome count (λ n. n < 2 ^ 32) → option_map (λ n. number (ipv4_address n)) count ≡ count
  pub ipv6_count : (count : Option ℕ) → IfSome count (λ n. n < 2 ^ 128) → option_map (λ n. number (ipv6_address n)) count ≡ count
