-- The entries of a table all of whose addresses are in a set, and the networks of a set. This project's own.
use Rattle.std.specs.Prelude.{◌≡◌, ◌↔◌, ℕ, All, Bool, true, List, Option, filter, map, Contains}
use Rattle.std.specs.Io.KnownBytes.{Appends}
use Rattle.prefix_trie.specs.Terms.{listing, prefix_pairs, Entries}
use Rattle.prefix_trie_bits.specs.Networks.{network_back, network_path}
use Rattle.address_ranges.specs.Breaks.{has_address}
use Rattle.address_ranges.specs.Networks.{AreFewest, IsInside}
use Rattle.prefix_trie_joint.specs.Joined.{both_networks}
use Rattle.route_tables.specs.Printed.{networks_text}

-- the entries of a map all of whose addresses pass a test, in listing order
pub record AreCoveredEntries {P T : Type 0} (width : ℕ) (back : List Bool → P) (m : Entries T) (test : ℕ → Bool) (entries : List (P × T)) : Type 0 where
  pub keep : List Bool × T → Bool
  pub listed : entries ≡ prefix_pairs back (filter keep (listing m))
  pub exact : (e : List Bool × T) → Contains (listing m) e → (keep e ≡ true) ↔ IsInside width test e.0

-- networks are the fewest that cover the addresses of a set, and none has host bits
abbrev pub AreFewestOfSet : {P : Type 0} → ℕ → (P → List Bool) → (List Bool → P) → List ℕ → List P → Type 0
AreFewestOfSet width path back set networks = AreFewest width (has_address set) (map path networks) × All (λ network. back (path network) ≡ network) networks

-- the fewest networks of a set of each family are printed, those of IPv4 first
abbrev pub PrintsFewest : List ℕ → List ℕ → Option (List ℕ) → Option (List ℕ) → Type 0
PrintsFewest set4 set6 before after =
    (ipv4 : List (ℕ × ℕ)) × (ipv6 : List (ℕ × ℕ)) × AreFewestOfSet 32 (network_path 32) (network_back 32) set4 ipv4 × AreFewestOfSet 128 (network_path 128) (network_back 128) set6 ipv6
    × Appends before after (networks_text (both_networks ipv4 ipv6))
