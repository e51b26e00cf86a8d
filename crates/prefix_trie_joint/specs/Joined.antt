-- The entries of both families as one finite map. This project's own.
use Rattle.std.specs.Prelude.{◌≡◌, ℕ, Bool, true, false, List, [], ◌∷◌, ◌++◌, map, Option, None, Some}
use Rattle.std.specs.FinMap.{contains_key, from_sorted}
use Rattle.prefix_trie.specs.Terms.{Entries, listing}
use Rattle.prefix_trie_joint.specs.declared.prefix.IpPrefix.{IpPrefix}
use Rattle.prefix_trie_joint.specs.declared.prefix.IpPrefix.TheVariants.{V4, V6}
use Rattle.prefix_trie_joint.specs.Networks.{ip_back, ip_path}
use Rattle.prefix_trie_joint.specs.declared.map.JointPrefixMap.{JointPrefixMap}
use Rattle.prefix_trie_joint.specs.declared.set.JointPrefixSet.{JointPrefixSet}

module _ {T : Type 0} where
  -- entries with the bit of a family before each key
  abbrev pub under : Bool → List (List Bool × T) → List (List Bool × T)
  under b es = map (λ e. (b ∷ e.0, e.1)) es

  -- the entries of an IPv4 map and of an IPv6 map as one finite map
  unfoldable pub joined : Entries T → Entries T → Entries T
  joined ipv4 ipv6 = from_sorted (under false (listing ipv4) ++ under true (listing ipv6))

  -- each key is the path of its network, as in every joint map
  abbrev pub AreIpKeys : Entries T → Type 0
  AreIpKeys m = (s : List Bool) → contains_key m s ≡ true → ip_path (ip_back s) ≡ s

  -- the pairs of both families, IPv4 first
  abbrev pub both : List ((ℕ × ℕ) × T) → List ((ℕ × ℕ) × T) → List (IpPrefix × T)
  both ipv4 ipv6 = map (λ e. (V4 e.0, e.1)) ipv4 ++ map (λ e. (V6 e.0, e.1)) ipv6

-- the networks of both families, IPv4 first
abbrev pub both_networks : List (ℕ × ℕ) → List (ℕ × ℕ) → List IpPrefix
both_networks ipv4 ipv6 = map V4 ipv4 ++ map V6 ipv6

-- the items of a walk, if there is one
abbrev pub items_of : {X : Type 0} → Option (List X) → List X
items_of None = []
items_of (Some items) = items

-- the entries of a joint map
abbrev pub entries_of : {T A : Type 0} → JointPrefixMap T A → Entries T
entries_of map = joined map.ipv4.entries map.ipv6.entries

-- the keys of a joint set, as entries with unit values
abbrev pub keys_of : {A : Type 0} → JointPrefixSet A → Entries (Unit {0})
keys_of set = joined set.ipv4.entries set.ipv6.entries
