-- What a call changes in the maps of both families. This project's own.
use Rattle.std.specs.Prelude.{◌≡◌, ℕ, ◌<◌, List, Bool, length}
use Rattle.std.specs.FinMap.{len}
use Rattle.prefix_trie.specs.Terms.{BoundsStorageGrowth, IsPacked, IsWhole, needed, network_path, no_entries, root_alone}
use Rattle.prefix_trie_bits.specs.Calls.SplitsOff.{SplitsOffInStorage}
use Rattle.prefix_trie_bits.specs.Calls.Storage.{StepByPath}
use Rattle.prefix_trie_bits.specs.Model.Blocks.{no_layout}
use Rattle.prefix_trie_bits.specs.Model.Space.{LeavesSpace}
use Rattle.prefix_trie_bits.specs.Model.Step.{Call, Reply}
use Rattle.prefix_trie_bits.specs.Model.Storage.{RemovesManyInStorage}
use Rattle.prefix_trie_table.specs.Model.Contents.{Contents, state, storage, stored_state}
use Rattle.prefix_trie_joint.specs.declared.prefix.IpPrefix.{IpPrefix}
use Rattle.prefix_trie_joint.specs.declared.prefix.IpPrefix.TheVariants.{V4, V6}
use Rattle.prefix_trie_joint.specs.declared.map.JointPrefixMap.{JointPrefixMap}
use Rattle.prefix_trie_joint.specs.declared.set.JointPrefixSet.{JointPrefixSet}

-- what contracts see of the maps of both families: the IPv4 map, and then the IPv6 map
abbrev pub maps_of : {T A : Type 0} → JointPrefixMap T A → Contents T × Contents T
maps_of map = (map.ipv4, map.ipv6)

-- the same of a set, as maps of units
abbrev pub sets_of : {A : Type 0} → JointPrefixSet A → Contents (Unit {0}) × Contents (Unit {0})
sets_of set = (set.ipv4, set.ipv6)

module _ {T : Type 0} where
  -- a change of one family: in the map of the network's family, R relates what was before to what is after, by the width and the path; the other map is equal, storage included
  abbrev pub OnFamily : IpPrefix → (ℕ → List Bool → Contents T → Contents T → Type 0) → Contents T × Contents T → Contents T × Contents T → Type 0
  OnFamily (V4 network) R old new = R 32 (network_path 32 network) old.0 new.0 × (new.1 ≡ old.1)
  OnFamily (V6 network) R old new = R 128 (network_path 128 network) old.1 new.1 × (new.0 ≡ old.0)

  -- a step of the model in the family of a network, storage included
  abbrev pub StepOnFamily : IpPrefix → (List Bool → Call (List Bool) T) → Reply (List Bool) T → Contents T × Contents T → Contents T × Contents T → Type 0
  StepOnFamily p call reply = OnFamily p (λ width q old new. StepByPath width (stored_state old) (call q) reply (stored_state new))

  -- the map of the family is stored as before, and the other one is equal
  abbrev pub StaysOnFamily : IpPrefix → Contents T × Contents T → Contents T × Contents T → Type 0
  StaysOnFamily p = OnFamily p (λ width q old new. stored_state new ≡ stored_state old)

  -- the same relation in both families, by the width
  abbrev pub OnEach : (ℕ → Contents T → Contents T → Type 0) → Contents T × Contents T → Contents T × Contents T → Type 0
  OnEach R old new = R 32 old.0 new.0 × R 128 old.1 new.1

  -- the same step of the model in both families, storage included
  abbrev pub StepOnEach : Call (List Bool) T → Reply (List Bool) T → Contents T × Contents T → Contents T × Contents T → Type 0
  StepOnEach call reply = OnEach (λ width old new. StepByPath width (stored_state old) call reply (stored_state new))

  -- the arrays grow by at most the headroom of their blocks, if the path is not empty
  abbrev pub GrowsWithin : ℕ → List Bool → Contents T → Contents T → Type 0
  GrowsWithin width q old new = 0 < length q → BoundsStorageGrowth (storage old) (storage new)

  -- a new map with this slot limit
  pub record IsNew (limit : ℕ) (map : Contents T) : Type 0 where
    pub entries : map.entries ≡ no_entries
    pub nodes : map.nodes ≡ root_alone
    pub space : map.space ≡ record { limit = limit; node_slots = 1; cell_slots = 0 }
    pub layout : map.layout ≡ no_layout

  -- what the split of one family leaves: the second map has its part, stored with the smallest blocks, and a new map for the other family
  abbrev pub SplitsOnFamily : IpPrefix → Contents T × Contents T → Contents T × Contents T → Contents T × Contents T → Type 0
  SplitsOnFamily (V4 network) old second new =
      SplitsOffInStorage (stored_state old.0) (network_path 32 network) (stored_state second.0) (stored_state new.0) × IsNew old.1.space.limit second.1 × (new.1 ≡ old.1)
  SplitsOnFamily (V6 network) old second new =
      SplitsOffInStorage (stored_state old.1) (network_path 128 network) (stored_state second.1) (stored_state new.1) × IsNew old.0.space.limit second.0 × (new.0 ≡ old.0)

  -- what `compact` leaves of a map: the nodes that its entries need, in the smallest blocks, none free
  pub record IsCompacted (old new : Contents T) : Type 0 where
    pub entries : new.entries ≡ old.entries
    pub nodes : new.nodes ≡ needed old.entries
    pub packed : IsPacked (state new) (storage new)
    pub limit : new.space.limit ≡ old.space.limit

  -- what `retain` leaves of a map, whatever its test: the nodes that the remaining entries need, and how they are stored
  pub record RetainsNeeded (old new : Contents T) : Type 0 where
    pub nodes : new.nodes ≡ needed new.entries
    pub space : LeavesSpace (len old.nodes) old.space new.space
    pub arrays : RemovesManyInStorage (state old) (state new) (storage old) (storage new)
    pub bounds_growth : BoundsStorageGrowth (storage old) (storage new)

  -- both maps have the same nodes, slots and blocks
  pub record AreStoredAlike (a b : Contents T) : Type 0 where
    pub nodes : b.nodes ≡ a.nodes
    pub space : b.space ≡ a.space
    pub layout : b.layout ≡ a.layout

  -- what holds of the maps of both families
  abbrev pub AreWhole : Contents T × Contents T → Type 0
  AreWhole maps = IsWhole 32 maps.0 × IsWhole 128 maps.1

  -- the slot limits of both families
  abbrev pub limits_of : Contents T × Contents T → ℕ × ℕ
  limits_of maps = (maps.0.space.limit, maps.1.space.limit)

  -- new maps with these slot limits
  abbrev pub AreNew : ℕ → ℕ → Contents T × Contents T → Type 0
  AreNew ipv4 ipv6 maps = IsNew ipv4 maps.0 × IsNew ipv6 maps.1
