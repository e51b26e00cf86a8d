-- The addresses that are read from the lines of texts, without a table. This project's own.
use Rattle.std.specs.Prelude.{◌≡◌, ℕ, Bool, false, cond, All, List, [], ◌∷◌}
use Rattle.std.specs.Option.{is_some}
use Rattle.prefix_trie.specs.Terms.{number, shortest_match}
use Rattle.address_ranges.specs.Breaks.{has_address}
use Rattle.address_ranges.specs.Builders.{gathered}
use Rattle.address_ranges.specs.declared.joint.JointAddressSet.{JointAddressSet}
use Rattle.prefix_trie_joint_ops.specs.Smallest.{IsAddress}
use Rattle.route_tables.specs.Loads.{with_routes}
use Rattle.route_tables.specs.Routes.{Route}
use Rattle.route_tables.specs.Tables.{Values}
use Rattle.route_tables.specs.declared.address_list.AddressList.{AddressList}

-- whether a question is an address of IPv4 or of IPv6: it is the bit of a family and then the bits of the address
abbrev pub is_in : (ℕ → Bool) → (ℕ → Bool) → List Bool → Bool
is_in ipv4 ipv6 [] = false
is_in ipv4 ipv6 (family ∷ q) = cond family (ipv6 (number q)) (ipv4 (number q))

-- the addresses are those that some network of a table contains
abbrev pub AreCovered : Values → (List Bool → Bool) → Type 0
AreCovered m has = (q : List Bool) → IsAddress q → has q ≡ is_some (shortest_match m q)

-- a list that is being read has the addresses that a table covers
abbrev pub Covers : Values → AddressList → Type 0
Covers m list = AreCovered m (is_in (gathered list.ipv4) (gathered list.ipv6))

-- a set has them
abbrev pub IsOfSet : {A : Type 0} → Values → JointAddressSet A → Type 0
IsOfSet m set = AreCovered m (is_in (has_address set.ipv4) (has_address set.ipv6))

-- a list gets the addresses of routes, and notes whether one has a value that is not empty
pub record AddsRoutes (before : AddressList) (routes : List Route) (after : AddressList) : Type 0 where
  pub covers : (m : Values) → Covers m before → Covers (with_routes routes m) after
  pub no_values : after.has_values ≡ false → (before.has_values ≡ false) × All (λ route. route.1 ≡ []) routes
