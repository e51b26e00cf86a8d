-- Lists without values, and the fewest networks of their addresses. This project's own.
use Rattle.std.specs.Prelude.{◌≡◌, ℕ, List, [], map}
use Rattle.prefix_trie.specs.Terms.{no_entries}
use Rattle.prefix_trie_bits.specs.Networks.{network_back}
use Rattle.prefix_trie_joint.specs.Joined.{joined}
use Rattle.route_tables.specs.Fewest.{IsFewest}
use Rattle.route_tables.specs.Loads.{with_routes}
use Rattle.route_tables.specs.Routes.{HasRoutes, Route}
use Rattle.route_tables.specs.Tables.{Values}
use Rattle.route_tables.specs.declared.load.Reading.{Reading}
use Rattle.route_tables.specs.declared.plain_lists.FewestNetworks.{FewestNetworks}

-- networks, each with the empty value
abbrev pub without_value : List (ℕ × ℕ) → List ((ℕ × ℕ) × List ℕ)
without_value networks = map (λ network. (network, [])) networks

-- The lines have routes, and the networks of each family are the fewest that give each address the value of its longest match
-- in the table of these routes.
pub record AreFewestOfLines (reading : Reading) (lines : List (List ℕ)) (fewest : FewestNetworks) : Type 0 where
  pub routes : List Route
  pub has : HasRoutes reading lines routes
  pub of_ipv4 : Values
  pub of_ipv6 : Values
  pub entries : joined of_ipv4 of_ipv6 ≡ with_routes routes no_entries
  pub ipv4 : IsFewest 32 (network_back 32) of_ipv4 (without_value fewest.ipv4.items)
  pub ipv6 : IsFewest 128 (network_back 128) of_ipv6 (without_value fewest.ipv6.items)
