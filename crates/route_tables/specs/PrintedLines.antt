-- The lines that print routes, and what is read from them, as statements for contracts. This project's own.
use Rattle.std.specs.Prelude.{◌≡◌, ℕ, All, List}
use Rattle.prefix_trie_joint.specs.Networks.{lowest_ip}
use Rattle.prefix_trie_joint.specs.Texts.{IsIp}
use Rattle.route_tables.specs.Lines.{table_lines}
use Rattle.route_tables.specs.Loads.{strict}
use Rattle.route_tables.specs.Printed.{routes_text}
use Rattle.route_tables.specs.Routes.{HasRoutes, IsFirstBad, IsLineValue, Route}

-- a route that a table can have: the network fits its family and has no host bits, and the value is one of a line
pub record IsTableRoute (route : Route) : Type 0 where
  pub fits : IsIp route.0
  pub bare : route.0 ≡ lowest_ip route.0
  pub value : IsLineValue route.1

pub record PrintedLaws : Type 0 where
  -- what is read from the lines of routes is these routes
  pub read_back : (routes read : List Route) → All IsTableRoute routes → HasRoutes strict (table_lines (routes_text routes)) read → read ≡ routes
  -- and none of these lines is bad
  pub none_bad : (routes : List Route) (index : ℕ) → All IsTableRoute routes → ¬ (IsFirstBad strict (table_lines (routes_text routes)) index)
