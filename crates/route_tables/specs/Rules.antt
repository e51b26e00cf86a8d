-- Tables of rules. This project's own.
use Rattle.std.specs.Prelude.{◌≡◌, ℕ, Bool, List, Some}
use Rattle.std.specs.FinMap.{get}
use Rattle.route_tables.specs.Routes.{IsRule}
use Rattle.route_tables.specs.Tables.{Values}

-- each network has a rule: `allow` or `deny`
abbrev pub HasRules : Values → Type 0
HasRules m = (s : List Bool) (value : List ℕ) → get m s ≡ Some value → IsRule value
