-- The networks whose value a line replaces by another. This project's own.
use Rattle.std.specs.Prelude.{◌≡◌, ℕ, ◌+◌, Bool, false, not, cond, List, [], ◌∷◌, ◌++◌, Option, None, Some, bytes_eq}
use Rattle.std.specs.FinMap.{get}
use Rattle.prefix_trie.specs.Terms.{put_all, with_entry}
use Rattle.prefix_trie_joint.specs.Networks.{ip_path}
use Rattle.route_tables.specs.Routes.{Gives, Route}
use Rattle.route_tables.specs.Tables.{Values}
use Rattle.route_tables.specs.declared.load.Reading.{Reading}
use Rattle.route_tables.specs.declared.load.Replaced.{Replaced}

-- whether a network that has this value, or none, has another one than a route gives it
abbrev pub is_other : Option (List ℕ) → List ℕ → Bool
is_other None value = false
is_other (Some stored) value = not (bytes_eq stored value)

-- the network of a route, if the route replaces another value
abbrev pub replaced_one : ℕ → Route → Values → List Replaced
replaced_one line route m = cond (is_other (get m (ip_path route.0)) route.1) (record { line = line; network = route.0 } ∷ []) []

-- the networks of the routes of a line that replace another value, in order
abbrev pub replaced_by : ℕ → List Route → Values → List Replaced
replaced_by line [] m = []
replaced_by line (route ∷ routes) m = replaced_one line route m ++ replaced_by line routes (with_entry m (ip_path route.0) route.1)

-- lines turn the entries m into others one after another, and the list has exactly the networks whose value they replace by another;
-- `before` lines are before these
abbrev pub ReplacesValues : Reading → ℕ → List (List ℕ) → Values → Values → List Replaced → Type 0
ReplacesValues reading before [] m after listed = (after ≡ m) × (listed ≡ [])
ReplacesValues reading before (line ∷ later) m after listed =
    (routes : List Route) × (rest : List Replaced) × Gives reading line routes
    × ReplacesValues reading (before + 1) later (put_all ip_path routes m) after rest × (listed ≡ replaced_by (before + 1) routes m ++ rest)
