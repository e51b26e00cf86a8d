-- Tables without the networks that change no lookup. This project's own.
use Rattle.std.specs.Prelude.{◌≡◌, ◌≢◌, ℕ, Bool, List, Some}
use Rattle.std.specs.FinMap.{get}
use Rattle.prefix_trie_ops.specs.Values.{value_above, value_of}
use Rattle.route_tables.specs.Tables.{Values}

-- every lookup gives the same value, no network has the value of the longest one above it, and none is new
pub record IsMinimised (before after : Values) : Type 0 where
  pub same : (q : List Bool) → value_of after q ≡ value_of before q
  pub least : (s : List Bool) (v : List ℕ) → get after s ≡ Some v → value_above after s ≢ Some v
  pub part : (s : List Bool) (v : List ℕ) → get after s ≡ Some v → get before s ≡ Some v
