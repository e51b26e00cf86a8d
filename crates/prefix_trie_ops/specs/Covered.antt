-- Keys of a set that begin with a shorter key. This project's own.
use Rattle.std.specs.Prelude.{◌-◌, ◌==◌, Bool, false, not, cond, List, length, take, Option, Some, None}
use Rattle.std.specs.Option.{is_some}
use Rattle.std.specs.FinMap.{retain_keys}
use Rattle.prefix_trie.specs.Terms.{Entries, begins, shortest_match}

module _ {T : Type 0} where
  -- whether the string begins with a shorter key
  abbrev pub is_below_another : Entries T → List Bool → Bool
  is_below_another m s = cond (length s == 0) false (is_some (shortest_match m (take (length s - 1) s)))

  -- whether the entry's key begins with no shorter key
  abbrev pub is_uppermost : Entries T → List Bool × T → Bool
  is_uppermost m e = not (is_below_another m e.0)

  -- the entries whose keys begin with no shorter key
  abbrev pub without_covered : Entries T → Entries T
  without_covered m = retain_keys m (λ s. not (is_below_another m s))

-- whether there is a prefix and its path begins the string
abbrev pub contains_path : {P : Type 0} → (P → List Bool) → Option P → List Bool → Bool
contains_path path None q = false
contains_path path (Some p) q = begins (path p) q
