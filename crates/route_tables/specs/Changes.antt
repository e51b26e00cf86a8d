-- The networks at which two tables differ. This project's own.
use Rattle.std.specs.Prelude.{ℕ, Bool, true, not, List, filter, bytes_eq}
use Rattle.prefix_trie.specs.Terms.{listing}
use Rattle.prefix_trie_ops.specs.Merging.{union_of}
use Rattle.prefix_trie_ops.specs.declared.map.sides.Side.{Side}
use Rattle.prefix_trie_ops.specs.declared.map.sides.Side.TheVariants.{Left, Right, Both}
use Rattle.route_tables.specs.Tables.{Values}

-- whether two tables with these values at a key differ there
abbrev pub differ : Side (List ℕ) (List ℕ) → Bool
differ (Left old) = true
differ (Right new) = true
differ (Both old new) = not (bytes_eq old new)

-- the keys at which the tables differ, each with the values of both tables there, in listing order
abbrev pub changes_of : Values → Values → List (List Bool × Side (List ℕ) (List ℕ))
changes_of old new = filter (λ e. differ e.1) (listing (union_of old new))
