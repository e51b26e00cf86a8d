-- How a set of values is stored in a vector.
use Rattle.std.specs.Prelude.{◌≡◌, ◌<◌, ◌≤◌, ◌++◌, List, [], ◌∷◌, length, slice_range}
use Rattle.prefix_trie_ops.specs.declared.map.optimal.sets.Span.{Span}
use Rattle.prefix_trie_ops.specs.declared.map.optimal.sets.Set.{Set}
use Rattle.prefix_trie_ops.specs.declared.map.optimal.sets.Set.TheVariants.{Missing, One, Many}

module _ {T : Type 0} where
  -- the items from one index up to another, of which there are some
  abbrev pub IsSpanOf : List T → Span → List T → Type 0
  IsSpanOf stored span xs = (span.start < span.end) × (span.end ≤ length stored) × (xs ≡ slice_range stored span.start span.end)

  -- a set has these values, if its vector has the items `stored`
  abbrev pub Holds : List T → Set T → List T → Type 0
  Holds stored Missing xs = xs ≡ []
  Holds stored (One v) xs = xs ≡ v ∷ []
  Holds stored (Many span) xs = IsSpanOf stored span xs

  -- items are appended to a vector, and a set has these values then
  pub record Appends (before after : List T) (set : Set T) (xs : List T) : Type 0 where
    pub added : List T
    pub grows : after ≡ before ++ added
    pub holds : Holds after set xs
