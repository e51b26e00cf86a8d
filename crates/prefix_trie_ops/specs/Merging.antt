-- Two listings merged into one. This project's own.
use Rattle.std.specs.Prelude.{List, [], ◌∷◌, Bool, Option, Some, None}
use Rattle.std.proofs.Common.{Less, Equal, Greater, Bor}
use Rattle.std.specs.FinMap.{from_sorted}
use Rattle.prefix_trie.specs.Terms.{Entries, listing, listing_cmp}
use Rattle.prefix_trie_ops.specs.declared.map.sides.Side.{Side}
use Rattle.prefix_trie_ops.specs.declared.map.sides.Side.TheVariants.{Left, Right, Both}

module _ {T U : Type 0} where
  -- the items of two lists in listing order; two items with the same key become one
  abbrev pub merged : List (List Bool × T) → List (List Bool × U) → List (List Bool × Side T U)
  merged [] [] = []
  merged [] (y ∷ ys) = (y.0, Right y.1) ∷ merged [] ys
  merged (x ∷ xs) [] = (x.0, Left x.1) ∷ merged xs []
  merged (x ∷ xs) (y ∷ ys) = elim (listing_cmp x.0 y.0) [
    | Less ↦ (x.0, Left x.1) ∷ merged xs (y ∷ ys)
    | Equal ↦ (x.0, Both x.1 y.1) ∷ merged xs ys
    | Greater ↦ (y.0, Right y.1) ∷ merged (x ∷ xs) ys
  ]

-- the values that are lent
abbrev pub lent_values : {T U : Type 0} → Side (Bor T) (Bor U) → Side T U
lent_values (Left v) = Left v.now
lent_values (Right w) = Right w.now
lent_values (Both v w) = Both v.now w.now

-- a prefix and the values that are lent with it
abbrev pub lent_side : {P T U : Type 0} → P × Side (Bor T) (Bor U) → P × Side T U
lent_side x = (x.0, lent_values x.1)

module _ {T U : Type 0} where
  -- what two maps have at a key
  abbrev pub sides : Option T → Option U → Option (Side T U)
  sides None None = None
  sides None (Some w) = Some (Right w)
  sides (Some v) None = Some (Left v)
  sides (Some v) (Some w) = Some (Both v w)

  -- the keys of either map, each with the values that the maps have there
  unfoldable pub union_of : Entries T → Entries U → Entries (Side T U)
  union_of m n = from_sorted (merged (listing m) (listing n))
