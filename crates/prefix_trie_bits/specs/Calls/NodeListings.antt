-- The part of a listing that belongs to one node, place by place. This project's own.
-- A place of a node is a string of at most five bits: up to four for a value, five for a child.
use Rattle.std.specs.Prelude.{Bool, List, [], ◌∷◌, ◌++◌, length, cond, nat_lt, flat_map, Option, Some, None}
use Rattle.std.specs.FinMap.{get}
use Rattle.prefix_trie_bits.specs.Model.Entries.{Entries}
use Rattle.prefix_trie_bits.specs.Model.Selections.{listing_below}

module _ {T : Type 0} where
  -- the entry of a string, if it has a value
  abbrev pub pair_of : List Bool → Option T → List (List Bool × T)
  pair_of s None = []
  pair_of s (Some v) = (s, v) ∷ []

  -- the entries at the place t of the node at s: the value there, or, if t has five bits, all
  -- entries of that child
  abbrev pub listing_at_place : Entries T → List Bool → List Bool → List (List Bool × T)
  listing_at_place m s t =
      cond (nat_lt (length t) 5) (pair_of (s ++ t) (get m (s ++ t))) (listing_below m (s ++ t))

  -- the entries at these places, one after another
  abbrev pub listing_at_places : Entries T → List Bool → List (List Bool) → List (List Bool × T)
  listing_at_places m s ts = flat_map (listing_at_place m s) ts
