-- The stored keys that a bit string begins with, and the longest and the shortest of them.
-- From the Rust crate's documentation of `get_lpm`, `get_spm` and `cover`.
use Rattle.std.specs.Prelude.{Bool, List, [], ◌∷◌, filter, Option, Some, None}
use Rattle.prefix_trie_bits.specs.Model.Bits.{begins}
use Rattle.prefix_trie_bits.specs.Model.Entries.{Entries}
use Rattle.prefix_trie_bits.specs.Model.Selections.{listing}

module _ {X : Type 0} where
  -- the first item of a list, if there is one
  abbrev pub first_item : List X → Option X
  first_item [] = None
  first_item (x ∷ xs) = Some x

  -- the last item of a list, if there is one
  abbrev pub last_item : List X → Option X
  last_item [] = None
  last_item (x ∷ []) = Some x
  last_item (x ∷ y ∷ xs) = last_item (y ∷ xs)

module _ {T : Type 0} where
  -- the entries whose keys q begins with, in listing order, so the shortest key comes first
  abbrev pub covers : Entries T → List Bool → List (List Bool × T)
  covers m q = filter (λ e. begins e.0 q) (listing m)

  -- the entry with the longest key that q begins with, if there is one
  abbrev pub longest_match : Entries T → List Bool → Option (List Bool × T)
  longest_match m q = last_item (covers m q)

  -- the entry with the shortest key that q begins with, if there is one
  abbrev pub shortest_match : Entries T → List Bool → Option (List Bool × T)
  shortest_match m q = first_item (covers m q)

  -- a match with the prefix of its key
  abbrev pub prefix_pair : {P : Type 0} → (List Bool → P) → Option (List Bool × T) → Option (P × T)
  prefix_pair back None = None
  prefix_pair back (Some e) = Some (back e.0, e.1)
