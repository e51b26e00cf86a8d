-- Which sets of nodes a map can have, the nodes that hold entries, and those that have a child.
-- From Eatherton, Dittia and Varghese's tree bitmap.
use Rattle.std.specs.Prelude.{◌≡◌, ℕ, ◌+◌, ◌%◌, ◌≤◌, ◌==◌, Bool, true, ◌&&◌, List, [], length, filter, nat_lt}
use Rattle.std.specs.List.{list_any}
use Rattle.std.specs.FinMap.{keys}
use Rattle.prefix_trie_bits.specs.Model.Bits.{begins}
use Rattle.prefix_trie_bits.specs.Model.Entries.{Entries}
use Rattle.prefix_trie_bits.specs.Model.Nodes.{Nodes, has_node, needed}

module _ {T : Type 0} where
  -- n can be the nodes of a map with the entries m
  -- No string is longer than the width, all lengths are multiples of five, the root is there, each
  -- node has all nodes above it, and all needed nodes are there.
  pub record AreNodes (width : ℕ) (m : Entries T) (n : Nodes) : Type 0 where
    pub within : (s : List Bool) → has_node n s ≡ true → length s ≤ width
    pub depths : (s : List Bool) → has_node n s ≡ true → length s % 5 ≡ 0
    pub rooted : has_node n [] ≡ true
    pub closed : (s t : List Bool) → has_node n t ≡ true → begins s t ≡ true → length s % 5 ≡ 0 → has_node n s ≡ true
    pub hold_needed : (s : List Bool) → has_node (needed m) s ≡ true → has_node n s ≡ true

  -- whether the node p holds an entry
  abbrev pub is_holder : Entries T → List Bool → Bool
  is_holder m p = list_any (λ s. begins p s && nat_lt (length s) (length p + 5)) (keys m)

-- whether the node p has a child
abbrev pub is_parent : Nodes → List Bool → Bool
is_parent n p = list_any (λ s. begins p s && (length s == length p + 5)) (keys n)

module _ {T : Type 0} where
  -- the nodes that hold entries, in listing order
  abbrev pub holders : Entries T → Nodes → List (List Bool)
  holders m n = filter (λ p. is_holder m p) (keys n)

-- the nodes that have a child, in listing order
abbrev pub parents : Nodes → List (List Bool)
parents n = filter (λ p. is_parent n p) (keys n)
