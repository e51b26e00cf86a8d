-- The nodes of a trie with five levels per node, as a set of bit strings.
-- The node at s holds the entries whose keys begin with s and are fewer than five bits longer.
-- From Eatherton, Dittia and Varghese's tree bitmap. Which nodes a removal leaves is this project's
-- own rule.
use Rattle.std.specs.Prelude.{◌≡◌, ◌*◌, ◌/◌, ◌%◌, ◌==◌, Bool, true, false, cond, not, ◌&&◌, ◌||◌, List, [], ◌∷◌, take, length, map, filter, flat_map}
use Rattle.std.specs.List.{list_any, list_all}
use Rattle.std.specs.FinMap.{FinMap, empty, insert, contains_key, retain_keys, keys}
use Rattle.prefix_trie_bits.specs.Model.Bits.{begins}
use Rattle.prefix_trie_bits.specs.Model.Order.{listing_cmp, same_string}
use Rattle.prefix_trie_bits.specs.Model.Entries.{Entries, without_entry, without_below}

-- a finite set of bit strings
abbrev pub Nodes : Type 0
Nodes = FinMap listing_cmp (Unit {0})

-- whether there is a node at s
abbrev pub has_node : Nodes → List Bool → Bool
has_node n s = contains_key n s

-- the root alone, which is at the empty string
abbrev pub root_alone : Nodes
root_alone = insert empty [] tt

-- whether a string is empty, as the root's is
abbrev pub is_root : List Bool → Bool
is_root [] = true
is_root (b ∷ s) = false

-- the nodes with these strings added
abbrev pub with_nodes : Nodes → List (List Bool) → Nodes
with_nodes n [] = n
with_nodes n (s ∷ ss) = insert (with_nodes n ss) s tt

-- all beginnings of s, from the empty string to s itself
abbrev pub beginnings : List Bool → List (List Bool)
beginnings [] = [] ∷ []
beginnings (b ∷ s) = [] ∷ map (λ t. b ∷ t) (beginnings s)

-- whether a node can be at a string: its length is a multiple of five
abbrev pub is_node_depth : List Bool → Bool
is_node_depth s = length s % 5 == 0

-- the beginnings of s at which a node can be: the search path of s
abbrev pub nodes_above : List Bool → List (List Bool)
nodes_above s = filter is_node_depth (beginnings s)

-- the string of q's own node: the longest beginning of q whose length is a multiple of five
abbrev pub home : List Bool → List Bool
home q = take (5 * (length q / 5)) q

-- the nodes with those added that the key s needs
abbrev pub with_needed : Nodes → List Bool → Nodes
with_needed n s = with_nodes n (nodes_above s)

module _ {T : Type 0} where
  -- the nodes that the keys need: the root, and each beginning of a key whose length is a multiple
  -- of five
  abbrev pub needed : Entries T → Nodes
  needed m = with_nodes root_alone (flat_map nodes_above (keys m))

  -- a map is tidy if its nodes are exactly the needed ones, so each node except the root has an
  -- entry in it or under it
  abbrev pub IsTidy : Entries T → Nodes → Type 0
  IsTidy m n = n ≡ needed m

  -- whether a removal at the node h removes the node t
  -- It does if t is on the search path of h but is not the root, has no entry in it or under it,
  -- and has no node under it off that path.
  abbrev pub is_pruned : Nodes → Entries T → List Bool → List Bool → Bool
  is_pruned n m h t =
      not (list_any (λ s. begins t s) (keys m)) && (begins t h && (not (is_root t) && list_all (λ u. not (begins t u) || begins u h) (keys n)))

  -- the nodes that are left after a removal at q, where m is the entries that are left; all of them
  -- if q's own node is missing
  abbrev pub pruned : Nodes → Entries T → List Bool → Nodes
  pruned n m q = cond (has_node n (home q)) (retain_keys n (λ t. not (is_pruned n m (home q) t))) n

-- the nodes without those whose strings begin with q, but with q's own node
abbrev pub nodes_not_below : Nodes → List Bool → Nodes
nodes_not_below n q = retain_keys n (λ t. not (begins q t) || same_string t (home q))

module _ {T : Type 0} where
  -- the nodes after `remove`, where m is the entries before it
  abbrev pub nodes_without : Nodes → Entries T → List Bool → Nodes
  nodes_without n m q = pruned n (without_entry m q) q

  -- the nodes after `remove_children`, where m is the entries before it
  abbrev pub nodes_without_below : Nodes → Entries T → List Bool → Nodes
  nodes_without_below n m q =
      cond (has_node n (home q)) (pruned (nodes_not_below n q) (without_below m q) q) n
