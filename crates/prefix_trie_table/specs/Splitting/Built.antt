-- A table that is built with all its blocks before its values are moved. This project's own.
use Rattle.std.specs.Prelude.{◌≡◌, ◌+◌, ◌<◌, ◌≤◌, ℕ, zero, suc, Bool, true, false, cond, ◌&&◌, List, [], ◌∷◌, ◌++◌, flat_map, Option, None, Some, is_some, length}
use Rattle.prefix_trie_bits.specs.Model.Bits.{begins, number}
use Rattle.prefix_trie_bits.specs.Places.{value_bit}
use Rattle.prefix_trie_bits.specs.Calls.SplitsOff.{packed_block, packed_slots}
use Rattle.prefix_trie_table.specs.declared.allocator.node.Node.{Node}
use Rattle.prefix_trie_bits.specs.Bitmaps.{has_bit, rank}
use Rattle.prefix_trie_table.specs.Blocks.Cells.{blank_node, node_at, node_sizes, cell_sizes}
use Rattle.prefix_trie_table.specs.Digits.{chunks_of, bit_of}
use Rattle.prefix_trie_table.specs.Splitting.Building.{Builds}
use Rattle.prefix_trie_table.specs.OwnBlocks.{child_block_size, value_block_size}
use Rattle.prefix_trie_table.specs.Blocks.Store.{Store}
use Rattle.prefix_trie_table.specs.Forest.{child_slot, read_from, times, one_if, has_child, has_value, NodesHold, child_blocks, value_blocks, child_items}

-- ---- which nodes of an array are built

-- there is a value for the string s, at a node or under it, and s begins with t
abbrev pub in_part : List Node → Node → List Bool → List Bool → Bool
in_part nodes n t s = begins t s && has_value (read_from nodes (Some n) (chunks_of s)) (bit_of s)

-- the same for a string under the child of five bits u
abbrev pub in_child : List Node → Node → List Bool → List Bool → List Bool → Bool
in_child nodes n t u s = begins t (u ++ s) && has_value (read_from nodes (Some n) (number u ∷ chunks_of s)) (bit_of s)

-- some value is at this path or below it
pub record SomeValue (sub : List ℕ → Option Node) (p : List ℕ) : Type 0 where
  pub below : List ℕ
  pub bit : ℕ
  pub is : has_value (sub (p ++ below)) bit ≡ true

-- a node of an array that has at most this number of levels under it, and values only at the bits of strings
pub record IsSource (v : Store Node) (n : Node) (levels : ℕ) : Type 0 where
  pub reading : List ℕ → Option Node
  pub paths : List (List ℕ)
  pub hold : NodesHold node_sizes reading paths v
  pub path : List ℕ
  pub is : reading path ≡ Some n
  pub few : (q : List ℕ) → is_some (reading (path ++ q)) ≡ true → length q ≤ levels
  pub within : (q : List ℕ) (b : ℕ) → has_value (reading (path ++ q)) b ≡ true → b < 31

-- ---- how many slots are needed at most

-- the slots of the smallest blocks for a node's children, and for its values
abbrev pub child_slots : Node → ℕ
child_slots n = packed_slots node_sizes (rank n.child_bitmap 32)

abbrev pub value_slots : Node → ℕ
value_slots n = packed_slots cell_sizes (rank n.value_bitmap 32)

-- the sum of the first n of these numbers
unfoldable pub sum_to : (ℕ → ℕ) → ℕ → ℕ
sum_to f zero = 0
sum_to f (suc n) = sum_to f n + f n

-- the slots of a node and of all nodes below it on this number of levels
abbrev pub slots_below : (Node → ℕ) → List Node → ℕ → Node → ℕ
slots_below own nodes zero n = own n
slots_below own nodes (suc levels) n =
    own n + sum_to (λ c. cond (has_bit n.child_bitmap c) (slots_below own nodes levels (node_at nodes (child_slot n c))) 0) 32

-- the slots of a child and of all nodes below it
abbrev pub slots_at_child : (Node → ℕ) → List Node → ℕ → Node → ℕ → ℕ
slots_at_child own nodes zero n c = 0
slots_at_child own nodes (suc levels) n c = cond (has_bit n.child_bitmap c) (slots_below own nodes levels (node_at nodes (child_slot n c))) 0

-- ---- nodes that have no parent yet

-- these are the node n and all nodes below it, by their paths from n
pub record AreNodesFrom (n : Node) (sub : List ℕ → Option Node) (paths : List (List ℕ)) : Type 0 where
  pub top : sub [] ≡ Some n
  pub linked : (p : List ℕ) (c : ℕ) → is_some (sub (p ++ c ∷ [])) ≡ has_child (sub p) c
  pub listed : (q : List ℕ) → times q paths ≡ one_if (is_some (sub q))

-- the blocks of a node are the smallest that hold its values and its children
pub record IsPackedNode (n : Node) : Type 0 where
  pub values : value_block_size (Some n) ≡ packed_block cell_sizes (rank n.value_bitmap 32)
  pub children : child_block_size (Some n) ≡ packed_block node_sizes (rank n.child_bitmap 32)

-- they have exactly the values at a node and below it whose strings begin with t, in the smallest blocks
pub record IsPart (nodes : List Node) (n : Node) (t : List Bool) (sub : List ℕ → Option Node) : Type 0 where
  pub values : (s : List Bool) → has_value (sub (chunks_of s)) (bit_of s) ≡ in_part nodes n t s
  pub within : (p : List ℕ) (b : ℕ) → has_value (sub p) b ≡ true → b < 31
  pub packed : (p : List ℕ) (m : Node) → sub p ≡ Some m → IsPackedNode m

module _ {T : Type 0} where
  -- no value is moved yet
  abbrev pub no_value : List ℕ → ℕ → Option T
  no_value p b = None

  -- the part of a node and everything under it that begins with t was built
  -- Each of its nodes has a value or is above one, and has the smallest blocks. The first node has no slot yet.
  pub record IsBuilt (array : List Node) (levels : ℕ) (n : Node) (t : List Bool) (v v2 : Store Node) (w w2 : Store (Option T)) (top : Node) : Type 0 where
    pub sub : List ℕ → Option Node
    pub paths : List (List ℕ)
    pub nodes_from : AreNodesFrom top sub paths
    pub part : IsPart array n t sub
    pub needed : (p : List ℕ) → is_some (sub p) ≡ true → SomeValue sub p
    pub nodes : Builds blank_node (flat_map (child_blocks node_sizes sub) paths) (slots_below child_slots array levels n) v v2
    pub cells : Builds None (flat_map (value_blocks cell_sizes sub no_value) paths) (slots_below value_slots array levels n) w w2

  -- the part is being built: the values of the node m have their block, and everything under the children before i is built
  -- These children have no block yet.
  pub record IsSubtree (array : List Node) (levels : ℕ) (n : Node) (t : List Bool) (v : Store Node) (w : Store (Option T)) (i : ℕ) (m : Node)
      (below : List Node) (v2 : Store Node) (w2 : Store (Option T)) : Type 0 where
    pub sub : List ℕ → Option Node
    pub rest : List (List ℕ)
    pub nodes_from : AreNodesFrom m sub ([] ∷ rest)
    pub own_block : value_block_size (Some m) ≡ packed_block cell_sizes (rank m.value_bitmap 32)
    pub own : (s : List Bool) → length s ≤ 4 → has_bit m.value_bitmap (value_bit s) ≡ (begins t s && has_bit n.value_bitmap (value_bit s))
    pub values : (u s : List Bool) → length u ≡ 5 → number u < i → has_value (sub (number u ∷ chunks_of s)) (bit_of s) ≡ in_child array n t u s
    pub within : (p : List ℕ) (b : ℕ) → has_value (sub p) b ≡ true → b < 31
    pub packed : (c : ℕ) (p : List ℕ) (k : Node) → sub (c ∷ p) ≡ Some k → IsPackedNode k
    pub later : (c : ℕ) (p : List ℕ) → i ≤ c → sub (c ∷ p) ≡ None
    pub needed : (c : ℕ) (p : List ℕ) → is_some (sub (c ∷ p)) ≡ true → SomeValue sub (c ∷ p)
    pub kept : (c : ℕ) → has_bit m.child_bitmap c ≡ true → has_bit n.child_bitmap c ≡ true
    pub children : below ≡ child_items sub [] m.child_bitmap
    pub nodes : Builds blank_node (flat_map (child_blocks node_sizes sub) rest) (sum_to (slots_at_child child_slots array levels n) i) v v2
    pub cells : Builds None (flat_map (value_blocks cell_sizes sub no_value) ([] ∷ rest))
        (value_slots n + sum_to (slots_at_child value_slots array levels n) i) w w2

  -- no node of the part is built, since it has no value
  pub record NothingBuilt (array : List Node) (levels : ℕ) (n : Node) (t : List Bool) (v v2 : Store Node) (w w2 : Store (Option T)) : Type 0 where
    pub none : (s : List Bool) → in_part array n t s ≡ false
    pub nodes : Builds blank_node [] (slots_below child_slots array levels n) v v2
    pub cells : Builds None [] (slots_below value_slots array levels n) w w2

  -- the part was built if it has a value
  abbrev pub BuildsNode : List Node → ℕ → Node → List Bool → Store Node → Store Node → Store (Option T) → Store (Option T) → Option Node → Type 0
  BuildsNode array levels n t v v2 w w2 None = NothingBuilt array levels n t v v2 w w2
  BuildsNode array levels n t v v2 w w2 (Some top) = IsBuilt array levels n t v v2 w w2 top
