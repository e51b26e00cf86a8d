-- Nodes and values by path, and the blocks in which they are stored. This project's own.
use Rattle.std.specs.Prelude.{◌≡◌, ℕ, ◌+◌, ◌<◌, ◌≤◌, Bool, true, false, cond, List, [], ◌∷◌, ◌++◌, map, flat_map, slice_index_or, Option, None, Some, is_some, take, length, not, nat_lt, ◌||◌, ◌&&◌}
use Rattle.std.specs.Option.{option_or}
use Rattle.prefix_trie_table.specs.OwnBlocks.{child_block_size, value_block_size, child_need, value_need}
use Rattle.std.specs.Ordering.{nat_cmp, eq_by_cmp}
use Rattle.std.specs.Cmp.Lexicographic.{slice_cmp}
use Rattle.std.specs.List.{list_any}
use Rattle.prefix_trie_table.specs.declared.allocator.node.Node.{Node}
use Rattle.prefix_trie_bits.specs.Bitmaps.{has_bit, rank, bits}
use Rattle.prefix_trie_table.specs.Blocks.Cells.{blank_node, node_at, node_sizes, cell_sizes}
pub use Rattle.prefix_trie_table.specs.Blocks.Store.{held, size_in, tier_sizes}
use Rattle.prefix_trie_table.specs.Blocks.Store.{Store, UsedBlock, Sound}

-- the slot of the child c of a node
abbrev pub child_slot : Node → ℕ → ℕ
child_slot n c = n.child_block + rank n.child_bitmap c

-- the child c of a node, if it is there
unfoldable pub child : List Node → Node → ℕ → Option Node
child nodes n c = cond (has_bit n.child_bitmap c) (Some (node_at nodes (child_slot n c))) None

-- the same for a node that may be missing
abbrev pub below : List Node → Option Node → ℕ → Option Node
below nodes None c = None
below nodes (Some n) c = child nodes n c

-- the node that a path leads to from another node
abbrev pub read_from : List Node → Option Node → List ℕ → Option Node
read_from nodes at [] = at
read_from nodes at (c ∷ cs) = read_from nodes (below nodes at c) cs

-- the node with a path
unfoldable pub read : List Node → List ℕ → Option Node
read nodes path = read_from nodes (Some (node_at nodes 0)) path

-- whether two paths are the same
abbrev pub same_path : List ℕ → List ℕ → Bool
same_path q k = eq_by_cmp (slice_cmp nat_cmp) q k

-- 1 if the test holds, else 0
abbrev pub one_if : Bool → ℕ
one_if true = 1
one_if false = 0

-- the number of times that a path occurs in a list
abbrev pub times : List ℕ → List (List ℕ) → ℕ
times q [] = 0
times q (p ∷ ps) = one_if (same_path q p) + times q ps

-- the list without the first p in it
abbrev pub without : List ℕ → List (List ℕ) → List (List ℕ)
without p [] = []
without p (q ∷ qs) = cond (same_path p q) qs (q ∷ without p qs)

-- the node, or a blank one if there is none
abbrev pub node_or_blank : Option Node → Node
node_or_blank None = blank_node
node_or_blank (Some n) = n

-- whether a node has the child c
abbrev pub has_child : Option Node → ℕ → Bool
has_child None c = false
has_child (Some n) c = has_bit n.child_bitmap c

-- whether a node has a value at bit b
abbrev pub has_value : Option Node → ℕ → Bool
has_value None b = false
has_value (Some n) b = has_bit n.value_bitmap b

-- the children of the node at p, in order
abbrev pub child_items : (List ℕ → Option Node) → List ℕ → ℕ → List Node
child_items nodes p bitmap = map (λ c. node_or_blank (nodes (p ++ c ∷ []))) (bits bitmap)

-- the block of children of a node, if it is there and has children
abbrev pub child_blocks_of : List ℕ → (List ℕ → Option Node) → List ℕ → Option Node → List (UsedBlock Node)
child_blocks_of sizes nodes p None = []
child_blocks_of sizes nodes p (Some n) = held n.child_tier n.child_block (size_in sizes n.child_tier) (child_items nodes p n.child_bitmap)

-- the block of children of the node at p
abbrev pub child_blocks : List ℕ → (List ℕ → Option Node) → List ℕ → List (UsedBlock Node)
child_blocks sizes nodes p = child_blocks_of sizes nodes p (nodes p)

-- the slot of the node at a path
pub data IsSlot (nodes : List ℕ → Option Node) : List ℕ → ℕ → Type 0 where
  at_root : IsSlot nodes [] 0
  at_child : (p : List ℕ) (c : ℕ) (n : Node) → nodes p ≡ Some n → has_bit n.child_bitmap c ≡ true → IsSlot nodes (p ++ c ∷ []) (child_slot n c)

-- the array has these nodes, whose paths are listed, and nothing else
pub record NodesHold (sizes : List ℕ) (nodes : List ℕ → Option Node) (paths : List (List ℕ)) (v : Store Node) : Type 0 where
  -- the root is in slot 0
  pub rooted : nodes [] ≡ Some (node_at v.slots 0)
  -- the children of a node are exactly those that its bitmap names
  pub linked : (p : List ℕ) (c : ℕ) → is_some (nodes (p ++ c ∷ [])) ≡ has_child (nodes p) c
  -- the list has the path of each node once, and no other path
  pub listed : (q : List ℕ) → times q paths ≡ one_if (is_some (nodes q))
  -- the used blocks are those of the parents, each with exactly its children
  pub sound : Sound blank_node (flat_map (child_blocks sizes nodes) paths) v
  -- the blocks come after the root's slot, and have these sizes
  pub first_is : v.first ≡ 1
  pub sizes_are : tier_sizes v.tiers ≡ sizes

module _ {T : Type 0} where
  -- the block of values of a node, if it is there and has values
  abbrev pub value_blocks_of : List ℕ → (List ℕ → ℕ → Option T) → List ℕ → Option Node → List (UsedBlock (Option T))
  value_blocks_of sizes values p None = []
  value_blocks_of sizes values p (Some n) = held n.value_tier n.value_block (size_in sizes n.value_tier) (map (values p) (bits n.value_bitmap))

  -- the block of values of the node at p
  abbrev pub value_blocks : List ℕ → (List ℕ → Option Node) → (List ℕ → ℕ → Option T) → List ℕ → List (UsedBlock (Option T))
  value_blocks sizes nodes values p = value_blocks_of sizes values p (nodes p)

  -- the array has the values of these nodes, and nothing else
  pub record CellsHold (sizes : List ℕ) (nodes : List ℕ → Option Node) (values : List ℕ → ℕ → Option T) (paths : List (List ℕ))
      (w : Store (Option T)) : Type 0 where
    -- a node has exactly the values that its bitmap names, at the 31 bits of strings
    pub set_where : (p : List ℕ) (b : ℕ) → is_some (values p b) ≡ has_value (nodes p) b
    pub within : (p : List ℕ) (b : ℕ) → is_some (values p b) ≡ true → b < 31
    -- the used blocks are those of the holders, each with exactly its values, and have these sizes
    pub sound : Sound None (flat_map (value_blocks sizes nodes values) paths) w
    pub sizes_are : tier_sizes w.tiers ≡ sizes

-- the nodes after the one at p becomes m and gets the blank child c
abbrev pub with_child : (List ℕ → Option Node) → List ℕ → Node → ℕ → List ℕ → Option Node
with_child nodes p m c q =
    cond (same_path q (p ++ c ∷ [])) (Some blank_node) (cond (same_path q p) (Some m) (nodes q))

-- the nodes after the one at p becomes m and loses the child c
abbrev pub with_child_removed : (List ℕ → Option Node) → List ℕ → Node → ℕ → List ℕ → Option Node
with_child_removed nodes p m c q =
    cond (same_path q (p ++ c ∷ [])) None (cond (same_path q p) (Some m) (nodes q))

-- the nodes after the one at p becomes m
abbrev pub with_node : (List ℕ → Option Node) → List ℕ → Node → List ℕ → Option Node
with_node nodes p m q = cond (same_path q p) (Some m) (nodes q)

module _ {T : Type 0} where
  -- the values after the one at bit b of the node at p is changed
  abbrev pub with_value : (List ℕ → ℕ → Option T) → List ℕ → ℕ → Option T → List ℕ → ℕ → Option T
  with_value values p b x q i = cond (same_path (q ++ i ∷ []) (p ++ b ∷ [])) x (values q i)

-- there is a node in this slot
pub record IsNodeAt (nodes : List ℕ → Option Node) (slot : ℕ) : Type 0 where
  pub path : List ℕ
  pub node : Node
  pub is_there : IsSlot nodes path slot
  pub is : nodes path ≡ Some node

-- the node n at p gets a blank child c, in this slot
pub record ChildAdded (reading : List ℕ → Option Node) (paths : List (List ℕ)) (p : List ℕ) (n : Node) (c : ℕ) (w : Store Node) (slot : ℕ) : Type 0 where
  pub node : Node
  pub hold : NodesHold node_sizes (with_child reading p node c) ((p ++ c ∷ []) ∷ paths) w
  pub is_there : IsSlot (with_child reading p node c) (p ++ c ∷ []) slot
  pub value_bitmap : node.value_bitmap ≡ n.value_bitmap
  pub value_block : node.value_block ≡ n.value_block
  pub value_tier : node.value_tier ≡ n.value_tier
  pub children : child_block_size (Some node) ≡ option_or (child_need (Some n)) (child_block_size (Some n))

-- how many values a node has of its own
abbrev pub own_count : Option Node → ℕ
own_count None = 0
own_count (Some n) = rank n.value_bitmap 32

-- how many values the nodes at these paths have
abbrev pub entry_count : (List ℕ → Option Node) → List (List ℕ) → ℕ
entry_count nodes [] = 0
entry_count nodes (p ∷ ps) = own_count (nodes p) + entry_count nodes ps

-- the value at bit b of the node at p was changed
pub record ValueSet {T : Type 0} (reading : List ℕ → Option Node) (paths : List (List ℕ)) (values : List ℕ → ℕ → Option T) (p : List ℕ) (b : ℕ)
    (x : Option T) (v : Store Node) (w : Store (Option T)) : Type 0 where
  pub node : Node
  pub hold : NodesHold node_sizes (with_node reading p node) paths v
  pub cells : CellsHold cell_sizes (with_node reading p node) (with_value values p b x) paths w
  pub counted : own_count (Some node) + one_if (is_some (values p b)) ≡ own_count (reading p) + one_if (is_some x)
  pub children : child_block_size (Some node) ≡ child_block_size (reading p)
  pub sized : values p b ≡ None → value_block_size (Some node) ≡ option_or (value_need (reading p)) (value_block_size (reading p))

-- the search path ends at this depth: it has a node there, and either no next node or no next step
pub record IsEnd (nodes : List ℕ → Option Node) (path : List ℕ) (depth : ℕ) : Type 0 where
  pub within : depth ≤ length path
  pub is_there : is_some (nodes (take depth path)) ≡ true
  pub stops : depth < length path → is_some (nodes (take (depth + 1) path)) ≡ false

-- the node at this depth of a path is in this slot
pub record Deepest (reading : List ℕ → Option Node) (path : List ℕ) (depth slot : ℕ) (v : Store Node) : Type 0 where
  pub node : Node
  pub is_there : IsSlot reading (take depth path) slot
  pub is : reading (take depth path) ≡ Some node

-- all beginnings of a path, including the path itself
abbrev pub starts : List ℕ → List (List ℕ)
starts [] = [] ∷ []
starts (c ∷ cs) = [] ∷ map (λ p. c ∷ p) (starts cs)

-- whether q is a beginning of a path
abbrev pub is_start : List ℕ → List ℕ → Bool
is_start q path = list_any (same_path q) (starts path)

-- whether q, a beginning of a path with fewer than `depth` steps, gets a child when the path's missing nodes are added
abbrev pub gains : (List ℕ → Option Node) → List ℕ → ℕ → List ℕ → Bool
gains nodes path depth q = is_start q path && (nat_lt (length q) depth && not (is_some (nodes (take (length q + 1) path))))

-- the size of the child block that q has then
abbrev pub size_gained : (List ℕ → Option Node) → List ℕ → ℕ → List ℕ → Option ℕ
size_gained nodes path depth q = option_or (cond (gains nodes path depth q) (child_need (nodes q)) None) (child_block_size (nodes q))

-- the two arrays have these nodes and these values
pub record Holds {T : Type 0} (reading : List ℕ → Option Node) (values : List ℕ → ℕ → Option T) (paths : List (List ℕ)) (v : Store Node)
    (w : Store (Option T)) : Type 0 where
  pub hold : NodesHold node_sizes reading paths v
  pub cells : CellsHold cell_sizes reading values paths w

-- the two arrays have the nodes and values of some table
pub record SomeTable {T : Type 0} (v : Store Node) (w : Store (Option T)) : Type 0 where
  pub reading : List ℕ → Option Node
  pub values : List ℕ → ℕ → Option T
  pub paths : List (List ℕ)
  pub holds : Holds reading values paths v w

-- the array has the nodes of some table
pub record SomeNodes (v : Store Node) : Type 0 where
  pub reading : List ℕ → Option Node
  pub paths : List (List ℕ)
  pub hold : NodesHold node_sizes reading paths v

-- the missing nodes on the first `depth` steps of a path were added, and the node at that depth is in this slot
pub record Walked {T : Type 0} (reading : List ℕ → Option Node) (values : List ℕ → ℕ → Option T) (before : List (List ℕ)) (path : List ℕ)
    (depth slot : ℕ) (v : Store Node) (w : Store (Option T)) : Type 0 where
  pub later : List ℕ → Option Node
  pub paths : List (List ℕ)
  pub holds : Holds later values paths v w
  pub deep : Deepest later path depth slot v
  pub grown : (q : List ℕ) → is_some (later q) ≡ (is_some (reading q) || is_start q (take depth path))
  pub counted : entry_count later paths ≡ entry_count reading before
  pub children : (q : List ℕ) → child_block_size (later q) ≡ size_gained reading path depth q
  pub sized : (q : List ℕ) → value_block_size (later q) ≡ value_block_size (reading q)
  pub needs : (child_need (later (take depth path)) ≡ child_need (reading (take depth path))) × (value_need (later (take depth path)) ≡ value_need (reading (take depth path)))

-- a value was set at a bit of the node with a path, and the missing nodes on the path were added
pub record EntryAdded {T : Type 0} (reading : List ℕ → Option Node) (values : List ℕ → ℕ → Option T) (before : List (List ℕ)) (path : List ℕ) (b : ℕ)
    (x : Option T) (v : Store Node) (w : Store (Option T)) : Type 0 where
  pub later : List ℕ → Option Node
  pub paths : List (List ℕ)
  pub holds : Holds later (with_value values path b x) paths v w
  pub grown : (q : List ℕ) → is_some (later q) ≡ (is_some (reading q) || is_start q path)
  pub counted : entry_count later paths + one_if (is_some (values path b)) ≡ entry_count reading before + one_if (is_some x)
  pub children : (q : List ℕ) → child_block_size (later q) ≡ size_gained reading path (length path) q
  pub sized : values path b ≡ None → (q : List ℕ) →
      value_block_size (later q) ≡ option_or (cond (same_path q path) (value_need (reading q)) None) (value_block_size (reading q))

module _ {T : Type 0} where
  -- the value at bit b of a node
  unfoldable pub value_in : List (Option T) → Node → ℕ → Option T
  value_in cells n b = cond (has_bit n.value_bitmap b) (slice_index_or cells (n.value_block + rank n.value_bitmap b) None) None

  -- the same for a node that may be missing
  abbrev pub value_of : List (Option T) → Option Node → ℕ → Option T
  value_of cells None b = None
  value_of cells (Some n) b = value_in cells n b
