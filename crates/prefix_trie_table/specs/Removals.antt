-- How the calls that remove values change a table, by path. This project's own.
use Rattle.std.specs.Prelude.{◌≡◌, ◌≢◌, ℕ, ◌+◌, ◌<◌, ◌≤◌, ◌⊎◌, Bool, true, false, List, [], ◌∷◌, ◌++◌, length, take, slice_index_or, Option, None, Some, is_some}
use Rattle.prefix_trie_table.specs.declared.allocator.node.Node.{Node}
use Rattle.prefix_trie_bits.specs.Bitmaps.{rank}
use Rattle.prefix_trie_table.specs.Blocks.Cells.{node_sizes, cell_sizes}
use Rattle.prefix_trie_table.specs.Digits.{chunks_of}
use Rattle.prefix_trie_table.specs.Blocks.Store.{Store, SameSpace, MakesNone, tier_sizes, free_in, made_in, free_counts}
use Rattle.prefix_trie_bits.specs.Calls.Blocks.{HasBlock}
use Rattle.prefix_trie_bits.specs.Model.Blocks.{StepsDown, LongerByOne, MakesBlocks, MakesAtMost, made_of}
use Rattle.prefix_trie_table.specs.Layouts.{own_children, child_block_size, value_block_size}
use Rattle.prefix_trie_table.specs.GrowthBounds.{BoundsNodeGrowth}
use Rattle.prefix_trie_table.specs.Forest.{NodesHold, CellsHold, Holds, IsSlot, with_child_removed, without, is_start, with_node, with_value, own_count, entry_count, one_if}

-- the block that a list moved to was made, if none of its size was free
abbrev pub MakesEntered : {S : Type 0} → List ℕ → Store S → Store S → Option ℕ → Option ℕ → Type 0
MakesEntered sizes v w old new = MakesBlocks sizes (made_of sizes (free_counts v.tiers) old new) (made_in v.tiers) (made_in w.tiers)

-- at most the block that a list moved to was made
abbrev pub MakesFew : {S : Type 0} → List ℕ → Store S → Store S → Option ℕ → Option ℕ → Type 0
MakesFew sizes v w old new = MakesAtMost sizes (made_of sizes (free_counts v.tiers) old new) (made_in v.tiers) (made_in w.tiers)

-- an array grows by at most that block, which is made as one of the two relations above states
pub record GrowsBy {S : Type 0} (Makes : List ℕ → Store S → Store S → Option ℕ → Option ℕ → Type 0) (sizes : List ℕ) (v w : Store S) (old new : Option ℕ) : Type 0 where
  pub longer : LongerByOne sizes (free_counts v.tiers) old new (length v.slots) (length w.slots)
  pub made : Makes sizes v w old new

-- a list shrinks from `before` items to `after`, and steps down from a block of the size `old` to one of the size `new`
-- The array grows by that block, if it was made.
pub record ShrinksList {S : Type 0} (Makes : List ℕ → Store S → Store S → Option ℕ → Option ℕ → Type 0) (sizes : List ℕ) (v w : Store S) (before after : ℕ) (old new : Option ℕ) : Type 0 where
  pub has : after < before → HasBlock sizes before old
  pub steps : StepsDown sizes (free_counts v.tiers) before after old new
  pub grows : GrowsBy Makes sizes v w old new

-- two nodes have the same children in the same block
pub record SameChildren (n m : Node) : Type 0 where
  pub bitmap : m.child_bitmap ≡ n.child_bitmap
  pub block : m.child_block ≡ n.child_block
  pub tier : m.child_tier ≡ n.child_tier

-- two nodes have the same number of items in blocks of the same size
abbrev pub SameBlock : (Option Node → ℕ) → (Option Node → Option ℕ) → Option Node → Option Node → Type 0
SameBlock count size n m = (count m ≡ count n) × (size m ≡ size n)

-- two nodes have the same values in the same block
pub record SameValues (n m : Node) : Type 0 where
  pub bitmap : m.value_bitmap ≡ n.value_bitmap
  pub block : m.value_block ≡ n.value_block
  pub tier : m.value_tier ≡ n.value_tier

module _ {T : Type 0} where
  -- the node n at p became m and lost its value at bit b; the other nodes and values are unchanged
  pub record ValueTaken (reading : List ℕ → Option Node) (paths : List (List ℕ)) (values : List ℕ → ℕ → Option T) (p : List ℕ) (b : ℕ) (n m : Node)
      (v : Store Node) (before after : Store (Option T)) : Type 0 where
    pub hold : NodesHold node_sizes (with_node reading p m) paths v
    pub cells : CellsHold cell_sizes (with_node reading p m) (with_value values p b None) paths after
    pub fewer : own_count (Some m) + 1 ≡ own_count (Some n)
    pub children : SameChildren n m
    pub shrinks : ShrinksList MakesEntered cell_sizes before after (own_count (Some n)) (own_count (Some m)) (value_block_size (Some n)) (value_block_size (Some m))

  -- the value at bit b of the node with a path was removed, if there was one
  -- This node keeps its children, and each other node is unchanged and in its slot.
  pub record EntryTaken (reading : List ℕ → Option Node) (paths : List (List ℕ)) (values : List ℕ → ℕ → Option T) (path : List ℕ) (b : ℕ)
      (v : Store Node) (before after : Store (Option T)) : Type 0 where
    pub later : List ℕ → Option Node
    pub holds : Holds later (with_value values path b None) paths v after
    pub same : (q : List ℕ) → is_some (later q) ≡ is_some (reading q)
    pub others : (q : List ℕ) → q ≢ path → later q ≡ reading q
    pub is_there : (q : List ℕ) (slot : ℕ) → IsSlot reading q slot → IsSlot later q slot
    pub counted : entry_count later paths + one_if (is_some (values path b)) ≡ entry_count reading paths
    pub kept : is_some (values path b) ≡ false → later path ≡ reading path
    pub children : SameBlock own_children child_block_size (reading path) (later path)
    pub shrinks : ShrinksList MakesEntered cell_sizes before after (own_count (reading path)) (own_count (later path)) (value_block_size (reading path)) (value_block_size (later path))

-- a node without values and children
pub record IsBare (n : Node) : Type 0 where
  pub no_values : rank n.value_bitmap 32 ≡ 0
  pub no_children : rank n.child_bitmap 32 ≡ 0

-- a node with a value or a child
abbrev pub IsStocked : Node → Type 0
IsStocked n = (0 < rank n.value_bitmap 32) ⊎ (0 < rank n.child_bitmap 32)

-- the length, the limit and the blocks of an array are as before
pub record SameBlocks {S : Type 0} (v w : Store S) : Type 0 where
  pub space : SameSpace v w
  pub tiers : w.tiers ≡ v.tiers

-- no block was made, taken or lost, so the blocks that were free still are
pub record GivesBack {S : Type 0} (v w : Store S) : Type 0 where
  pub none : MakesNone v w
  pub sizes : tier_sizes w.tiers ≡ tier_sizes v.tiers
  pub free : (size : ℕ) → free_in v.tiers size ≤ free_in w.tiers size

-- the slot of the k-th node on a search path
abbrev pub slot_in : List ℕ → ℕ → ℕ
slot_in ancestors k = slice_index_or ancestors k 0

-- these are the slots of the nodes on the search path of a node, above this level
abbrev pub AreAncestors : (List ℕ → Option Node) → List ℕ → List ℕ → ℕ → Type 0
AreAncestors reading path ancestors level = (k : ℕ) → k < level → IsSlot reading (take k path) (slot_in ancestors k)

-- these are the slots of the nodes on the search path of a bit string, above this level
pub record AreAbove (q : List Bool) (level : ℕ) (ancestors : List ℕ) (v : Store Node) : Type 0 where
  pub long : length ancestors ≡ level
  pub slots : (reading : List ℕ → Option Node) (paths : List (List ℕ)) → NodesHold node_sizes reading paths v → AreAncestors reading (chunks_of q) ancestors level

-- the node n at p became m and lost its child c, which had no children
pub record ChildDropped (reading : List ℕ → Option Node) (paths : List (List ℕ)) (p : List ℕ) (c : ℕ) (n m : Node) (before after : Store Node) : Type 0 where
  pub hold : NodesHold node_sizes (with_child_removed reading p m c) (without (p ++ c ∷ []) paths) after
  pub values : SameValues n m
  pub fewer : rank m.child_bitmap 32 + 1 ≡ rank n.child_bitmap 32
  pub shrinks : ShrinksList MakesEntered node_sizes before after (own_children (Some n)) (own_children (Some m)) (child_block_size (Some n)) (child_block_size (Some m))
  pub bounds_growth : BoundsNodeGrowth before after

-- nodes were removed one after another, each when it had neither values nor children
pub data Drops (reading : List ℕ → Option Node) (paths : List (List ℕ)) : (List ℕ → Option Node) → List (List ℕ) → Type 0 where
  none : Drops reading paths reading paths
  more : (later : List ℕ → Option Node) (left : List (List ℕ)) (v : Store Node) (p : List ℕ) (c : ℕ) (n m leaf : Node) → Drops reading paths later left →
      NodesHold node_sizes later left v → later p ≡ Some n → later (p ++ c ∷ []) ≡ Some leaf → IsBare leaf → SameValues n m →
      Drops reading paths (with_child_removed later p m c) (without (p ++ c ∷ []) left)

-- a search path was pruned up to its node at this level, which became `node`
-- The nodes under it on the path are removed, and those above it and off the path are unchanged. The node itself lost a
-- child, or is the last of the path.
pub record PrunedTo (reading : List ℕ → Option Node) (paths : List (List ℕ)) (path : List ℕ) (level : ℕ) (node : Node) (before after : Store Node) : Type 0 where
  pub later : List ℕ → Option Node
  pub left : List (List ℕ)
  pub hold : NodesHold node_sizes later left after
  pub drops : Drops reading paths later left
  pub within : level ≤ length path
  pub is : later (take level path) ≡ Some node
  pub gone : (k : ℕ) → level < k → k ≤ length path → later (take k path) ≡ None
  pub above : (k : ℕ) → k < level → later (take k path) ≡ reading (take k path)
  pub off : (q : List ℕ) → is_start q path ≡ false → later q ≡ reading q
  pub whole : level ≡ length path → later path ≡ reading path
  pub shrinks : ShrinksList MakesFew node_sizes before after (own_children (reading (take level path))) (own_children (Some node))
      (child_block_size (reading (take level path))) (child_block_size (Some node))
  pub bounds_growth : BoundsNodeGrowth before after

-- a search path was pruned as far up as nodes are bare
pub record Pruned (reading : List ℕ → Option Node) (paths : List (List ℕ)) (path : List ℕ) (before after : Store Node) : Type 0 where
  pub level : ℕ
  pub node : Node
  pub to : PrunedTo reading paths path level node before after
  pub stops : (level ≡ 0) ⊎ IsStocked node

-- this node is the last of a search path, and these are the slots of the nodes above it
pub record IsAtEnd (path : List ℕ) (ancestors : List ℕ) (node : Node) (v : Store Node) : Type 0 where
  pub reading : List ℕ → Option Node
  pub paths : List (List ℕ)
  pub hold : NodesHold node_sizes reading paths v
  pub long : length ancestors ≡ length path
  pub slots : AreAncestors reading path ancestors (length path)
  pub is : reading path ≡ Some node

-- the value at bit b of the node with a path was removed, if there was one, and then the path was pruned
-- If the node is missing, nothing changed.
abbrev pub EntryRemoved : {T : Type 0} → (List ℕ → Option Node) → List (List ℕ) → (List ℕ → ℕ → Option T) → List ℕ → ℕ → Store Node → Store (Option T) →
    Store Node → Store (Option T) → Type 0
EntryRemoved reading paths values path b v before w after =
    ((reading path ≡ None) × (w ≡ v) × EntryTaken reading paths values path b w before after)
    ⊎ ((u : Store Node) × (is_some (reading path) ≡ true) × (t : EntryTaken reading paths values path b u before after) × Pruned t.later paths path u w
    × SameBlocks v u)
