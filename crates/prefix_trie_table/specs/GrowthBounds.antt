-- By how many slots the calls that remove values and nodes may lengthen the arrays. This project's
-- own.
use Rattle.std.specs.Prelude.{ℕ, ◌+◌, ◌≤◌, List, [], ◌∷◌, Option, None, Some, length, filter, nat_lt, sum_by}
use Rattle.std.specs.FinMap.{values}
use Rattle.prefix_trie_bits.specs.Model.Blocks.{Sizes}
use Rattle.prefix_trie_table.specs.declared.allocator.node.Node.{Node}
use Rattle.prefix_trie_table.specs.OwnBlocks.{child_block_size, value_block_size}
use Rattle.prefix_trie_table.specs.Blocks.Store.{Store}

-- the sizes of blocks except the largest, which are the same for nodes and for values
abbrev pub smaller_sizes : List ℕ
smaller_sizes = 1 ∷ 2 ∷ 4 ∷ 8 ∷ 16 ∷ 24 ∷ []

-- the slots of one block of each smaller size: a list in a block of this size makes no more as it loses its items
unfoldable pub headroom : ℕ → ℕ
headroom size = sum_by (λ n. n) (filter (λ n. nat_lt n size) smaller_sizes)

-- the value of a function for a size, or 0 if there is no size
abbrev pub of_any : (ℕ → ℕ) → Option ℕ → ℕ
of_any f None = 0
of_any f (Some size) = f size

-- the headroom of a block that may be missing
abbrev pub headroom_if_any : Option ℕ → ℕ
headroom_if_any = of_any headroom

-- the headroom of all blocks of these sizes
abbrev pub headroom_of : Sizes → ℕ
headroom_of sizes = sum_by headroom (values sizes)

-- the headroom of the block of a node's children, and of the block of its values
abbrev pub child_headroom : Node → ℕ
child_headroom n = headroom_if_any (child_block_size (Some n))

abbrev pub value_headroom : Node → ℕ
value_headroom n = headroom_if_any (value_block_size (Some n))

-- the length that the array of nodes can reach while items are removed
abbrev pub node_reach : Store Node → ℕ
node_reach v = length v.slots + sum_by child_headroom v.slots

-- this bound does not rise for either array; the array of values has the length `long` before and `long2` after
pub record BoundsGrowthBy (v v2 : Store Node) (long long2 : ℕ) : Type 0 where
  pub nodes : node_reach v2 ≤ node_reach v
  pub cells : long2 + sum_by value_headroom v2.slots ≤ long + sum_by value_headroom v.slots

abbrev pub BoundsGrowth : {T : Type 0} → Store Node → Store Node → Store (Option T) → Store (Option T) → Type 0
BoundsGrowth v v2 w w2 = BoundsGrowthBy v v2 (length w.slots) (length w2.slots)

-- the same if the array of values did not change
abbrev pub BoundsNodeGrowth : Store Node → Store Node → Type 0
BoundsNodeGrowth v v2 = BoundsGrowthBy v v2 0 0
