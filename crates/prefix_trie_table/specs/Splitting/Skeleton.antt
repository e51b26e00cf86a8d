-- A second table before its values are moved: its nodes and blocks are built, and each cell is vacant. This project's own.
use Rattle.std.specs.Prelude.{◌≡◌, ℕ, ◌≤◌, Bool, true, List, ◌∷◌, flat_map, Option, None, is_some, length}
use Rattle.prefix_trie_table.specs.declared.allocator.node.Node.{Node}
use Rattle.prefix_trie_table.specs.Blocks.Cells.{node_at, node_sizes, cell_sizes}
use Rattle.prefix_trie_table.specs.Forest.{NodesHold, value_blocks}
use Rattle.prefix_trie_table.specs.Splitting.Built.{IsPart, SomeValue, no_value}
use Rattle.prefix_trie_table.specs.Splitting.Building.{NoneFree}
use Rattle.prefix_trie_table.specs.Blocks.Store.{Store, Sound, tier_sizes}

module _ {T : Type 0} where
  -- two arrays have the nodes and the blocks, still vacant, for the values in v whose strings begin with q
  pub record IsSkeleton (q : List Bool) (v v2 : Store Node) (w2 : Store (Option T)) : Type 0 where
    pub reading : List ℕ → Option Node
    pub paths : List (List ℕ)
    pub nodes : NodesHold node_sizes reading paths v2
    -- each node with values has one used block of values, without any value so far
    pub cells : Sound None (flat_map (value_blocks cell_sizes reading no_value) paths) w2
    pub cells_first : w2.first ≡ 0
    pub cell_sizes_are : tier_sizes w2.tiers ≡ cell_sizes
    -- there is a cell for each value of the first table whose string begins with q
    -- Each block is the smallest that holds its list.
    pub part : IsPart v.slots (node_at v.slots 0) q reading
    -- each node except the root has such a value, or is above one
    pub needed : (c : ℕ) (p : List ℕ) → is_some (reading (c ∷ p)) ≡ true → SomeValue reading (c ∷ p)
    -- no block is free
    pub no_node_free : NoneFree v2
    pub no_cell_free : NoneFree w2

  -- such arrays under the limit of v, which neither array exceeds
  pub record IsSecond (q : List Bool) (v v2 : Store Node) (w2 : Store (Option T)) : Type 0 where
    pub skeleton : IsSkeleton q v v2 w2
    pub node_limit : v2.limit ≡ v.limit
    pub cell_limit : w2.limit ≡ v.limit
    pub nodes_within : length v2.slots ≤ v.limit
    pub cells_within : length w2.slots ≤ v.limit
