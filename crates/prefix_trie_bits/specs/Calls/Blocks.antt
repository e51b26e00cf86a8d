-- How blocks tile an array, and that each list has a block that holds it. This project's own.
use Rattle.std.specs.Prelude.{◌≡◌, ℕ, zero, suc, ◌+◌, ◌≤◌, Bool, true, false, List, [], ◌∷◌, ◌++◌, Option, None, Some, Contains, IsPermutation}
use Rattle.std.specs.FinMap.{get}
use Rattle.prefix_trie_bits.specs.Model.Nodes.{Nodes, has_node}
use Rattle.prefix_trie_bits.specs.Model.Blocks.{Sizes}

-- a block: its first slot and its number of slots
pub record Block : Type 0 where
  pub start : ℕ
  pub size : ℕ

-- blocks of these sizes lie end to end, from the slot `first` up to, but not including, the slot
-- `end`
abbrev pub Tiles : List ℕ → ℕ → List Block → ℕ → Type 0
Tiles sizes first [] end = end ≡ first
Tiles sizes first (b ∷ bs) end = Contains sizes b.size × (b.start ≡ first) × Tiles sizes (first + b.size) bs end

-- the used and the free blocks together tile the array, in any order
pub record AreBlocksOf (sizes : List ℕ) (first : ℕ) (live free : List Block) (end : ℕ) : Type 0 where
  pub blocks : List Block
  pub tiles : Tiles sizes first blocks end
  pub rearranged : IsPermutation (live ++ free) blocks

-- a list of `count` items has a block that holds it; the empty list has none
abbrev pub HasBlock : List ℕ → ℕ → Option ℕ → Type 0
HasBlock sizes zero block = block ≡ None
HasBlock sizes (suc n) block = (size : ℕ) × (block ≡ Some size) × Contains sizes size × (suc n ≤ size)

-- each node p has a block for its list of `count p` items; only nodes have blocks
pub record NodesHaveBlocks (sizes : List ℕ) (n : Nodes) (count : List Bool → ℕ) (blocks : Sizes) : Type 0 where
  pub at_nodes : (p : List Bool) → has_node n p ≡ true → HasBlock sizes (count p) (get blocks p)
  pub elsewhere : (p : List Bool) → has_node n p ≡ false → get blocks p ≡ None
