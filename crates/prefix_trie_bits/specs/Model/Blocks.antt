-- How the two arrays are cut into blocks. The sizes are those of the Rust crate; the definitions
-- are this project's own.
-- `sizes` lists the sizes of one array, smallest first. `free : List ℕ` has the number of free
-- blocks of each of them.
use Rattle.std.specs.Prelude.{◌≡◌, ◌≢◌, ℕ, ◌+◌, ◌-◌, ◌<◌, ◌≤◌, ◌⊎◌, Bool, true, false, cond, ◌==◌, ◌&&◌, List, [], ◌∷◌, Option, None, Some, length, filter, find, count_by, Contains, nat_le, nat_lt}
use Rattle.std.specs.FinMap.{FinMap, empty, get, keys, values}
use Rattle.prefix_trie_bits.specs.Model.Bits.{begins}
use Rattle.prefix_trie_bits.specs.Model.Order.{listing_cmp}
use Rattle.prefix_trie_bits.specs.Model.Entries.{Entries}
use Rattle.prefix_trie_bits.specs.Model.Nodes.{Nodes, has_node}

-- the sizes of blocks of values, in slots
abbrev pub value_block_sizes : List ℕ
value_block_sizes = 1 ∷ 2 ∷ 4 ∷ 8 ∷ 16 ∷ 24 ∷ 31 ∷ []

-- the sizes of blocks of children, in slots
abbrev pub child_block_sizes : List ℕ
child_block_sizes = 1 ∷ 2 ∷ 4 ∷ 8 ∷ 16 ∷ 24 ∷ 32 ∷ []

-- the smallest size that holds n items, if there is one
abbrev pub smallest_size : List ℕ → ℕ → Option ℕ
smallest_size sizes n = find (λ size. nat_le n size) sizes

-- the sizes of blocks, by the bit strings of the nodes that own them
abbrev pub Sizes : Type 0
Sizes = FinMap listing_cmp ℕ

-- the layout of a map: the size of each node's block of children and of values, and for each size
-- the number of free blocks
pub record Layout : Type 0 where
  pub child_blocks : Sizes
  pub value_blocks : Sizes
  pub free_child_blocks : List ℕ
  pub free_value_blocks : List ℕ

-- the number of free blocks of a size
abbrev pub free_of : List ℕ → List ℕ → ℕ → ℕ
free_of (s ∷ sizes) (f ∷ free) size = cond (s == size) f (free_of sizes free size)
free_of sizes free size = 0

-- a list shrinks from `before` to `after` items in one step, and the size of its block changes from
-- `old` to `new`
-- The block is unchanged if the list is, and freed if the list is empty. Otherwise it keeps its
-- size or shrinks to the smallest that holds the list. It must shrink if a block of that size was
-- free.
pub record StepsDown (sizes free : List ℕ) (before after : ℕ) (old new : Option ℕ) : Type 0 where
  pub fewer : after ≤ before
  pub same : after ≡ before → new ≡ old
  pub none : after ≡ 0 → new ≡ None
  pub one_of : after < before → 0 < after → (new ≡ old) ⊎ (new ≡ smallest_size sizes after)
  pub smallest : (size : ℕ) → after < before → 0 < after → smallest_size sizes after ≡ Some size → 0 < free_of sizes free size → new ≡ Some size

-- a list shrinks from `before` to `after` items in any number of steps
-- As in `StepsDown`, except that the new size may be any from the smallest that holds the list up
-- to the old size.
pub record StepsBetween (sizes : List ℕ) (before after : ℕ) (old new : Option ℕ) : Type 0 where
  pub fewer : after ≤ before
  pub same : after ≡ before → new ≡ old
  pub none : after ≡ 0 → new ≡ None
  pub between : after < before → 0 < after → (n : ℕ) × (o : ℕ) × (new ≡ Some n) × (old ≡ Some o) × (n ≤ o) ×
      ((size : ℕ) → smallest_size sizes after ≡ Some size → size ≤ n) × Contains sizes n

-- the block of each node p steps down, as its list shrinks from `before p` to `after p` items; only
-- nodes have blocks
pub record SizesStepDown (sizes free : List ℕ) (n : Nodes) (before after : List Bool → ℕ) (old new : Sizes) : Type 0 where
  pub at_nodes : (p : List Bool) → has_node n p ≡ true → StepsDown sizes free (before p) (after p) (get old p) (get new p)
  pub elsewhere : (p : List Bool) → has_node n p ≡ false → get new p ≡ None

-- the same in any number of steps
pub record SizesStepBetween (sizes : List ℕ) (n : Nodes) (before after : List Bool → ℕ) (old new : Sizes) : Type 0 where
  pub at_nodes : (p : List Bool) → has_node n p ≡ true → StepsBetween sizes (before p) (after p) (get old p) (get new p)
  pub elsewhere : (p : List Bool) → has_node n p ≡ false → get new p ≡ None

-- an array keeps its length, or grows by the new block of a list
-- It grows only if the new block has another size than the old one and no block of that size was
-- free.
abbrev pub LongerByOne : List ℕ → List ℕ → Option ℕ → Option ℕ → ℕ → ℕ → Type 0
LongerByOne sizes free old new before after =
    (after ≡ before) ⊎ ((size : ℕ) × (new ≡ Some size) × (old ≢ Some size) × (free_of sizes free size ≡ 0) × (after ≡ before + size))

-- the layout of a new map: no blocks
abbrev pub no_layout : Layout
no_layout = record {
  child_blocks = empty;
  value_blocks = empty;
  free_child_blocks = 0 ∷ 0 ∷ 0 ∷ 0 ∷ 0 ∷ 0 ∷ 0 ∷ [];
  free_value_blocks = 0 ∷ 0 ∷ 0 ∷ 0 ∷ 0 ∷ 0 ∷ 0 ∷ [];
}

module _ {T : Type 0} where
  -- the number of values in the node p: the entries whose keys begin with p and are fewer than five
  -- bits longer
  abbrev pub own_entries : Entries T → List Bool → ℕ
  own_entries m p = length (filter (λ s. begins p s && nat_lt (length s) (length p + 5)) (keys m))

-- the number of children of the node p: the nodes whose strings begin with p and are five bits
-- longer
abbrev pub child_count : Nodes → List Bool → ℕ
child_count n p = length (filter (λ s. begins p s && (length s == length p + 5)) (keys n))

-- the number of used blocks of a size
abbrev pub used_of : Sizes → ℕ → ℕ
used_of blocks size = count_by (λ n. n == size) (values blocks)

-- no blocks are lost: of each size there are at least as many as before, used and free together
abbrev pub LosesNoBlock : List ℕ → Sizes → List ℕ → Sizes → List ℕ → Type 0
LosesNoBlock sizes used free used2 free2 = (size : ℕ) → Contains sizes size →
    used_of used size + free_of sizes free size ≤ used_of used2 size + free_of sizes free2 size

-- no blocks are lost in either array
abbrev pub KeepsBlocks : Layout → Layout → Type 0
KeepsBlocks before after =
    LosesNoBlock child_block_sizes before.child_blocks before.free_child_blocks after.child_blocks after.free_child_blocks
    × LosesNoBlock value_block_sizes before.value_blocks before.free_value_blocks after.value_blocks after.free_value_blocks

-- the number of blocks of children of a size, used and free together
abbrev pub child_block_count : Layout → ℕ → ℕ
child_block_count layout size = used_of layout.child_blocks size + free_of child_block_sizes layout.free_child_blocks size

-- the number of blocks of values of a size, used and free together
abbrev pub value_block_count : Layout → ℕ → ℕ
value_block_count layout size = used_of layout.value_blocks size + free_of value_block_sizes layout.free_value_blocks size

-- of each size, exactly `made` blocks are added
abbrev pub MakesBlocks : List ℕ → (ℕ → ℕ) → (ℕ → ℕ) → (ℕ → ℕ) → Type 0
MakesBlocks sizes made before after = (size : ℕ) → Contains sizes size → after size ≡ before size + made size

-- of each size, between none and `most` blocks are added
abbrev pub MakesAtMost : List ℕ → (ℕ → ℕ) → (ℕ → ℕ) → (ℕ → ℕ) → Type 0
MakesAtMost sizes most before after =
    (size : ℕ) → Contains sizes size → (before size ≤ after size) × (after size ≤ before size + most size)

-- 1 if the block has this size, else 0
abbrev pub one_of : Option ℕ → ℕ → ℕ
one_of None size = 0
one_of (Some n) size = cond (n == size) 1 0

-- the number of blocks of a size that are made when a list moves from a block of the size `old` to
-- one of the size `new`
-- A block is made only for a new size, and only if none of it was free.
abbrev pub made_of : List ℕ → List ℕ → Option ℕ → Option ℕ → ℕ → ℕ
made_of sizes free old new size = one_of new size - (one_of old size + free_of sizes free size)
