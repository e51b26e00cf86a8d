-- How many blocks of each size are used and free. This project's own.
use Rattle.std.specs.Prelude.{ℕ, ◌-◌, ◌*◌, ◌+◌, ◌==◌, List, [], ◌∷◌, length, count_by, sum_by}
use Rattle.std.specs.FinMap.{values}
use Rattle.prefix_trie_bits.specs.Model.Blocks.{Sizes}
use Rattle.prefix_trie_table.specs.declared.allocator.block_count.BlockCount.{BlockCount}
use Rattle.prefix_trie_table.specs.Blocks.Store.{Tier}

-- the counts of a tier
abbrev pub tier_count : Tier → BlockCount
tier_count t = record { size = t.size; used = t.made - length t.starts; free = length t.starts }

-- the counts for each of these sizes: `used` has the sizes of the used blocks, and `free` the numbers of free ones
abbrev pub block_counts : List ℕ → Sizes → List ℕ → List BlockCount
block_counts [] used free = []
block_counts (n ∷ ns) used [] = []
block_counts (n ∷ ns) used (f ∷ fs) = record { size = n; used = count_by (λ m. m == n) (values used); free = f } ∷ block_counts ns used fs

-- the slots of all these blocks
abbrev pub slots_counted : List BlockCount → ℕ
slots_counted counts = sum_by (λ b. b.size * (b.used + b.free)) counts

-- how many of these blocks are used
abbrev pub used_blocks : List BlockCount → ℕ
used_blocks counts = sum_by (λ b. b.used) counts
