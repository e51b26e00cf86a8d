-- What a call that removes one item of a list does to its array. This project's own.
use Rattle.std.specs.Prelude.{ℕ, ◌-◌, Option}
use Rattle.prefix_trie_bits.specs.Model.Blocks.{StepsDown, made_of}
use Rattle.prefix_trie_table.specs.Blocks.Store.{Store, Turnover, tier_sizes, free_counts}

-- a list of `count` items loses one, and steps down from a block of the size `old` to one of the size `new`
-- The new block was made if none of its size was free.
pub record LosesOne {S : Type 0} (v w : Store S) (count : ℕ) (old new : Option ℕ) : Type 0 where
  pub turnover : Turnover v w (made_of (tier_sizes v.tiers) (free_counts v.tiers) old new) old new
  pub steps : StepsDown (tier_sizes v.tiers) (free_counts v.tiers) count (count - 1) old new
