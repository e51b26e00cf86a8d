-- How building a whole list at once changes an array of blocks. This project's own.
use Rattle.std.specs.Prelude.{◌≡◌, ℕ, ◌+◌, ◌<◌, ◌≤◌, List, ◌++◌, Some, length}
use Rattle.prefix_trie_bits.specs.Model.Blocks.{smallest_size}
use Rattle.prefix_trie_table.specs.declared.allocator.blocks.BlockRef.{BlockRef}
use Rattle.prefix_trie_table.specs.Blocks.Store.{Store, UsedBlock, Sound, Keeps, tier_at, tier_sizes, size_in, free_in, held}

-- no block of any size is free
abbrev pub NoneFree : {S : Type 0} → Store S → Type 0
NoneFree v = (size : ℕ) → free_in v.tiers size ≡ 0

-- the list is in a block of the smallest size that holds it, which was free or was made
-- An empty list has no block. No other list changed.
pub record BuildsList {S : Type 0} (vacant : S) (v w : Store S) (items : List S) (at : BlockRef) : Type 0 where
  pub tier : 0 < length items → at.tier < length v.tiers
  pub size : 0 < length items → smallest_size (tier_sizes v.tiers) (length items) ≡ Some (size_in (tier_sizes v.tiers) at.tier)
  pub none : length items ≡ 0 → at ≡ record { tier = 0; start = 0 }
  pub sound : (live : List (UsedBlock S)) → Sound vacant live v → Sound vacant (held at.tier at.start (tier_at v.tiers at.tier).size items ++ live) w
  pub keeps : Keeps v w
  pub none_free : NoneFree v → NoneFree w

-- the array has blocks of these sizes, and its limit allows this number of slots more
pub record CanBuild {S : Type 0} (vacant : S) (sizes : List ℕ) (slots : ℕ) (v : Store S) : Type 0 where
  pub live : List (UsedBlock S)
  pub sound : Sound vacant live v
  pub sizes_are : tier_sizes v.tiers ≡ sizes
  pub space : length v.slots + slots ≤ v.limit

-- these blocks were built, in at most this number of new slots, and nothing else changed
-- If no block was free before, none is.
pub record Builds {S : Type 0} (vacant : S) (blocks : List (UsedBlock S)) (slots : ℕ) (v w : Store S) : Type 0 where
  pub sound : (live : List (UsedBlock S)) → Sound vacant live v → Sound vacant (blocks ++ live) w
  pub longer : length w.slots ≤ length v.slots + slots
  pub keeps : Keeps v w
  pub none_free : NoneFree v → NoneFree w
