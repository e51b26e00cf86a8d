-- What contracts see of an array that is cut into blocks, as by the block allocator of the Rust crate. This project's own.
use Rattle.std.specs.Prelude.{◌≡◌, ℕ, zero, suc, ◌+◌, ◌-◌, ◌*◌, ◌≤◌, ◌<◌, ◌==◌, cond, List, [], ◌∷◌, ◌++◌, Option, length, map, filter, count_by, sum_by, replicate, slice_index_or, slice_set, All, option_to_list, None, Some, IsSome, Result, MatchResult, IfErr, OnErr}
use Rattle.prefix_trie_bits.specs.Calls.Blocks.{AreBlocksOf, Block as Extent}
use Rattle.prefix_trie_bits.specs.Model.Blocks.{smallest_size, free_of, one_of}
use Rattle.prefix_trie_bits.specs.Model.Insertion.{block_needed, missing_of, slots_of_missing}
use Rattle.prefix_trie_table.specs.Blocks.Growth.{EachReserves}
use Rattle.prefix_trie_table.specs.Blocks.Runs.{run}

-- the blocks of one size: how many there are, and where the free ones start
pub record Tier : Type 0 where
  pub size : ℕ
  pub made : ℕ
  pub starts : List ℕ

-- the array, the slot where its first block starts, its tiers, its limit, and the capacity in slots of each vector that
-- the array is kept in
pub record Store (S : Type 0) : Type 0 where
  pub slots : List S
  pub first : ℕ
  pub tiers : List Tier
  pub limit : ℕ
  pub capacities : List ℕ

-- a used block: its tier, its first slot, its size, and its list
pub record UsedBlock (S : Type 0) : Type 0 where
  pub tier : ℕ
  pub start : ℕ
  pub size : ℕ
  pub items : List S

-- the tier at k, which is one of those in the store
abbrev pub tier_at : List Tier → ℕ → Tier
tier_at ts k = slice_index_or ts k (record { size = 0; made = 0; starts = [] })

-- the slots that blocks of these tiers take
abbrev pub slots_made : List Tier → ℕ
slots_made ts = sum_by (λ t. t.size * t.made) ts

-- the size of each tier's blocks
abbrev pub tier_sizes : List Tier → List ℕ
tier_sizes ts = map (λ t. t.size) ts

-- the extent of a used block
abbrev pub extent : {S : Type 0} → UsedBlock S → Extent
extent b = record { start = b.start; size = b.size }

-- the extent of a block of this size from this slot on
abbrev pub of_size : ℕ → ℕ → Extent
of_size n s = record { start = s; size = n }

-- the extents of the free blocks
abbrev pub free_extents : List Tier → List Extent
free_extents [] = []
free_extents (t ∷ ts) = map (of_size t.size) t.starts ++ free_extents ts

-- the block has the size of its tier
pub record IsOfTier {S : Type 0} (ts : List Tier) (b : UsedBlock S) : Type 0 where
  pub within : b.tier < length ts
  pub size_is : b.size ≡ (tier_at ts b.tier).size

-- a list, filled up with vacant slots to n slots
abbrev pub filled : {S : Type 0} → S → ℕ → List S → List S
filled vacant n xs = xs ++ replicate (n - length xs) vacant

-- the block's slots have its items, and the rest of them are vacant
abbrev pub HoldsItems : {S : Type 0} → S → List S → UsedBlock S → Type 0
HoldsItems vacant slots b = run slots b.start b.size ≡ filled vacant b.size b.items

-- each slot of a block is vacant
abbrev pub IsVacant : {S : Type 0} → S → List S → Extent → Type 0
IsVacant vacant slots e = run slots e.start e.size ≡ replicate e.size vacant

-- these are the used blocks, and the array has their items and nothing else
pub record Sound {S : Type 0} (vacant : S) (live : List (UsedBlock S)) (v : Store S) : Type 0 where
  -- the used and the free blocks together tile the array from its first block on, in any order
  pub blocks : AreBlocksOf (tier_sizes v.tiers) v.first (map extent live) (free_extents v.tiers) (length v.slots)
  -- each used block has the size of its tier, and each tier counts its blocks
  pub of_tier : All (IsOfTier v.tiers) live
  pub counted : (k : ℕ) → k < length v.tiers → (tier_at v.tiers k).made ≡ length (tier_at v.tiers k).starts + count_by (λ b. b.tier == k) live
  -- each used block has exactly its items, in order from its first slot on; its other slots are vacant
  pub held : All (HoldsItems vacant v.slots) live
  -- each slot of a free block is vacant
  pub vacated : All (IsVacant vacant v.slots) (free_extents v.tiers)

-- the store with another tier at k
abbrev pub with_tier : {S : Type 0} → Store S → ℕ → Tier → Store S
with_tier v k t = record v { tiers = slice_set v.tiers k t }

-- the tier of this size without blocks
abbrev pub no_blocks : ℕ → Tier
no_blocks n = record { size = n; made = 0; starts = [] }

-- ---- used blocks

-- a used block with these items
abbrev pub block : {S : Type 0} → ℕ → ℕ → ℕ → List S → UsedBlock S
block k start size items = record { tier = k; start = start; size = size; items = items }

-- the block of these items, if there are any
abbrev pub held : {S : Type 0} → ℕ → ℕ → ℕ → List S → List (UsedBlock S)
held k start size [] = []
held k start size (x ∷ xs) = block k start size (x ∷ xs) ∷ []

-- the block of tier k from the slot `start` on is used, and has `count` values
pub record InUse {S : Type 0} (vacant : S) (v : Store S) (k start count : ℕ) : Type 0 where
  pub live : List (UsedBlock S)
  pub size : ℕ
  pub items : List S
  pub is_count : length items ≡ count
  pub sound : Sound vacant (block k start size items ∷ live) v

-- a list of `count` values is in a block of tier k from the slot `start` on; an empty list has no block
pub record HasList {S : Type 0} (vacant : S) (v : Store S) (k start count : ℕ) : Type 0 where
  pub live : List (UsedBlock S)
  pub size : ℕ
  pub items : List S
  pub is_count : length items ≡ count
  pub sound : Sound vacant (held k start size items ++ live) v

-- ---- numbers of blocks by their size, in the terms of the model

-- the size at k
abbrev pub size_in : List ℕ → ℕ → ℕ
size_in sizes k = slice_index_or sizes k 0

-- how many blocks of each tier are free
abbrev pub free_counts : List Tier → List ℕ
free_counts ts = map (λ t. length t.starts) ts

-- how many blocks of a size are free
abbrev pub free_in : List Tier → ℕ → ℕ
free_in ts size = free_of (tier_sizes ts) (free_counts ts) size

-- how many blocks of a size there are, used and free
abbrev pub made_in : List Tier → ℕ → ℕ
made_in ts size = free_of (tier_sizes ts) (map (λ t. t.made) ts) size

-- the size if there is an item, and otherwise none
abbrev pub size_if_any : ℕ → ℕ → Option ℕ
size_if_any zero size = None
size_if_any (suc n) size = Some size

-- the size of the block of a list of `count` values in tier k
abbrev pub list_size : List Tier → ℕ → ℕ → Option ℕ
list_size ts k count = size_if_any count (size_in (tier_sizes ts) k)

-- the size of the block that must be free before such a list gets one more value
abbrev pub list_need : List Tier → ℕ → ℕ → Option ℕ
list_need ts k count = block_needed (tier_sizes ts) (list_size ts k count) count

-- the sizes of the blocks that one list needs for one more item, and `lists` empty lists for their first
abbrev pub needs : Option ℕ → ℕ → List ℕ
needs o lists = option_to_list o ++ replicate lists 1

-- blocks of all these sizes are free
abbrev pub AreFree : List Tier → List ℕ → Type 0
AreFree ts needed = (size : ℕ) → length (filter (λ s. s == size) needed) ≤ free_in ts size

-- such a list can get one more value: some size holds them all, and the block that it needs is free
abbrev pub IsReady : List Tier → ℕ → ℕ → Type 0
IsReady ts k count = IsSome (smallest_size (tier_sizes ts) (count + 1)) × AreFree ts (needs (list_need ts k count) 0)

-- how many of the needed blocks of a size are missing
abbrev pub missing_in : {S : Type 0} → Store S → List ℕ → ℕ → ℕ
missing_in v needed = missing_of (tier_sizes v.tiers) (free_counts v.tiers) needed

-- the slots of the missing blocks
abbrev pub missing_slots : {S : Type 0} → Store S → List ℕ → ℕ
missing_slots v needed = slots_of_missing (tier_sizes v.tiers) (free_counts v.tiers) needed

-- m blocks of one size, and none of any other
abbrev pub many_of : ℕ → ℕ → ℕ → ℕ
many_of n m size = cond (n == size) m 0

-- no block of any size
abbrev pub none_of : ℕ → ℕ
none_of size = 0

-- the slots of n blocks of each of these sizes, for a function n of the size
abbrev pub slots_of : List ℕ → (ℕ → ℕ) → ℕ
slots_of [] n = 0
slots_of (size ∷ sizes) n = size * n size + slots_of sizes n

-- ---- how a call changes an array

-- each slot that there was is unchanged
abbrev pub SameSlots : {S : Type 0} → Store S → Store S → Type 0
SameSlots {S} v w = (i : ℕ) (d : S) → i < length v.slots → slice_index_or w.slots i d ≡ slice_index_or v.slots i d

-- the length of the array, the start of its first block and its limit are as before
abbrev pub SameSpace : {S : Type 0} → Store S → Store S → Type 0
SameSpace v w = (length w.slots ≡ length v.slots) × (w.first ≡ v.first) × (w.limit ≡ v.limit)

-- there are at least as many blocks of each size as before
abbrev pub KeepsMade : {S : Type 0} → Store S → Store S → Type 0
KeepsMade v w = (size : ℕ) → made_in v.tiers size ≤ made_in w.tiers size

-- there are as many blocks of each size as before
abbrev pub SameMade : {S : Type 0} → Store S → Store S → Type 0
SameMade v w = (size : ℕ) → made_in w.tiers size ≡ made_in v.tiers size

-- no block was made
pub record MakesNone {S : Type 0} (v w : Store S) : Type 0 where
  pub space : SameSpace v w
  pub made : SameMade v w

-- the start of the first block, the slots before it, the sizes and the limit are unchanged; the limit holds if it held
-- The capacity of each vector was reserved for the slots that there are and at most one block: one that was not made because memory for
-- its entry in the free list was refused.
pub record Keeps {S : Type 0} (v w : Store S) : Type 0 where
  pub first_is : w.first ≡ v.first
  pub limit_is : w.limit ≡ v.limit
  pub sizes : tier_sizes w.tiers ≡ tier_sizes v.tiers
  pub before : (i : ℕ) (d : S) → i < v.first → slice_index_or w.slots i d ≡ slice_index_or v.slots i d
  pub longer : length v.slots ≤ length w.slots
  pub within : length v.slots ≤ v.limit → length w.slots ≤ w.limit
  pub grown : EachReserves v.capacities (length w.slots + 32) w.capacities

-- this number of blocks of each size was made, and the array is longer by their slots; a list moved from a block of the
-- size `old` to one of the size `new`; all other used and free blocks are unchanged
pub record Turnover {S : Type 0} (v w : Store S) (made : ℕ → ℕ) (old new : Option ℕ) : Type 0 where
  pub keeps : Keeps v w
  pub made_is : (size : ℕ) → made_in w.tiers size ≡ made_in v.tiers size + made size
  pub free_is : (size : ℕ) → free_in w.tiers size + one_of new size ≡ free_in v.tiers size + made size + one_of old size
  pub longer : length w.slots ≡ length v.slots + slots_of (tier_sizes v.tiers) made

-- a call that needs free blocks of these sizes made the missing ones, or some of them if it was refused
-- It is refused only if some are missing. It is refused for the limit only if they exceed it, and for memory only if one
-- that is still missing would fit.
pub record Obtains {X E S : Type 0} (for_limit for_memory : E → Type 0) (r : Result X E) (v w : Store S) (needed : List ℕ) : Type 0 where
  pub made : MatchResult r (λ _. Turnover v w (missing_in v needed) None None)
      (λ _. (m : ℕ → ℕ) × ((size : ℕ) → m size ≤ missing_in v needed size) × Turnover v w m None None)
  pub range : IfErr r (λ e. for_limit e → v.limit < length v.slots + missing_slots v needed)
  pub memory : IfErr r (λ e. for_memory e → (size : ℕ) × (0 < missing_in w needed size) × (length w.slots + size ≤ w.limit))
  pub some_missing : OnErr r (0 < missing_slots v needed)
