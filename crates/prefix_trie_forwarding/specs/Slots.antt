-- What slots and groups keep, and which groups a removal gives back.
use Rattle.std.specs.Prelude.{◌≡◌, ◌≢◌, ◌⊎◌, ℕ, ◌+◌, ◌-◌, ◌*◌, ◌^◌, ◌<◌, ◌≤◌, List, length, slice_index}
use Rattle.std.proofs.Common.{suc}
use Rattle.prefix_trie_forwarding.specs.Counts.{IsCounted}
use Rattle.prefix_trie_forwarding.specs.Walks.{AreFree, AreSlots, HasGroup, HasValues, IsAddress, IsSame, Reaches, answer, upper}

-- the slots of a root by so many bits, and so many groups, of which some are free
pub record AreGroups (root_bits made : ℕ) (slots free : List ℕ) : Type 0 where
  pub sizes : length slots ≡ 2 ^ root_bits + 256 * made
  pub small : made ≤ 2147483648
  pub within : length free ≤ made
  pub slots_are : AreSlots made (slice_index slots)
  pub free_are : AreFree made (slice_index slots) free

-- and the walk of each address ends with an answer, and each group is free or that of a block
pub record IsSlots (root_bits levels made : ℕ) (slots free : List ℕ) : Type 0 where
  pub few_bits : root_bits ≤ 24
  pub few_levels : levels ≤ 16
  pub set : AreGroups root_bits made slots free
  pub values : HasValues (2 ^ root_bits) levels (slice_index slots)
  pub counted : IsCounted root_bits levels made (slice_index slots) free

-- the addresses of a block, which are the same but for their last k + 1 bytes, have answers of matches no longer than it
abbrev pub IsSpare : ℕ → ℕ → (ℕ → ℕ) → ℕ → ℕ → Type 0
IsSpare root_bits levels s a k = (c : ℕ) → IsAddress (2 ^ root_bits) levels c → upper (suc k) c ≡ upper (suc k) a
    → answer (2 ^ root_bits) levels s c < (root_bits + 8 * (levels - suc k) + 2) * 8388608

-- the block of an address has a group with a slot that refers to another group, has the answer of a longer match, or
-- has another answer than its first slot
pub record IsUsed (root_bits levels : ℕ) (s : ℕ → ℕ) (a k : ℕ) : Type 0 where
  pub steps : ℕ
  pub at : ℕ
  pub reached : Reaches (2 ^ root_bits) levels s a steps (suc k) at
  pub group : 2147483648 ≤ s at
  pub slot : ℕ
  pub inside : slot < 256
  pub used : ((root_bits + 8 * (levels - suc k) + 2) * 8388608 ≤ s (2 ^ root_bits + 256 * (s at - 2147483648)))
      ⊎ (s (2 ^ root_bits + 256 * (s at - 2147483648) + slot) ≢ s (2 ^ root_bits + 256 * (s at - 2147483648)))

-- of the groups of the blocks that the addresses lie in that are b but for so many last bits, the spare ones are given
-- back, from the last one on
pub record Trims (root_bits levels b bits : ℕ) (s t : ℕ → ℕ) : Type 0 where
  pub same : IsSame (2 ^ root_bits) levels s t
  pub less : (a k : ℕ) → IsAddress (2 ^ root_bits) levels a → HasGroup (2 ^ root_bits) levels t a k → HasGroup (2 ^ root_bits) levels s a k
  pub kept : (a k : ℕ) → IsAddress (2 ^ root_bits) levels a → HasGroup (2 ^ root_bits) levels s a k
      → HasGroup (2 ^ root_bits) levels t a k ⊎ ((bits < 8 * suc k) × (upper (suc k) a ≡ upper (suc k) b) × IsSpare root_bits levels s a k)
  pub ends : (k : ℕ) → bits < 8 * suc k → HasGroup (2 ^ root_bits) levels t b k
      → (j : ℕ) × (j ≤ k) × (bits < 8 * suc j) × IsUsed root_bits levels t b j × ((i : ℕ) → i < j → bits < 8 * suc i → HasGroup (2 ^ root_bits) levels t b i → ⊥)
