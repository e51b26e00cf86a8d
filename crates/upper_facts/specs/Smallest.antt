-- Smallest maps, smallest sets and shortest lists of networks at one bit: an example that meets each definition, and one that
-- does not. They are this project's own.
use Rattle.std.specs.Prelude.{ℕ, true, false, [], ◌∷◌}
use Rattle.prefix_trie.specs.Terms.{Entries, no_entries, with_entry}
use Rattle.address_ranges.specs.Networks.{IsShortest}
use Rattle.prefix_trie_ops.specs.Smallest.{IsSmallest}
use Rattle.prefix_trie_ops.specs.SmallestSets.{HasNoSiblings, IsSmallestCover}

-- one value for both addresses, as one entry
abbrev pub whole : {T : Type 0} → T → Entries T
whole v = with_entry no_entries [] v

-- the same, as an entry for each address
abbrev pub halves : {T : Type 0} → T → Entries T
halves v = with_entry (with_entry no_entries (false ∷ []) v) (true ∷ []) v

pub record SmallestHold : Type 0 where
  pub one_entry : (v : ℕ) → IsSmallest 1 (whole v)
  pub two_entries : (v : ℕ) → ¬ (IsSmallest 1 (halves v))
  pub one_key : (v : ℕ) → IsSmallestCover 1 (whole v)
  pub two_keys : (v : ℕ) → ¬ (IsSmallestCover 1 (halves v))
  pub key_alone : (v : ℕ) → HasNoSiblings (whole v)
  pub siblings : (v : ℕ) → ¬ (HasNoSiblings (halves v))
  pub one_network : IsShortest 1 ([] ∷ [])
  pub two_networks : ¬ (IsShortest 1 ((false ∷ []) ∷ (true ∷ []) ∷ []))
