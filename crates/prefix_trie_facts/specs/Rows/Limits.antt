-- Worked rows: full maps, and new keys that are refused with `IndexRange`.
-- The model lets any new key be refused. These rows say what is unchanged then.
use Rattle.std.specs.Prelude.{ℕ, ◌++◌, List, [], ◌∷◌, Some, None}
use Rattle.prefix_trie_bits.specs.Model.Step.{Insert, Remove, Clear, Len, NodeCount, AddressCount, ListAll, Value, Done, Count, Addresses, Items, Refused}
use Rattle.prefix_trie_bits.specs.declared.prefix.Refusal.TheVariants.{IndexRange}
use Rattle.prefix_trie_facts.specs.Rows.Examples.{Gives, counted, full_pairs, sets}

-- the 31 pairs of lengths 0 to 4 of eight bits, in listing order
abbrev pub short_pairs : List (ℕ × ℕ)
short_pairs =
    (0, 0) ∷ (0, 1) ∷ (0, 2) ∷ (0, 3) ∷ (0, 4) ∷ (16, 4) ∷ (32, 3) ∷ (32, 4) ∷
    (48, 4) ∷ (64, 2) ∷ (64, 3) ∷ (64, 4) ∷ (80, 4) ∷ (96, 3) ∷ (96, 4) ∷ (112, 4) ∷
    (128, 1) ∷ (128, 2) ∷ (128, 3) ∷ (128, 4) ∷ (144, 4) ∷ (160, 3) ∷ (160, 4) ∷ (176, 4) ∷
    (192, 2) ∷ (192, 3) ∷ (192, 4) ∷ (208, 4) ∷ (224, 3) ∷ (224, 4) ∷ (240, 4) ∷
    []

-- the rows of this file
pub record LimitsHold : Type 0 where
  -- row 13: a new key is refused with `IndexRange`, which leaves the map unchanged; a shorter one still fits
  pub row13 : Gives 32 (
      (Insert (0, 32) 1, Refused IndexRange) ∷
      (Len, Count 0) ∷
      (NodeCount, Count 1) ∷
      (Insert (0, 4) 2, Value None) ∷
      [])
  -- row 14: the root's 31 prefixes, set and listed in listing order
  pub row14 : Gives 8 (sets (counted short_pairs) ++
      (Len, Count 31) ∷
      (NodeCount, Count 1) ∷
      (ListAll, Items (counted short_pairs)) ∷
      [])
  -- row 15: all 256 keys of eight bits
  pub row15 : Gives 8 (sets (counted (full_pairs 8)) ++
      (Len, Count 256) ∷
      (NodeCount, Count 33) ∷
      (AddressCount, Addresses None) ∷
      (Clear, Done) ∷
      (NodeCount, Count 1) ∷
      [])
  -- row 17: seven prefixes of a full root are removed, and one of them is set again
  pub row17 : Gives 8 (sets (counted short_pairs) ++
      (Remove (192, 2), Value (Some 24)) ∷
      (Remove (192, 3), Value (Some 25)) ∷
      (Remove (192, 4), Value (Some 26)) ∷
      (Remove (208, 4), Value (Some 27)) ∷
      (Remove (224, 3), Value (Some 28)) ∷
      (Remove (224, 4), Value (Some 29)) ∷
      (Remove (240, 4), Value (Some 30)) ∷
      (Len, Count 24) ∷
      (Insert (240, 4) 99, Value None) ∷
      (NodeCount, Count 1) ∷
      [])
  -- row 38: one new key is refused, and the stored entries stay
  pub row38 : Gives 8 (
      (Insert (0, 1) 1, Value None) ∷
      (Insert (128, 1) 2, Value None) ∷
      (Insert (0, 5) 3, Value None) ∷
      (NodeCount, Count 2) ∷
      (Remove (0, 1), Value (Some 1)) ∷
      (Insert (0, 1) 4, Value None) ∷
      (Insert (64, 2) 5, Refused IndexRange) ∷
      (Len, Count 3) ∷
      [])
  -- row 40: a stored key is never refused
  pub row40 : Gives 8 (
      (Insert (0, 8) 1, Value None) ∷
      (Insert (128, 8) 2, Refused IndexRange) ∷
      (Insert (0, 8) 3, Value (Some 1)) ∷
      (NodeCount, Count 2) ∷
      (ListAll, Items (((0, 8), 3) ∷ [])) ∷
      [])
