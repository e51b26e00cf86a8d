-- Worked rows: each width, and the last node of its search paths.
use Rattle.std.specs.Prelude.{ℕ, ◌++◌, List, [], ◌∷◌, Some, None}
use Rattle.prefix_trie_bits.specs.Model.Step.{Insert, Lpm, Spm, Remove, Len, NodeCount, AddressCount, ListAll, Value, Match, Count, Addresses, Items}
use Rattle.prefix_trie_facts.specs.Rows.Examples.{Gives, counted, full_pairs, sets}

-- the 15 pairs of three bits, in listing order
abbrev three_bits : List (ℕ × ℕ)
three_bits =
    (0, 0) ∷ (0, 1) ∷ (0, 2) ∷ (0, 3) ∷ (1, 3) ∷ (2, 2) ∷ (2, 3) ∷ (3, 3) ∷
    (4, 1) ∷ (4, 2) ∷ (4, 3) ∷ (5, 3) ∷ (6, 2) ∷ (6, 3) ∷ (7, 3) ∷
    []

-- the rows of this file
pub record WidthsHold : Type 0 where
  -- row 6: 128 bits, whose last node has three levels
  pub row6 : Gives 128 (
      (Insert (0, 125) 1, Value None) ∷
      (Insert (1, 128) 2, Value None) ∷
      (Lpm (1, 128), Match (Some ((1, 128), 2))) ∷
      (Lpm (2, 128), Match (Some ((0, 125), 1))) ∷
      (NodeCount, Count 26) ∷
      [])
  -- row 29, for u64: 64 bits
  pub row29 : Gives 64 (
      (Insert (0, 60) 1, Value None) ∷
      (Insert (5, 64) 2, Value None) ∷
      (Insert (6, 63) 3, Value None) ∷
      (Lpm (5, 64), Match (Some ((5, 64), 2))) ∷
      (Lpm (4, 64), Match (Some ((0, 60), 1))) ∷
      (Lpm (7, 64), Match (Some ((6, 63), 3))) ∷
      (Spm (5, 64), Match (Some ((0, 60), 1))) ∷
      [])
  -- row 41, second part: the last prefix of 128 bits
  pub row41_wide : Gives 128 (
      (Insert (0xffffffffffffffffffffffffffffffff, 128) 3, Value None) ∷
      (NodeCount, Count 26) ∷
      (Lpm (0xffffffffffffffffffffffffffffffff, 127), Match None) ∷
      (Remove (0xffffffffffffffffffffffffffffffff, 128), Value (Some 3)) ∷
      (NodeCount, Count 1) ∷
      [])
  -- row 45: ten bits, a width that the number type defines
  pub row45 : Gives 10 (
      (Insert (0, 0) 1, Value None) ∷
      (Insert (1023, 10) 2, Value None) ∷
      (Insert (992, 5) 3, Value None) ∷
      (NodeCount, Count 3) ∷
      (Lpm (1023, 10), Match (Some ((1023, 10), 2))) ∷
      (Lpm (1022, 10), Match (Some ((992, 5), 3))) ∷
      (AddressCount, Addresses None) ∷
      (Remove (0, 0), Value (Some 1)) ∷
      (AddressCount, Addresses (Some (32))) ∷
      (Remove (992, 5), Value (Some 3)) ∷
      (AddressCount, Addresses (Some (1))) ∷
      (NodeCount, Count 3) ∷
      (Remove (1023, 10), Value (Some 2)) ∷
      (NodeCount, Count 1) ∷
      [])
  -- row 46: five bits, so each key of full length has a node of its own
  pub row46 : Gives 5 (sets (counted (full_pairs 5)) ++
      (Len, Count 32) ∷
      (NodeCount, Count 33) ∷
      (AddressCount, Addresses None) ∷
      (Remove (31, 5), Value (Some 31)) ∷
      (AddressCount, Addresses (Some (31))) ∷
      [])
  -- row 46, second part: three bits, so all prefixes are in the root
  pub row46_three : Gives 3 (sets (counted three_bits) ++
      (Len, Count 15) ∷
      (NodeCount, Count 1) ∷
      (AddressCount, Addresses None) ∷
      (ListAll, Items (counted three_bits)) ∷
      [])
