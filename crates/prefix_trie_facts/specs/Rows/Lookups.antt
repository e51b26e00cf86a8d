-- Worked rows: exact lookups, and longest and shortest matches.
use Rattle.std.specs.Prelude.{[], ◌∷◌, Some, None}
use Rattle.prefix_trie_bits.specs.Model.Step.{Insert, Get, Lpm, Spm, Clear, Len, NodeCount, ListAll, Cover, Value, Match, Done, Count, Items}
use Rattle.prefix_trie_facts.specs.Rows.Examples.{Gives}

-- the rows of this file
pub record LookupsHold : Type 0 where
  -- row 1: a stored network is found and overwritten; a neighbour and a longer prefix are not found
  pub row1 : Gives 32 (
      (Insert (0xc0a80000, 23) 1, Value None) ∷
      (Insert (0xc0a80100, 24) 2, Value None) ∷
      (Insert (0xc0a80100, 24) 3, Value (Some 2)) ∷
      (Get (0xc0a80100, 24), Value (Some 3)) ∷
      (Get (0xc0a80200, 24), Value None) ∷
      (Get (0xc0a80180, 25), Value None) ∷
      [])
  -- row 3: of two networks that contain another, the longer is its longest match and the shorter its shortest
  pub row3 : Gives 32 (
      (Insert (0xc0a80100, 24) 1, Value None) ∷
      (Insert (0xc0a80000, 23) 2, Value None) ∷
      (Lpm (0xc0a80101, 32), Match (Some ((0xc0a80100, 24), 1))) ∷
      (Lpm (0xc0a80000, 24), Match (Some ((0xc0a80000, 23), 2))) ∷
      (Lpm (0xc0a80200, 24), Match None) ∷
      (Spm (0xc0a80101, 32), Match (Some ((0xc0a80000, 23), 2))) ∷
      [])
  -- row 4, first part: a stored prefix of length 0 matches everything
  pub row4 : Gives 32 (
      (Insert (0, 0) 0, Value None) ∷
      (Cover (0x0a000000, 8), Items (((0, 0), 0) ∷ [])) ∷
      [])
  -- row 25: the covers of a key, shortest first, including the key itself
  pub row25 : Gives 32 (
      (Insert (0x0a000000, 8) 0, Value None) ∷
      (Insert (0x0a010000, 16) 1, Value None) ∷
      (Insert (0x0a010100, 24) 2, Value None) ∷
      (Insert (0x0a010200, 24) 3, Value None) ∷
      (Insert (0x0a010100, 25) 4, Value None) ∷
      (Insert (0x0b000000, 8) 5, Value None) ∷
      (Cover (0x0a010100, 24), Items (((0x0a000000, 8), 0) ∷ ((0x0a010000, 16), 1) ∷ ((0x0a010100, 24), 2) ∷ [])) ∷
      [])
  -- row 27: a short run
  pub row27 : Gives 8 (
      (Insert (0, 1) 7, Value None) ∷
      (Lpm (64, 2), Match (Some ((0, 1), 7))) ∷
      (NodeCount, Count 1) ∷
      (ListAll, Items (((0, 1), 7) ∷ [])) ∷
      (Clear, Done) ∷
      (Len, Count 0) ∷
      [])
  -- row 28: bits after a prefix's length do not matter, and returned prefixes have zeros there
  pub row28 : Gives 8 (
      (Insert (255, 0) 1, Value None) ∷
      (Insert (129, 1) 2, Value None) ∷
      (Insert (1, 8) 3, Value None) ∷
      (Lpm (128, 1), Match (Some ((128, 1), 2))) ∷
      (Lpm (1, 7), Match (Some ((0, 0), 1))) ∷
      (Get (0, 8), Value None) ∷
      (Len, Count 3) ∷
      (ListAll, Items (((0, 0), 1) ∷ ((1, 8), 3) ∷ ((128, 1), 2) ∷ [])) ∷
      [])
