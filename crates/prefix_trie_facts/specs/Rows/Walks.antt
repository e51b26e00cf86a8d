-- Worked rows: listings, cursors and children.
use Rattle.std.specs.Prelude.{true, false, [], ◌∷◌, None}
use Rattle.prefix_trie_bits.specs.Model.Step.{Insert, ListFrom, Children, Value, Items}
use Rattle.prefix_trie_facts.specs.Rows.Examples.{Gives}

-- the rows of this file
pub record WalksHold : Type 0 where
  -- row 8: walks from a key on, with it or after it; its extensions come after it
  pub row8 : Gives 32 (
      (Insert (0x0a000000, 8) 1, Value None) ∷
      (Insert (0x0a010000, 16) 2, Value None) ∷
      (Insert (0x0a020000, 16) 3, Value None) ∷
      (Insert (0x0a020000, 24) 4, Value None) ∷
      (Insert (0x0a030000, 16) 5, Value None) ∷
      (Insert (0x0a040000, 16) 6, Value None) ∷
      (ListFrom (0x0a020000, 16) true, Items (((0x0a020000, 16), 3) ∷ ((0x0a020000, 24), 4) ∷ ((0x0a030000, 16), 5) ∷ ((0x0a040000, 16), 6) ∷ [])) ∷
      (ListFrom (0x0a020000, 16) false, Items (((0x0a020000, 24), 4) ∷ ((0x0a030000, 16), 5) ∷ ((0x0a040000, 16), 6) ∷ [])) ∷
      (ListFrom (0x0a028000, 17) false, Items (((0x0a030000, 16), 5) ∷ ((0x0a040000, 16), 6) ∷ [])) ∷
      [])
  -- row 34, cursors and children: it makes no difference whether the given key is stored
  pub row34 : Gives 8 (
      (Insert (0, 5) 1, Value None) ∷
      (Insert (4, 6) 2, Value None) ∷
      (Insert (6, 8) 3, Value None) ∷
      (Insert (8, 5) 4, Value None) ∷
      (Insert (128, 1) 5, Value None) ∷
      (ListFrom (5, 8) false, Items (((6, 8), 3) ∷ ((8, 5), 4) ∷ ((128, 1), 5) ∷ [])) ∷
      (ListFrom (5, 8) true, Items (((6, 8), 3) ∷ ((8, 5), 4) ∷ ((128, 1), 5) ∷ [])) ∷
      (ListFrom (0, 0) false, Items (((0, 5), 1) ∷ ((4, 6), 2) ∷ ((6, 8), 3) ∷ ((8, 5), 4) ∷ ((128, 1), 5) ∷ [])) ∷
      (ListFrom (64, 2) true, Items (((128, 1), 5) ∷ [])) ∷
      (ListFrom (128, 1) false, Items ([])) ∷
      (ListFrom (255, 8) true, Items ([])) ∷
      (Children (0, 4), Items (((0, 5), 1) ∷ ((4, 6), 2) ∷ ((6, 8), 3) ∷ ((8, 5), 4) ∷ [])) ∷
      (Children (4, 6), Items (((4, 6), 2) ∷ ((6, 8), 3) ∷ [])) ∷
      (Children (16, 5), Items ([])) ∷
      [])
