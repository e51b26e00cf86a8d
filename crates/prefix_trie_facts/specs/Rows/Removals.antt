-- Worked rows: the entries and the nodes after removals.
use Rattle.std.specs.Prelude.{[], ◌∷◌, Some, None}
use Rattle.prefix_trie_bits.specs.Model.Step.{Insert, Get, Remove, RemoveKeepTree, RemoveChildren, RetainAtLeast, Clear, Len, NodeCount, ListAll, Value, Done, Count, Items}
use Rattle.prefix_trie_facts.specs.Rows.Examples.{Gives}

-- the rows of this file
pub record RemovalsHold : Type 0 where
  -- row 9: everything that begins with a key is removed, and its neighbours in the same node stay
  pub row9 : Gives 32 (
      (Insert (0xc0a80000, 21) 1, Value None) ∷
      (Insert (0xc0a80000, 22) 2, Value None) ∷
      (Insert (0xc0a80000, 23) 3, Value None) ∷
      (Insert (0xc0a80000, 24) 4, Value None) ∷
      (Insert (0xc0a80400, 22) 5, Value None) ∷
      (Insert (0xc0a80400, 23) 6, Value None) ∷
      (NodeCount, Count 5) ∷
      (RemoveChildren (0xc0a80000, 22), Done) ∷
      (Len, Count 3) ∷
      (ListAll, Items (((0xc0a80000, 21), 1) ∷ ((0xc0a80400, 22), 5) ∷ ((0xc0a80400, 23), 6) ∷ [])) ∷
      (NodeCount, Count 5) ∷
      [])
  -- row 10: node counts; `remove` prunes, `remove_keep_tree` does not, `retain` leaves the nodes that the keys need
  pub row10 : Gives 32 (
      (NodeCount, Count 1) ∷
      (Insert (0, 32) 1, Value None) ∷
      (NodeCount, Count 7) ∷
      (Remove (0, 32), Value (Some 1)) ∷
      (NodeCount, Count 1) ∷
      (Insert (0, 32) 1, Value None) ∷
      (NodeCount, Count 7) ∷
      (RemoveKeepTree (0, 32), Value (Some 1)) ∷
      (NodeCount, Count 7) ∷
      (RetainAtLeast 0, Done) ∷
      (NodeCount, Count 1) ∷
      [])
  -- row 20, with plain calls instead of entry calls: entries are removed, and their nodes stay until `clear`
  pub row20 : Gives 32 (
      (Insert (0xc0a80100, 24) 1, Value None) ∷
      (Insert (0xc0a80200, 24) 9, Value None) ∷
      (NodeCount, Count 5) ∷
      (RemoveKeepTree (0xc0a80100, 24), Value (Some 1)) ∷
      (RemoveKeepTree (0xc0a80200, 24), Value (Some 9)) ∷
      (Len, Count 0) ∷
      (NodeCount, Count 5) ∷
      (Clear, Done) ∷
      (NodeCount, Count 1) ∷
      [])
  -- row 22: `remove` prunes the search path of a missing key whose own node is there, and nothing off that path
  pub row22 : Gives 32 (
      (Insert (0, 32) 1, Value None) ∷
      (RemoveKeepTree (0, 32), Value (Some 1)) ∷
      (Remove (0, 32), Value None) ∷
      (NodeCount, Count 1) ∷
      (Insert (0, 32) 1, Value None) ∷
      (RemoveKeepTree (0, 32), Value (Some 1)) ∷
      (Remove (0x80000000, 32), Value None) ∷
      (NodeCount, Count 7) ∷
      [])
  -- row 31, second part: a prefix whose length is not a multiple of five
  pub row31_second : Gives 32 (
      (Insert (0, 16) 1, Value None) ∷
      (NodeCount, Count 4) ∷
      (RemoveChildren (0, 12), Done) ∷
      (NodeCount, Count 1) ∷
      [])
  -- row 31, third part: a neighbour in the same node stays, and so does the node
  pub row31_third : Gives 32 (
      (Insert (0, 6) 1, Value None) ∷
      (Insert (0x04000000, 6) 2, Value None) ∷
      (RemoveChildren (0, 6), Done) ∷
      (Len, Count 1) ∷
      (NodeCount, Count 2) ∷
      (Get (0x04000000, 6), Value (Some 2)) ∷
      [])
  -- row 32: a node without entries stays while it has a child
  pub row32 : Gives 32 (
      (Insert (0, 16) 1, Value None) ∷
      (RemoveKeepTree (0, 16), Value (Some 1)) ∷
      (NodeCount, Count 4) ∷
      (Remove (0, 11), Value None) ∷
      (NodeCount, Count 4) ∷
      (RemoveChildren (0x80000000, 5), Done) ∷
      (NodeCount, Count 4) ∷
      (RemoveChildren (0, 7), Done) ∷
      (NodeCount, Count 1) ∷
      [])
  -- row 48, for the first map: the prefix of length 0 removes everything, and a second call changes nothing
  pub row48_first : Gives 32 (
      (Insert (0x01020300, 32) 1, Value None) ∷
      (Insert (0x01020301, 32) 2, Value None) ∷
      (Insert (0x01020302, 32) 3, Value None) ∷
      (Insert (0x01020303, 32) 4, Value None) ∷
      (RemoveChildren (7, 0), Done) ∷
      (Len, Count 0) ∷
      (NodeCount, Count 1) ∷
      (RemoveChildren (0, 9), Done) ∷
      (NodeCount, Count 1) ∷
      [])
  -- empty nodes off the search path of the removed key stay until `retain` makes the map tidy
  pub off_the_path : Gives 32 (
      (Insert (0, 32) 1, Value None) ∷
      (RemoveKeepTree (0, 32), Value (Some 1)) ∷
      (Insert (0x80000000, 5) 2, Value None) ∷
      (NodeCount, Count 8) ∷
      (Remove (0x80000000, 5), Value (Some 2)) ∷
      (NodeCount, Count 7) ∷
      (Insert (0x80000000, 5) 2, Value None) ∷
      (RemoveChildren (0x80000000, 5), Done) ∷
      (NodeCount, Count 7) ∷
      (RetainAtLeast 0, Done) ∷
      (NodeCount, Count 1) ∷
      [])
  -- entries whose keys have exactly the length given to `retain` stay, and those with shorter keys are removed
  pub at_least : Gives 8 (
      (Insert (0, 4) 1, Value None) ∷
      (Insert (0, 5) 2, Value None) ∷
      (Insert (0, 6) 3, Value None) ∷
      (RetainAtLeast 5, Done) ∷
      (ListAll, Items (((0, 5), 2) ∷ ((0, 6), 3) ∷ [])) ∷
      (RetainAtLeast 6, Done) ∷
      (ListAll, Items (((0, 6), 3) ∷ [])) ∷
      [])
