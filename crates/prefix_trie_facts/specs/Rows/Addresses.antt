-- Worked rows: how many addresses a map covers.
use Rattle.std.specs.Prelude.{◌+◌, ◌^◌, [], ◌∷◌, Some, None}
use Rattle.prefix_trie_bits.specs.Model.Step.{Insert, AddressCount, Value, Addresses}
use Rattle.prefix_trie_facts.specs.Rows.Examples.{Gives}

-- the rows of this file
pub record AddressesHold : Type 0 where
  -- row 11, second part: the addresses of a network within another one are not counted twice
  pub row11_networks : Gives 32 (
      (Insert (0xc0000200, 24) 1, Value None) ∷
      (Insert (0xc0000280, 25) 2, Value None) ∷
      (Insert (0xc6336400, 24) 3, Value None) ∷
      (AddressCount, Addresses (Some (512))) ∷
      [])
  -- row 35, second part: 128 bits; if all addresses are covered, the count is None
  pub row35_wide : Gives 128 (
      (Insert (0, 128) 0, Value None) ∷
      (AddressCount, Addresses (Some (1))) ∷
      (Insert (0x80000000000000000000000000000000, 1) 0, Value None) ∷
      (AddressCount, Addresses (Some (2 ^ 127 + 1))) ∷
      (Insert (0, 0) 0, Value None) ∷
      (AddressCount, Addresses None) ∷
      [])
