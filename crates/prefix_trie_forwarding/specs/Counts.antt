-- How many blocks of addresses have groups.
use Rattle.std.specs.Prelude.{◌≡◌, ◌↔◌, ℕ, ◌+◌, ◌-◌, ◌*◌, ◌^◌, ◌≤◌, Bool, true, List, length}
use Rattle.std.proofs.Common.{suc}
use Rattle.std.specs.FinMap.{len}
use Rattle.prefix_trie_bits.specs.Model.Bits.{digits}
use Rattle.prefix_trie_bits.specs.Model.Nodes.{Nodes, has_node}
use Rattle.prefix_trie_forwarding.specs.Walks.{HasGroup, IsAddress, upper}

-- the bits that the addresses of a block have in common: those of one of them, without the last k + 1 bytes
abbrev pub block_of : ℕ → ℕ → ℕ → ℕ → List Bool
block_of root_bits levels a k = digits (root_bits + 8 * (levels - suc k)) (upper (suc k) a)

-- a set has the blocks that have groups
pub record HasBlocks (root_bits levels : ℕ) (s : ℕ → ℕ) (blocks : Nodes) : Type 0 where
  pub each : (a k : ℕ) → IsAddress (2 ^ root_bits) levels a → suc k ≤ levels → (has_node blocks (block_of root_bits levels a k) ≡ true) ↔ HasGroup (2 ^ root_bits) levels s a k
  pub only : (p : List Bool) → has_node blocks p ≡ true → (a : ℕ) × (k : ℕ) × IsAddress (2 ^ root_bits) levels a × (suc k ≤ levels) × (p ≡ block_of root_bits levels a k)

-- of so many groups, those that are not free are as many as blocks that have groups
abbrev pub IsCounted : ℕ → ℕ → ℕ → (ℕ → ℕ) → List ℕ → Type 0
IsCounted root_bits levels made s free = (blocks : Nodes) → HasBlocks root_bits levels s blocks → len blocks + length free ≡ made
