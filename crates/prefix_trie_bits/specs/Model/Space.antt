-- The number of slots of the two arrays, and their limit. This project's own.
use Rattle.std.specs.Prelude.{◌≡◌, ◌⊎◌, ℕ, ◌+◌, ◌*◌, ◌≤◌, ◌<◌}

-- the largest number of slots that an array may have, and the number that each array has
pub record Space : Type 0 where
  pub limit : ℕ
  pub node_slots : ℕ
  pub cell_slots : ℕ

-- the blocks that one insertion can need could exceed the limit: up to 56 slots for nodes, and up
-- to 31 for values
abbrev pub MayPassLimit : Space → Type 0
MayPassLimit space = (space.limit < space.node_slots + 56) ⊎ (space.limit < space.cell_slots + 31)

-- what a call on a map with so many nodes changes
-- The limit stays and is not exceeded, and each array grows by at most 56 slots for each node.
pub record LeavesSpace (nodes : ℕ) (before after : Space) : Type 0 where
  pub same_limit : after.limit ≡ before.limit
  pub nodes_within : after.node_slots ≤ after.limit
  pub cells_within : after.cell_slots ≤ after.limit
  pub nodes_grow : after.node_slots ≤ before.node_slots + 56 * nodes
  pub cells_grow : after.cell_slots ≤ before.cell_slots + 56 * nodes
