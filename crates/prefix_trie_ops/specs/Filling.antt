-- What insertions into a map leave of its nodes and slots. This project's own.
use Rattle.std.specs.Prelude.{◌≡◌, ◌+◌, ◌*◌, ◌≤◌}
use Rattle.std.specs.FinMap.{len}
use Rattle.prefix_trie.specs.Terms.{IsTidy}
use Rattle.prefix_trie_table.specs.Model.Contents.{Contents}

-- a tidy map stays tidy, the limit stays, and each new entry makes at most 56 slots for nodes and 31 for values
pub record Fills {T : Type 0} (before after : Contents T) : Type 0 where
  pub tidy : IsTidy before.entries before.nodes → IsTidy after.entries after.nodes
  pub limit : after.space.limit ≡ before.space.limit
  pub node_slots : after.space.node_slots + 56 * len before.entries ≤ before.space.node_slots + 56 * len after.entries
  pub cell_slots : after.space.cell_slots + 31 * len before.entries ≤ before.space.cell_slots + 31 * len after.entries
