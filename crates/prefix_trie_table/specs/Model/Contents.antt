-- What contracts see of a table, as a state of the model with its storage. This project's own.
use Rattle.std.specs.Prelude.{List}
use Rattle.prefix_trie_bits.specs.Model.Entries.{Entries}
use Rattle.prefix_trie_bits.specs.Model.Nodes.{Nodes}
use Rattle.prefix_trie_bits.specs.Model.Step.{State}
use Rattle.prefix_trie_bits.specs.Model.Storage.{Storage}
use Rattle.prefix_trie_bits.specs.Model.Space.{Space}
use Rattle.prefix_trie_bits.specs.Model.Blocks.{Layout}
use Rattle.prefix_trie_table.specs.declared.allocator.node.Node.{Node}

-- what contracts see of a table: its entries, its nodes, its slots, its layout, and the nodes in their slots
-- Only clauses on seats mention the nodes in their slots.
pub record Contents (T : Type 0) : Type 0 where
  pub entries : Entries T
  pub nodes : Nodes
  pub space : Space
  pub layout : Layout
  pub build : List Node

-- the entries and the nodes, as a state of the model
abbrev pub state : {T : Type 0} → Contents T → State T
state contents = record { entries = contents.entries; nodes = contents.nodes }

-- the slots and the layout, as the storage of the model
abbrev pub storage : {T : Type 0} → Contents T → Storage
storage contents = record { space = contents.space; layout = contents.layout }

module _ {T : Type 0} where
  -- the entries and nodes, and how they are stored
  abbrev pub stored_state : Contents T → State T × Storage
  stored_state contents = (state contents, storage contents)
