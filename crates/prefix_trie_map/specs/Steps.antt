-- A map as a state of the model, together with its storage, and an insertion as a step of the model. This project's
-- own.
pub use Rattle.prefix_trie_table.specs.Model.Contents.{state, storage, stored_state}
pub use Rattle.prefix_trie_table.specs.Steps.{insert_reply, insert_new_reply}
