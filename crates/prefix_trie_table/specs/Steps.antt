-- The results of a table's changing calls as replies of the model, and a bound on how its arrays
-- grow. This project's own.
use Rattle.std.specs.Prelude.{◌+◌, ◌≤◌, Option, None, Result, Ok, Err}
use Rattle.prefix_trie_bits.specs.declared.prefix.Refused.{Refused}
use Rattle.prefix_trie_bits.specs.Model.Step.{Reply}
use Rattle.prefix_trie_bits.specs.Model.Storage.{Storage}
use Rattle.prefix_trie_table.specs.GrowthBounds.{headroom_of}

module _ {T : Type 0} where
  -- the result of an insertion, as a reply of the model
  abbrev pub insert_reply : {P : Type 0} → Result (Option T) (Refused T) → Reply P T
  insert_reply (Ok before) = Reply.Value before
  insert_reply (Err refused) = Reply.Refused refused.cause

  -- the result of the insertion of a missing key, as a reply of the model
  abbrev pub insert_new_reply : {P X : Type 0} → Result X (Refused T) → Reply P T
  insert_new_reply (Ok x) = Reply.Value None
  insert_new_reply (Err refused) = Reply.Refused refused.cause

-- the length that each array can reach while items are removed does not rise
pub record BoundsStorageGrowth (before after : Storage) : Type 0 where
  pub nodes : after.space.node_slots + headroom_of after.layout.child_blocks ≤ before.space.node_slots + headroom_of before.layout.child_blocks
  pub cells : after.space.cell_slots + headroom_of after.layout.value_blocks ≤ before.space.cell_slots + headroom_of before.layout.value_blocks
