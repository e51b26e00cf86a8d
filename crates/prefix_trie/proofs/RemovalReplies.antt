-- The result of a removal from a set is the reply of the model: for `remove` of sets.
use Rattle.prefix_trie.proofs.Prelude.{◌≡◌, Bool, false, true, false≢true, true≢false, List, Option, None, Some, is_some, refl, Reply, Value}
use Rattle.prefix_trie.specs.Sets.{set_remove_reply}

-- the value that the model removed, as the result has it
pub as_removed : (before : Option (Unit {0})) (was_in : Bool) → was_in ≡ is_some before → ◌≡◌ {A = Reply (List Bool) (Unit {0})} (Value before) (set_remove_reply was_in)
as_removed None false h = refl
as_removed None true h = absurd (true≢false h)
as_removed (Some u) false h = absurd (false≢true h)
as_removed (Some u) true h = refl
