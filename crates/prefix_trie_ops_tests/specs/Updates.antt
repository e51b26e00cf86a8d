-- Update messages: each a prefix, with its new value or with none if it is withdrawn.
use Rattle.std.specs.Prelude.{ℕ, Bool, List, [], ◌∷◌, cond, Option, None, Some, nat_eq}
use Rattle.prefix_trie.specs.Terms.{Entries, with_entry, without_entry}
use Rattle.prefix_trie_ops.specs.declared.map.sides.Side.{Side}
use Rattle.prefix_trie_ops.specs.declared.map.sides.Side.TheVariants.{Left, Right, Both}

module _ {P T : Type 0} (path : P → List Bool) where
  -- a table once a message was received
  abbrev pub with_message : P × Option T → Entries T → Entries T
  with_message (p, None) m = without_entry m (path p)
  with_message (p, Some v) m = with_entry m (path p) v

  -- and once all were, one after another
  abbrev pub with_messages : List (P × Option T) → Entries T → Entries T
  with_messages [] m = m
  with_messages (x ∷ xs) m = with_messages xs (with_message x m)

-- what a message tells of a prefix, by what two tables have there: nothing if that is the same
abbrev pub change_of : Side ℕ ℕ → Option (Option ℕ)
change_of (Left v) = Some None
change_of (Right w) = Some (Some w)
change_of (Both v w) = cond (nat_eq v w) None (Some (Some w))
