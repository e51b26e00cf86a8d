-- A walk that lends one value at a time for writing, as `iter_mut`, `iter_from_mut`, `children_mut`
-- and `values_mut` do.
-- From the Rust crate's documentation of these calls; the form is this project's own.
use Rattle.std.specs.Prelude.{◌≡◌, Bool, List, [], ◌∷◌, map, Option, Some, None}
use Rattle.prefix_trie_bits.specs.Model.Entries.{Entries, with_entry}
use Rattle.prefix_trie_bits.specs.Model.Nodes.{Nodes}

-- the current entries, the nodes, the keys to come, and the key whose value is lent, if any
pub record WritingWalk (T : Type 0) : Type 0 where
  pub entries : Entries T
  pub nodes : Nodes
  pub to_come : List (List Bool)
  pub lent : Option (List Bool)

module _ {T : Type 0} where
  -- a walk over a selection of the listing, before its first `next`
  abbrev pub walk_over : Entries T → Nodes → List (List Bool × T) → WritingWalk T
  walk_over m n selection = record { entries = m; nodes = n; to_come = map (λ e. e.0) selection; lent = None }

  -- `next` lends the value of the first key to come, or ends if there is none
  -- A value lent before is no longer lent. No entry changes.
  abbrev pub Next : WritingWalk T → Option (List Bool) → WritingWalk T → Type 0
  Next w None after = (w.to_come ≡ []) × (after ≡ record w { lent = None })
  Next w (Some k) after = (w.to_come ≡ k ∷ after.to_come) × (after ≡ record w { to_come = after.to_come; lent = Some k })

  -- a write sets the value of the key that is lent, and nothing else
  abbrev pub Write : WritingWalk T → T → WritingWalk T → Type 0
  Write w v after = (k : List Bool) × (w.lent ≡ Some k) × (after ≡ record w { entries = with_entry w.entries k v })

  -- `next` and the write that follows it, as one step
  abbrev pub Passes : WritingWalk T → List Bool → T → WritingWalk T → Type 0
  Passes w k v after = (mid : WritingWalk T) × Next w (Some k) mid × Write mid v after

  -- what a walk leaves when it is dropped: the current entries and the nodes
  abbrev pub Leaves : WritingWalk T → Entries T → Nodes → Type 0
  Leaves w m n = (m ≡ w.entries) × (n ≡ w.nodes)
