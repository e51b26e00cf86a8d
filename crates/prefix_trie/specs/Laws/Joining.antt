-- A loop that joins the values of one map to those of another: its invariant and its result. This
-- project's own.
use Rattle.std.specs.Prelude.{◌≡◌, ℕ, Bool, List, [], ◌∷◌, Option, None, Some, All}
use Rattle.std.specs.FinMap.{get}
use Rattle.prefix_trie_bits.specs.Model.Entries.{Entries, with_entry}
use Rattle.prefix_trie_bits.specs.Calls.Entries.{AreWithin}
use Rattle.prefix_trie_bits.specs.Model.Selections.{listing, prefix_pairs}

module _ {T : Type 0} (join : T → T → T) where
  -- the value of a key, if there is one, joined to a new value
  abbrev pub with_value : Option T → T → T
  with_value None w = w
  with_value (Some v) w = join v w

  -- the value of a key, if there is one, joined to a new value, if there is one
  abbrev pub joined_by : Option T → Option T → Option T
  joined_by before None = before
  joined_by before (Some w) = Some (with_value before w)

  module _ {P : Type 0} (path : P → List Bool) where
    -- the entries with these pairs joined to them, in order
    abbrev pub join_all : List (P × T) → Entries T → Entries T
    join_all [] now = now
    join_all (e ∷ es) now = join_all es (with_entry now (path e.0) (with_value (get now (path e.0)) e.1))

    -- the invariant: each prefix still to come fits, and joining all of them gives the whole map
    abbrev pub Joins : (P → Type 0) → List (P × T) → Entries T → Entries T → Type 0
    Joins IsFitting left now whole = All (λ e. IsFitting e.0) left × (join_all left now ≡ whole)

-- no key is longer than the width, as in every map
pub record JoinLaws {P : Type 0} (T : Type 0) (width : ℕ) (path : P → List Bool) (IsFitting : P → Type 0) (back : List Bool → P) : Type 0 where
  -- a walk over a whole map leads to the map with all its entries joined
  pub starts : (join : T → T → T) (from to : Entries T) → AreWithin width from → (walk : List (P × T)) → walk ≡ prefix_pairs back (listing from)
      → Joins join path IsFitting walk to (join_all join path (prefix_pairs back (listing from)) to)
  -- if a walk leads to a map, its next prefix fits, and after its value is joined, the rest leads to the same map
  pub next_fits : (join : T → T → T) (now whole : Entries T) (item : P × T) (rest left : List (P × T)) → left ≡ item ∷ rest → Joins join path IsFitting left now whole → IsFitting item.0
  pub goes_on : (join : T → T → T) (now next whole : Entries T) (item : P × T) (rest left : List (P × T)) → left ≡ item ∷ rest
      → next ≡ with_entry now (path item.0) (with_value join (get now (path item.0)) item.1) → Joins join path IsFitting left now whole → Joins join path IsFitting rest next whole
  -- each key has both of its values joined, or its only value
  pub joined : (join : T → T → T) (from to : Entries T) → AreWithin width from → (s : List Bool)
      → get (join_all join path (prefix_pairs back (listing from)) to) s ≡ joined_by join (get to s) (get from s)
