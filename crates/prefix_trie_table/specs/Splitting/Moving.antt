-- A second table, to which values are moved one after another, in listing order. This project's own.
use Rattle.std.specs.Prelude.{◌≡◌, ℕ, Bool, List, [], ◌∷◌, Option}
use Rattle.std.specs.FinMap.{len}
use Rattle.prefix_trie_bits.specs.Calls.Entries.{part_below}
use Rattle.prefix_trie_bits.specs.Model.Nodes.{needed}
use Rattle.prefix_trie_bits.specs.Model.Step.{State}
use Rattle.prefix_trie_table.specs.declared.allocator.node.Node.{Node}
use Rattle.prefix_trie_table.specs.declared.table.spot.Spot.{Spot}
use Rattle.prefix_trie_table.specs.Locations.{seat_of}
use Rattle.prefix_trie_table.specs.Blocks.Slots.{with_cell}
use Rattle.prefix_trie_table.specs.Blocks.Store.{Store}
use Rattle.prefix_trie_table.specs.Tables.{IsTrie}
use Rattle.prefix_trie_table.specs.Walking.Walks.{IsStack, pending}

module _ {T : Type 0} where
  -- the array with the value of each pair in the seat of its string
  abbrev pub filled_with : List Node → List (List Bool × T) → Store (Option T) → Store (Option T)
  filled_with nodes [] w = w
  filled_with nodes (e ∷ es) w = filled_with nodes es (with_cell w (seat_of nodes e.0) e.1)

  -- the entries and nodes that are split off
  abbrev pub split_off : State T → List Bool → State T
  split_off s q = record { entries = part_below s.entries q; nodes = needed (part_below s.entries q) }

  module _ {K : Type 0} (IsKey : K → Type 0) (bits : K → List Bool) (width : ℕ) where
    -- with these values, the arrays have the entries and nodes of a table
    -- The seats still to come are exactly the seats of these values, in order.
    pub record Awaits (shape : State T) (v : Store Node) (w : Store (Option T)) (key : K) (ps : List Spot) (rest : List (List Bool × T)) : Type 0 where
      pub trie : IsTrie width (len shape.entries) v (filled_with v.slots rest w) shape
      pub stack : IsStack width v.slots (bits key) ps
      pub come : pending shape.entries (bits key) ps ≡ rest

    -- the value x of the string q is the next to be moved
    pub record AwaitsNext (v : Store Node) (w : Store (Option T)) (key : K) (ps : List Spot) (q : List Bool) (x : T) : Type 0 where
      pub shape : State T
      pub later : List (List Bool × T)
      pub awaits : Awaits shape v w key ps ((q, x) ∷ later)

    -- the value was moved, and nothing else in the arrays changed
    pub record HasCome (v v2 : Store Node) (w w2 : Store (Option T)) (key : K) (ps : List Spot) (key2 : K) (ps2 : List Spot) (q : List Bool) (x : T) : Type 0 where
      pub nodes : v2 ≡ v
      pub cells : w2 ≡ record w { slots = w2.slots }
      pub goes_on : (shape : State T) (later : List (List Bool × T)) → Awaits shape v w key ps ((q, x) ∷ later) → Awaits shape v2 w2 key2 ps2 later
