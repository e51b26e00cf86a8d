-- What is still to come of a walk over a table, and what its steps give. This project's own.
use Rattle.std.specs.Prelude.{◌≡◌, ◌≢◌, ℕ, ◌+◌, ◌-◌, ◌*◌, ◌^◌, ◌<◌, ◌≤◌, Bool, true, not, List, [], ◌∷◌, ◌++◌, length, take, drop, filter, slice_index_or, Option, None, Some, All, ⊤}
use Rattle.std.specs.List.{AllWithin}
use Rattle.std.specs.Borrow.{Bor}
use Rattle.std.specs.Coded.{Coded}
use Rattle.prefix_trie_bits.specs.Model.Bits.{begins}
use Rattle.prefix_trie_bits.specs.Places.{is_in}
use Rattle.prefix_trie_bits.specs.Walks.{to_come}
use Rattle.prefix_trie_bits.specs.Model.Entries.{Entries}
use Rattle.std.specs.FinMap.{len}
use Rattle.prefix_trie_bits.specs.Calls.NodeListings.{listing_at_places}
use Rattle.prefix_trie_bits.specs.Model.Step.{State}
use Rattle.prefix_trie_table.specs.declared.table.spot.Spot.{Spot}
use Rattle.prefix_trie_table.specs.declared.table.seat.Seat.{Seat}
use Rattle.prefix_trie_table.specs.declared.table.spot.Step.{Step}
use Rattle.prefix_trie_table.specs.declared.table.spot.Step.TheVariants.{Entry, Child, Done}
use Rattle.prefix_trie_table.specs.declared.allocator.node.Node.{Node}
use Rattle.prefix_trie_table.specs.Digits.{chunks_of}
use Rattle.prefix_trie_table.specs.Blocks.Store.{Store}
use Rattle.prefix_trie_table.specs.Blocks.Cells.{without_sizes}
use Rattle.prefix_trie_table.specs.Forest.{read}
use Rattle.prefix_trie_table.specs.Walking.Items.{GivesFilled}
use Rattle.prefix_trie_table.specs.Locations.{seat_of}
use Rattle.prefix_trie_table.specs.Shape.{Shaped, Shaped-prop}
use Rattle.prefix_trie_table.specs.Tables.{IsTrie}

-- the number of a table's entries, its values, and its entries and nodes
pub record Tree (T : Type 0) : Type 0 where
  pub count : ℕ
  pub cells : Store (Option T)
  pub shape : State T

-- the slot of a seat
abbrev pub slot_of : Seat → ℕ
slot_of seat = seat.slot

-- the node has this place
abbrev pub IsPlaceOf : Node → List Bool → Type 0
IsPlaceOf n s = (length s ≤ 5) × (is_in n.value_bitmap n.child_bitmap s ≡ true)

-- s and t are different strings
abbrev pub IsOther : List Bool → List Bool → Type 0
IsOther t s = s ≢ t

-- the places still to come at a spot that begin with a bit string were dropped; the string ends at the spot's node
pub record Skips (path : List Bool) (p q : Spot) : Type 0 where
  pub node_is : q.node ≡ p.node
  pub depth_is : q.depth ≡ p.depth
  pub left : to_come q.places ≡ filter (λ s. not (begins (drop p.depth path) s)) (to_come p.places)

-- such places were dropped at the last of these spots
pub record SkipsLast (path : List Bool) (old new : List Spot) : Type 0 where
  pub below : List Spot
  pub was : Spot
  pub now : Spot
  pub before : old ≡ below ++ was ∷ []
  pub after : new ≡ below ++ now ∷ []
  pub skips : Skips path was now

-- a bit string ends at the node of the spot, whose path is a beginning of `search_path`
pub record EndsAt (search_path : List Bool) (p : Spot) (path : List Bool) : Type 0 where
  pub whole : p.depth ≤ length path
  pub last : length path < p.depth + 5
  pub same_above : take p.depth path ≡ take p.depth search_path

-- a bit string ends at the node of the last of these spots
pub record EndsLast (search_path : List Bool) (ps : List Spot) (path : List Bool) : Type 0 where
  pub below : List Spot
  pub spot : Spot
  pub is : ps ≡ below ++ spot ∷ []
  pub ends : EndsAt search_path spot path

-- the depth at which a stack starts
abbrev pub start : List Spot → ℕ
start [] = 0
start (p ∷ ps) = p.depth

-- the spot is at a node of the array, whose path is a beginning of `search_path`; only places of the node are to come
pub record IsSpot (width : ℕ) (nodes : List Node) (search_path : List Bool) (p : Spot) : Type 0 where
  pub node : Node
  pub level : ℕ
  pub depth_is : p.depth ≡ 5 * level
  pub within : p.depth ≤ width
  pub long : p.depth ≤ length search_path
  pub is_there : read nodes (chunks_of (take p.depth search_path)) ≡ Some node
  pub node_is : p.node ≡ without_sizes node
  pub each : All (IsPlaceOf p.node) (to_come p.places)

module _ {S : Type 0} (depth : S → ℕ) (Is : S → Type 0) where
  -- each of these is a level below the one before, and the first is at this depth
  abbrev pub AreLevels : ℕ → List S → Type 0
  AreLevels n [] = ⊤
  AreLevels n (p ∷ ps) = (depth p ≡ n) × Is p × AreLevels (n + 5) ps

-- the depth of a spot
abbrev pub depth_of : Spot → ℕ
depth_of p = p.depth

-- each spot is a level below the one before, and the first is at this depth
abbrev pub IsStackFrom : ℕ → List Node → ℕ → List Bool → List Spot → Type 0
IsStackFrom width nodes n search_path ps = AreLevels depth_of (IsSpot width nodes search_path) n ps

-- each spot is a level below the one before, from any depth on
abbrev pub IsStack : ℕ → List Node → List Bool → List Spot → Type 0
IsStack width nodes search_path ps = IsStackFrom width nodes (start ps) search_path ps

-- the child on the search path is not among the places still to come
abbrev pub IsPassed : List Bool → Spot → Type 0
IsPassed search_path p = All (IsOther (take 5 (drop p.depth search_path))) (to_come p.places)

-- the child is passed at each spot except the last, so strings under the last spot's node are to come there only
abbrev pub ArePassed : List Bool → List Spot → Type 0
ArePassed search_path ps = AllWithin (IsPassed search_path) ps 0 (length ps - 1)

module _ {S E : Type 0} (f : S → List E) where
  -- what these have, one after another, the last of them first
  abbrev pub from_last : List S → List E
  from_last [] = []
  from_last (p ∷ ps) = from_last ps ++ f p

module _ {T : Type 0} where
  -- the entries still to come at a spot
  abbrev pub still : Entries T → List Bool → Spot → List (List Bool × T)
  still m search_path p = listing_at_places m (take p.depth search_path) (to_come p.places)

  -- the entries to come at a stack of spots, the last of which is the deepest
  abbrev pub pending : Entries T → List Bool → List Spot → List (List Bool × T)
  pending m search_path ps = from_last (still m search_path) ps

  -- the value at a seat is that of the first entry to come
  pub record GivesSeat {K : Type 0} (IsKey : K → Type 0) (bits : K → List Bool) (width : ℕ) (t : Tree T) (key : K) (len : ℕ) (seat : Seat) (old new : List (List Bool × T)) : Type 0 where
    pub value : T
    pub is_there : slot_of seat < length t.cells.slots
    pub reads : slice_index_or t.cells.slots (slot_of seat) None ≡ Some value
    pub gives : GivesFilled IsKey bits width key len value old new

-- a bound on the steps at a spot: the places of a node, at most 63, weigh less than one place of the level above
abbrev pub weight : Spot → ℕ
weight p = length (to_come p.places) * 2 ^ (2 * (130 - p.depth)) + 1

module _ {K T : Type 0} (IsKey : K → Type 0) (bits : K → List Bool) (width : ℕ) (nodes : List Node) (t : Tree T) (search_path : List Bool) (p : Spot) where
  -- a step at the spot p gave this result, and the spot is q afterwards
  abbrev pub Steps : Step K → Spot → Type 0
  Steps (Entry found len seat) q =
      GivesSeat IsKey bits width t found len seat (still t.shape.entries search_path p) (still t.shape.entries search_path q)
      × (weight q < weight p) × IsSpot width nodes search_path q × (q ≡ record p { places = q.places })
  Steps (Child c below) q =
      (still t.shape.entries search_path p ≡ still t.shape.entries (bits below) c ++ still t.shape.entries search_path q)
      × (weight c + weight q < weight p) × IsSpot width nodes search_path q × (q ≡ record p { places = q.places })
      × IsSpot width nodes (bits below) c × (c.depth ≡ p.depth + 5) × (take p.depth (bits below) ≡ take p.depth search_path)
  Steps Done q = (still t.shape.entries search_path p ≡ []) × (0 < weight p)

-- the seat of an entry that a step gave is the seat of its key
abbrev pub IsSeated : {K : Type 0} → (K → List Bool) → List Node → Step K → Type 0
IsSeated bits nodes (Entry key len seat) = seat_of nodes (take len (bits key)) ≡ Some seat
IsSeated bits nodes (Child c key) = ⊤
IsSeated bits nodes Done = ⊤

-- a key that a step gave ends at its spot, and the child that it gave is passed
abbrev pub StaysOnPath : {K : Type 0} → (K → List Bool) → List Bool → Spot → Step K → Spot → Type 0
StaysOnPath bits search_path p (Entry key len seat) q = EndsAt search_path p (take len (bits key))
StaysOnPath bits search_path p (Child c key) q = IsPassed (bits key) q
StaysOnPath bits search_path p Done q = ⊤

module _ {T : Type 0} where
  -- the shape of the arrays, if there are arrays
  abbrev pub ShapeOf : Option (Bor (Store Node) × Bor (Store (Option T))) → Type 0
  ShapeOf None = Unit {0}
  ShapeOf (Some a) = Shaped a.0.now.slots a.1.now.slots

  pub ShapeOf-prop : Coded T → (arrays : Option (Bor (Store Node) × Bor (Store (Option T)))) → IsProp (ShapeOf arrays)
  ShapeOf-prop c None = λ x y i. tt
  ShapeOf-prop c (Some a) = Shaped-prop c a.0.now.slots a.1.now.slots

  -- the entries still to come of a walk; a walk without arrays has none
  abbrev pub rest_of_walk : (arrays : Option (Bor (Store Node) × Bor (Store (Option T)))) → ShapeOf arrays → List Bool → List Spot → List (List Bool × T)
  rest_of_walk None shape search_path ps = []
  rest_of_walk (Some a) shape search_path ps = pending shape.0.entries search_path ps

  -- the spots of a walk are in the table of the arrays, and each except the last has passed its child
  abbrev pub IsWalk : ℕ → (arrays : Option (Bor (Store Node) × Bor (Store (Option T)))) → ShapeOf arrays → List Bool → List Spot → Type 0
  IsWalk width None shape search_path ps = ⊤
  IsWalk width (Some a) shape search_path ps = IsTrie width (len shape.0.entries) a.0.now a.1.now shape.0 × IsStack width a.0.now.slots search_path ps × ArePassed search_path ps
