-- What is still to come of a walk over two tables at once. This project's own.
use Rattle.std.specs.Prelude.{◌≡◌, ℕ, ◌+◌, ◌-◌, ◌*◌, ◌<◌, ◌≤◌, Bool, true, ◌&&◌, ◌||◌, List, [], ◌∷◌, ◌++◌, length, take, Option, Some, None, is_some}
use Rattle.std.specs.FinMap.{contains_key, get}
use Rattle.std.specs.List.{All}
use Rattle.prefix_trie_bits.specs.Model.Bits.{zeros}
use Rattle.prefix_trie_bits.specs.Model.Entries.{Entries}
use Rattle.prefix_trie_bits.specs.Places.{is_in}
use Rattle.prefix_trie_bits.specs.Walks.{to_come}
use Rattle.prefix_trie_table.specs.declared.allocator.node.Node.{Node}
use Rattle.prefix_trie_table.specs.declared.table.combined.CombinedCursor.{CombinedCursor}
use Rattle.prefix_trie_table.specs.declared.table.combined_spot.Combination.{Combination}
use Rattle.prefix_trie_table.specs.declared.table.combined_spot.Combination.TheVariants.{Union, Intersection}
use Rattle.prefix_trie_table.specs.declared.table.combined_spot.CombinedSpot.{CombinedSpot}
use Rattle.prefix_trie_table.specs.declared.table.combined_spot.CombinedStep.{CombinedStep}
use Rattle.prefix_trie_table.specs.declared.table.combined_spot.CombinedStep.TheVariants.{Entry, Child, Done}
use Rattle.prefix_trie_table.specs.Blocks.Cells.{blank_node, without_sizes}
use Rattle.prefix_trie_table.specs.Blocks.Store.{Store}
use Rattle.prefix_trie_table.specs.Digits.{chunks_of}
use Rattle.prefix_trie_table.specs.Forest.{read}
use Rattle.prefix_trie_table.specs.Locations.{seat_of}
use Rattle.prefix_trie_table.specs.Tables.{IsTrie}
use Rattle.prefix_trie_table.specs.Walking.Walks.{Tree, AreLevels, from_last, still, weight}

-- whether a walk gives a key, by whether each table has it
abbrev pub is_chosen : Combination → Bool → Bool → Bool
is_chosen Union a b = a || b
is_chosen Intersection a b = a && b

-- the map has the chosen keys of two others
abbrev pub IsCombination : {T U X : Type 0} → Combination → Entries T → Entries U → Entries X → Type 0
IsCombination combination m n both = (s : List Bool) → contains_key both s ≡ is_chosen combination (contains_key m s) (contains_key n s)

-- the map has the chosen keys of two arrays of nodes
abbrev pub IsCombined : {X : Type 0} → Combination → List Node → List Node → Entries X → Type 0
IsCombined combination left right both =
    (s : List Bool) → contains_key both s ≡ is_chosen combination (is_some (seat_of left s)) (is_some (seat_of right s))

-- the node that a walk keeps for one that it read: without the sizes of its blocks, or a blank one if there is none
abbrev pub kept_node : Option Node → Node
kept_node None = blank_node
kept_node (Some n) = without_sizes n

-- whether two nodes have a place that a walk visits
abbrev pub is_combined : Combination → Node → Node → List Bool → Bool
is_combined combination l r s = is_chosen combination (is_in l.value_bitmap l.child_bitmap s) (is_in r.value_bitmap r.child_bitmap s)

-- two nodes have this place
abbrev pub IsCombinedPlace : Combination → Node → Node → List Bool → Type 0
IsCombinedPlace combination l r s = (length s ≤ 5) × (is_combined combination l r s ≡ true)

-- these arrays are two tables
pub record CombinedTrees {T U : Type 0} (width : ℕ) (left right : Store Node) (l : Tree T) (r : Tree U) : Type 0 where
  pub left_is : IsTrie width l.count left l.cells l.shape
  pub right_is : IsTrie width r.count right r.cells r.shape

-- the spot has the nodes of two arrays whose path is a beginning of `search_path`; only their places are to come
pub record IsCombinedSpot (width : ℕ) (left right : List Node) (combination : Combination) (search_path : List Bool) (p : CombinedSpot) : Type 0 where
  pub level : ℕ
  pub depth_is : p.spot.depth ≡ 5 * level
  pub within : p.spot.depth ≤ width
  pub long : p.spot.depth ≤ length search_path
  pub left_is : p.spot.node ≡ kept_node (read left (chunks_of (take p.spot.depth search_path)))
  pub right_is : p.right ≡ kept_node (read right (chunks_of (take p.spot.depth search_path)))
  pub each : All (IsCombinedPlace combination p.spot.node p.right) (to_come p.spot.places)

-- the depth of a spot
abbrev pub combined_depth : CombinedSpot → ℕ
combined_depth p = p.spot.depth

-- each spot is a level below the one before, and the first is at the roots
abbrev pub IsCombinedStack : ℕ → List Node → List Node → Combination → List Bool → List CombinedSpot → Type 0
IsCombinedStack width left right combination search_path ps = AreLevels combined_depth (IsCombinedSpot width left right combination search_path) 0 ps

-- the bound on the steps at a spot
abbrev pub combined_weight : CombinedSpot → ℕ
combined_weight p = weight p.spot

module _ {X : Type 0} where
  -- the entries of a map still to come at a spot
  abbrev pub combined_still : Entries X → List Bool → CombinedSpot → List (List Bool × X)
  combined_still both search_path p = still both search_path p.spot

  -- the entries of a map still to come at a stack of spots, the last of which is the deepest
  abbrev pub combined_pending : Entries X → List Bool → List CombinedSpot → List (List Bool × X)
  combined_pending both search_path ps = from_last (combined_still both search_path) ps

  -- a step gives the path of the first of a map's entries still to come
  pub record GivesCombined (both : Entries X) (path : List Bool) (old new : List (List Bool × X)) : Type 0 where
    pub value : X
    pub first : old ≡ (path, value) ∷ new
    pub stored : get both path ≡ Some value

-- the first `len` bits of a number, which has zeros after them
pub record IsFilled {K : Type 0} (IsKey : K → Type 0) (bits : K → List Bool) (width : ℕ) (key : K) (len : ℕ) : Type 0 where
  pub is_key : IsKey key
  pub short : len ≤ width
  pub filled : bits key ≡ take len (bits key) ++ zeros (width - len)

module _ (X : Type 0) {K : Type 0} (IsKey : K → Type 0) (bits : K → List Bool) (width : ℕ) (left right : List Node) (combination : Combination) (search_path : List Bool) (p : CombinedSpot) where
  -- a step at the spot p gave this result, and the spot is q afterwards
  abbrev pub CombinedSteps : CombinedStep K → CombinedSpot → Type 0
  CombinedSteps (Entry found len l r) q =
      ((both : Entries X) → IsCombined combination left right both → GivesCombined both (take len (bits found)) (combined_still both search_path p) (combined_still both search_path q))
      × IsFilled IsKey bits width found len
      × (seat_of left (take len (bits found)) ≡ l) × (seat_of right (take len (bits found)) ≡ r)
      × (combined_weight q < combined_weight p) × IsCombinedSpot width left right combination search_path q × (combined_depth q ≡ combined_depth p)
  CombinedSteps (Child c below) q =
      ((both : Entries X) → IsCombined combination left right both → combined_still both search_path p ≡ combined_still both (bits below) c ++ combined_still both search_path q)
      × (combined_weight c + combined_weight q < combined_weight p) × IsCombinedSpot width left right combination search_path q × (combined_depth q ≡ combined_depth p)
      × IsCombinedSpot width left right combination (bits below) c × (combined_depth c ≡ combined_depth p + 5) × (take (combined_depth p) (bits below) ≡ take (combined_depth p) search_path)
  CombinedSteps Done q = ((both : Entries X) → IsCombined combination left right both → combined_still both search_path p ≡ []) × (0 < combined_weight p)

module _ {K : Type 0} where
  -- the cursor of such a walk is in these two arrays of nodes
  abbrev pub IsCombinedCursorIn : (K → List Bool) → ℕ → List Node → List Node → Combination → CombinedCursor K → Type 0
  IsCombinedCursorIn bits width left right combination cursor = IsCombinedStack width left right combination (bits cursor.key) cursor.stack.items

  -- the entries of a map that are still to come
  abbrev pub combined_to_come : {X : Type 0} → (K → List Bool) → Entries X → CombinedCursor K → List (List Bool × X)
  combined_to_come bits both cursor = combined_pending both (bits cursor.key) cursor.stack.items
