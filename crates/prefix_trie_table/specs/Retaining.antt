-- How a table changes when a test is called on the entries at some places of a node. This project's own.
use Rattle.std.specs.Prelude.{◌≡◌, ℕ, ◌*◌, ◌<◌, ◌≤◌, Bool, true, false, cond, nat_lt, List, [], ◌∷◌, ◌++◌, length, take, Option, Some}
use Rattle.std.specs.List.{list_any}
use Rattle.std.specs.FinMap.{get, contains_key}
use Rattle.prefix_trie_bits.specs.Model.Bits.{begins}
use Rattle.prefix_trie_bits.specs.Model.Order.{same_string}
use Rattle.prefix_trie_bits.specs.Places.{is_in, place_of}
use Rattle.prefix_trie_bits.specs.declared.node.Place.{Place}
use Rattle.prefix_trie_bits.specs.Calls.Retaining.{RetainsEntriesTo, CallableOnEachEntry}
use Rattle.prefix_trie_bits.specs.Model.Entries.{Entries, without_below}
use Rattle.prefix_trie_bits.specs.Calls.NodeListings.{listing_at_places}
use Rattle.prefix_trie_bits.specs.Model.Nodes.{Nodes, has_node, needed}
use Rattle.prefix_trie_bits.specs.Model.Selections.{listing, listing_below}
use Rattle.prefix_trie_bits.specs.Model.Step.{State}
use Rattle.prefix_trie_table.specs.declared.allocator.node.Node.{Node}
use Rattle.prefix_trie_table.specs.declared.table.retain.Site.{Site}
use Rattle.prefix_trie_bits.specs.Model.Blocks.{StepsBetween}
use Rattle.prefix_trie_table.specs.Blocks.Cells.{node_sizes, cell_sizes}
use Rattle.prefix_trie_table.specs.Digits.{chunks_of}
use Rattle.prefix_trie_table.specs.Forest.{IsSlot, own_count, read}
use Rattle.prefix_trie_table.specs.Layouts.{own_children, child_block_size, value_block_size}
use Rattle.prefix_trie_table.specs.GrowthBounds.{BoundsGrowth}
use Rattle.prefix_trie_table.specs.Blocks.Store.{Store, KeepsMade}
use Rattle.prefix_trie_table.specs.Tables.{IsTrie}

-- whether the string q is at the place t of the node at s, or under the child at that place
abbrev pub is_at : List Bool → List Bool → List Bool → Bool
is_at s t q = cond (nat_lt (length t) 5) (same_string q (s ++ t)) (begins (s ++ t) q)

-- whether the string q is at one of these places, or under the child there
abbrev pub is_at_some : List Bool → List (List Bool) → List Bool → Bool
is_at_some s ts q = list_any (λ t. is_at s t q) ts

-- whether the place t of the node at s belongs to a child, and the string q is under that child
abbrev pub is_under : List Bool → List Bool → List Bool → Bool
is_under s t q = cond (nat_lt (length t) 5) false (begins (s ++ t) q)

-- whether the string q is under the child at one of these places
abbrev pub is_under_some : List Bool → List (List Bool) → List Bool → Bool
is_under_some s ts q = list_any (λ t. is_under s t q) ts

-- the node has this place, which belongs to a string
pub record HasPlace (n : Node) (p : Place) : Type 0 where
  pub string : List Bool
  pub short : length string ≤ 5
  pub is : p ≡ place_of string
  pub set : is_in n.value_bitmap n.child_bitmap string ≡ true

-- the blocks of a node's values and of its children are no larger than before and hold what is left
pub record BlocksBetween (n m : Option Node) : Type 0 where
  pub values : StepsBetween cell_sizes (own_count n) (own_count m) (value_block_size n) (value_block_size m)
  pub children : StepsBetween node_sizes (own_children n) (own_children m) (child_block_size n) (child_block_size m)

-- an array is no shorter than before, its limit is the same, and no block is lost
pub record Stays {S : Type 0} (v w : Store S) : Type 0 where
  pub limit : w.limit ≡ v.limit
  pub longer : length v.slots ≤ length w.slots
  pub made : KeepsMade v w

module _ {T : Type 0} where
  -- some stored key begins with q
  pub record Needs (m : Entries T) (q : List Bool) : Type 0 where
    pub key : List Bool
    pub stored : contains_key m key ≡ true
    pub goes_on : begins q key ≡ true

  -- no block of either array is lost, the bound on their growth did not rise, and the nodes above this level are unchanged
  pub record PreservesBelow (level : ℕ) (v v2 : Store Node) (w w2 : Store (Option T)) : Type 0 where
    pub above : (p : List ℕ) → length p < level → read v2.slots p ≡ read v.slots p
    pub nodes : Stays v v2
    pub cells : Stays w w2
    pub bounds_growth : BoundsGrowth v v2 w w2
    pub blocks : (x : List ℕ) → BlocksBetween (read v.slots x) (read v2.slots x)

-- the node is in the slot of the site and at its path, which is no longer than the width
pub record IsSite {K : Type 0} (IsKey : K → Type 0) (bits : K → List Bool) (width : ℕ) (v : Store Node) (p : Site K) (n : Node) : Type 0 where
  pub key : IsKey p.key
  pub level : ℕ
  pub depth_is : p.depth ≡ 5 * level
  pub within : p.depth ≤ width
  pub is_there : read v.slots (chunks_of (take p.depth (bits p.key))) ≡ Some n
  pub slot_is : IsSlot (read v.slots) (chunks_of (take p.depth (bits p.key))) p.slot

module _ {F T : Type 0} (may_return : F → List Bool → T → Bool → F → Type 0) where
  -- called once on each entry in order from the state f, the test can be left as g
  abbrev pub AsksUpTo : F → List (List Bool × T) → F → Type 0
  AsksUpTo f [] g = g ≡ f
  AsksUpTo f (e ∷ es) g = (b : Bool) × (f' : F) × may_return f e.0 e.1 b f' × AsksUpTo f' es g

  -- the test returns false at each call
  abbrev pub ReturnsFalse : Type 0
  ReturnsFalse = (f : F) (k : List Bool) (x : T) (b : Bool) (g : F) → may_return f k x b g → b ≡ false

module _ {F T : Type 0} (may_return : F → List Bool → T → Bool → F → Type 0) (accepts : F → List Bool → T → Type 0) where
  -- the test was called on each entry at these places of the node at s, in listing order, and the entries for which it
  -- returned true are left
  -- The nodes under these places that no remaining key needs are removed. Everything else is unchanged.
  pub record Retains (s : List Bool) (ts : List (List Bool)) (f : F) (before : State T) (f' : F) (after : State T) : Type 0 where
    pub kept : List (List Bool × T)
    pub asked : (rest later : List (List Bool × T)) (g : F) → RetainsEntriesTo may_return f' rest later g →
        RetainsEntriesTo may_return f (listing_at_places before.entries s ts ++ rest) (kept ++ later) g
    pub up_to : AsksUpTo may_return f (listing_at_places before.entries s ts) f'
    pub may_ask : (rest : List (List Bool × T)) → CallableOnEachEntry may_return accepts f (listing_at_places before.entries s ts ++ rest) →
        CallableOnEachEntry may_return accepts f' rest
    pub stays : listing_at_places after.entries s ts ≡ kept
    pub others : (q : List Bool) → is_at_some s ts q ≡ false → get after.entries q ≡ get before.entries q
    pub fewer : (q : List Bool) → has_node after.nodes q ≡ true → has_node before.nodes q ≡ true
    pub off : (q : List Bool) → is_under_some s ts q ≡ false → has_node after.nodes q ≡ has_node before.nodes q
    pub needed : (q : List Bool) → is_under_some s ts q ≡ true → has_node after.nodes q ≡ true → Needs after.entries q

  -- the same for the entries and nodes in arrays
  pub record RetainsTo (width : ℕ) (s : List Bool) (ts : List (List Bool)) (f : F) (before : State T) (f' : F) (count : ℕ) (v : Store Node) (w : Store (Option T)) : Type 0 where
    pub after : State T
    pub trie : IsTrie width count v w after
    pub retains : Retains s ts f before f' after

  abbrev pub RetainsIn : ℕ → List Bool → List (List Bool) → F → ℕ → Store Node → Store (Option T) → F → ℕ → Store Node → Store (Option T) → Type 0
  RetainsIn width s ts f count v w f' count2 v2 w2 =
      (before : State T) → IsTrie width count v w before → RetainsTo width s ts f before f' count2 v2 w2

  -- the test may be called on each entry at these places
  abbrev pub MayAskAt : ℕ → List Bool → List (List Bool) → F → ℕ → Store Node → Store (Option T) → Type 0
  MayAskAt width s ts f count v w =
      (before : State T) → IsTrie width count v w before → CallableOnEachEntry may_return accepts f (listing_at_places before.entries s ts)

  -- the test may be called on each entry whose key begins with q
  abbrev pub MayAskBelow : ℕ → List Bool → F → ℕ → Store Node → Store (Option T) → Type 0
  MayAskBelow width q f count v w = (before : State T) → IsTrie width count v w before → CallableOnEachEntry may_return accepts f (listing_below before.entries q)

  -- the test was called once on each entry whose key begins with q, and these entries were removed; these nodes are left
  pub record TakesBelow (width : ℕ) (q : List Bool) (f : F) (before : State T) (f' : F) (left : Nodes) (count : ℕ) (v : Store Node) (w : Store (Option T)) : Type 0 where
    pub trie : IsTrie width count v w (record { entries = without_below before.entries q; nodes = left })
    pub up_to : AsksUpTo may_return f (listing_below before.entries q) f'

  -- the test was called on each entry of these arrays, in listing order, and left in the state f'
  -- The arrays now have the entries for which it returned true, and the nodes that these need.
  pub record RetainsAll (width : ℕ) (f : F) (before : State T) (f' : F) (count : ℕ) (v : Store Node) (w : Store (Option T)) : Type 0 where
    pub after : State T
    pub trie : IsTrie width count v w after
    pub asked : RetainsEntriesTo may_return f (listing before.entries) (listing after.entries) f'
    pub tidy : after.nodes ≡ needed after.entries
