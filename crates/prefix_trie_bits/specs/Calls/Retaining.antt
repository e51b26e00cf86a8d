-- Calls of a test on each entry in listing order, as `retain` makes them.
-- From the Rust crate's documentation of `retain`; the order is this project's own.
use Rattle.std.specs.Prelude.{◌≡◌, Bool, cond, List, [], ◌∷◌, ⊤}
use Rattle.std.specs.FinMap.{len}
use Rattle.prefix_trie_bits.specs.Model.Nodes.{needed}
use Rattle.prefix_trie_bits.specs.Model.Space.{LeavesSpace}
use Rattle.prefix_trie_bits.specs.Model.Selections.{listing}
use Rattle.prefix_trie_bits.specs.Model.Step.{State}
use Rattle.prefix_trie_bits.specs.Model.Storage.{RemovesManyInStorage, Storage}

-- `may_return f k v b f'`: the test in the state f, called on the key k and the value v, can return b and
-- be left in the state f'
module _ {F T : Type 0} (may_return : F → List Bool → T → Bool → F → Type 0) where
  -- the test is called once on each entry in order, starting in the state f, and exactly the
  -- entries for which it returned true are kept
  abbrev pub RetainsEntries : F → List (List Bool × T) → List (List Bool × T) → Type 0
  RetainsEntries f [] kept = kept ≡ []
  RetainsEntries f (e ∷ es) kept =
      (b : Bool) × (f' : F) × (later : List (List Bool × T)) × may_return f e.0 e.1 b f' × RetainsEntries f' es later × (kept ≡ cond b (e ∷ later) later)

  -- the same, and the last call leaves the test in the state g
  abbrev pub RetainsEntriesTo : F → List (List Bool × T) → List (List Bool × T) → F → Type 0
  RetainsEntriesTo f [] kept g = (kept ≡ []) × (g ≡ f)
  RetainsEntriesTo f (e ∷ es) kept g =
      (b : Bool) × (f' : F) × (later : List (List Bool × T)) × may_return f e.0 e.1 b f' × RetainsEntriesTo f' es later g × (kept ≡ cond b (e ∷ later) later)

  -- the test may be called on each entry in order, whatever the calls before returned
  abbrev pub CallableOnEachEntry : (F → List Bool → T → Type 0) → F → List (List Bool × T) → Type 0
  CallableOnEachEntry accepts f [] = ⊤
  CallableOnEachEntry accepts f (e ∷ es) =
      accepts f e.0 e.1 × ((b : Bool) (f' : F) → may_return f e.0 e.1 b f' → CallableOnEachEntry accepts f' es)

module _ {T : Type 0} where
  -- a step that calls the test f on each entry in listing order and keeps those for which it
  -- returns true, with the nodes that they need
  pub record RetainsInStorage {F : Type 0} (may_return : F → List Bool → T → Bool → F → Type 0) (f : F) (s t : State T × Storage) : Type 0 where
    pub kept : RetainsEntries may_return f (listing s.0.entries) (listing t.0.entries)
    pub nodes : t.0.nodes ≡ needed t.0.entries
    pub space : LeavesSpace (len s.0.nodes) s.1.space t.1.space
    pub storage : RemovesManyInStorage s.0 t.0 s.1 t.1
