-- What the arrays and the spots of a walk tell of what is to come.
use Rattle.prefix_trie_table.proofs.Prelude.{◌≡◌, ℕ, ◌%◌, Bool, List, [], ◌∷◌, length, take, arith, Option, None, Some, refl, sym, ap, ◌∙◌, subst, map, is_some, true, MatchOption, IfSome, All-nil, slice_index_or, Bor, places, to_come, listing, listing_below, listing_at_places, State, listing_of_root, Node, Store, node_at, chunks_of, read, Shaped, IsShapeOf, same_shape, Seat, Spot, GivesFilled, Tree, IsSpot, IsPlaceOf, IsStack, IsPassed, ArePassed, still, pending, GivesSeat, ShapeOf, rest_of_walk, IsWalk, IsTrie, IsTable, len, contains_key, seat_of, GivesKey}
use Rattle.std.specs.List.{All}
use Rattle.prefix_trie_table.specs.Blocks.Cells.{without_sizes}
use Rattle.prefix_trie_table.specs.Walking.Walks.{slot_of}
use Rattle.prefix_trie_table.proofs.Walk.Stacks.{passed-above}
use Rattle.prefix_trie_table.proofs.Tree.Trees.{read-nil}
use Rattle.prefix_trie_table.proofs.Tree.Subtrees.{all_places}
use Rattle.prefix_trie_table.proofs.Lookup.Locations.{stored_if}

-- the table whose values are these
abbrev pub tree_of : {T : Type 0} → Store (Option T) → State T → Tree T
tree_of w s = record { count = len s.entries; cells = w; shape = s }

module _ {T : Type 0} (width : ℕ) where
  -- a walk has arrays, which hold a table
  pub record Rest (arrays : Option (Bor (Store Node) × Bor (Store (Option T)))) (shape : ShapeOf arrays) (search_path : List Bool) (ps : List Spot) (v : Store Node) (w : Store (Option T)) : Type 0 where
    pub state : State T
    pub tree : IsTrie width (len state.entries) v w state
    pub stack : IsStack width v.slots search_path ps
    pub passed : ArePassed search_path ps
    pub rest : rest_of_walk arrays shape search_path ps ≡ pending state.entries search_path ps
    pub later : (u : ShapeOf arrays) (k : List Bool) (qs : List Spot) → IsStack width v.slots k qs → ArePassed k qs → IsWalk width arrays u k qs
    pub later_rest : (u : ShapeOf arrays) (k : List Bool) (qs : List Spot) → rest_of_walk arrays u k qs ≡ pending state.entries k qs

  rest_some : (b : Bor (Store Node) × Bor (Store (Option T))) (shape : ShapeOf (Some b)) (search_path : List Bool) (ps : List Spot) → IsWalk width (Some b) shape search_path ps →
      Rest (Some b) shape search_path ps b.0.now b.1.now
  rest_some b shape search_path ps h = record {
    state = shape.0;
    tree = h.0;
    stack = h.1;
    passed = h.2;
    rest = refl;
    later = λ u k qs stack passed. (
      subst (λ (x : State T). IsTrie width (len x.entries) b.0.now b.1.now x) (same_shape b.0.now.slots b.1.now.slots shape.0 u.0 shape.1 u.1) h.0,
      stack,
      passed,
    );
    later_rest = λ u k qs. ap (λ (x : State T). pending x.entries k qs) (same_shape b.0.now.slots b.1.now.slots u.0 shape.0 u.1 shape.1);
  }

  pub rest_at : (arrays : Option (Bor (Store Node) × Bor (Store (Option T)))) (a : Bor (Store Node) × Bor (Store (Option T))) → arrays ≡ Some a →
      (shape : ShapeOf arrays) (search_path : List Bool) (ps : List Spot) → IsWalk width arrays shape search_path ps → Rest arrays shape search_path ps a.0.now a.1.now
  rest_at None a e shape search_path ps h = absurd (cc)
  rest_at (Some b) a e shape search_path ps h =
      let same : b ≡ a = cc in subst (λ (x : Bor (Store Node) × Bor (Store (Option T))). Rest (Some b) shape search_path ps x.0.now x.1.now) same (rest_some b shape search_path ps h)

  -- the arrays have one shape, whichever is named
  pub same_rest : (arrays : Option (Bor (Store Node) × Bor (Store (Option T)))) (s u : ShapeOf arrays) (search_path : List Bool) (ps qs : List Spot) → qs ≡ ps →
      rest_of_walk arrays u search_path qs ≡ rest_of_walk arrays s search_path ps
  same_rest None s u search_path ps qs e = refl
  same_rest (Some a) s u search_path ps qs e = ap (λ (x : State T). pending x.entries search_path qs) (same_shape a.0.now.slots a.1.now.slots u.0 s.0 u.1 s.1) ∙ ap (pending s.0.entries search_path) e

  pub same_walk : (arrays : Option (Bor (Store Node) × Bor (Store (Option T)))) (s u : ShapeOf arrays) (search_path : List Bool) (ps qs : List Spot) → qs ≡ ps →
      IsWalk width arrays s search_path ps → IsWalk width arrays u search_path qs
  same_walk None s u search_path ps qs e h = tt
  same_walk (Some a) s u search_path ps qs e h = (
    subst (λ (x : State T). IsTrie width (len x.entries) a.0.now a.1.now x) (same_shape a.0.now.slots a.1.now.slots s.0 u.0 s.1 u.1) h.0,
    subst (IsStack width a.0.now.slots search_path) (sym e) h.1,
    subst (ArePassed search_path) (sym e) h.2,
  )

  module _ (v : Store Node) (w : Store (Option T)) (s : State T) (tree : IsTrie width (len s.entries) v w s) (u : Shaped v.slots w.slots) where
    -- spots of the table in the arrays are a walk, and have to come what is pending at them
    module _ (search_path : List Bool) (ps : List Spot) where
      pub spots_walk : IsStack width v.slots search_path ps → ArePassed search_path ps → IsTrie width (len u.0.entries) v w u.0 × IsStack width v.slots search_path ps × ArePassed search_path ps
      spots_walk stack passed = (subst (λ (x : State T). IsTrie width (len x.entries) v w x) (same_shape v.slots w.slots s u.0 tree.shaped u.1) tree, stack, passed)

      pub spots_rest : (x : State T) → IsShapeOf v.slots w.slots x → pending u.0.entries search_path ps ≡ pending x.entries search_path ps
      spots_rest x is = ap (λ (y : State T). pending y.entries search_path ps) (same_shape v.slots w.slots u.0 x u.1 is)

    -- a walk at the root, with all its places
    module _ (search_path : List Bool) (c : Spot) (depth_is : c.depth ≡ 0) (node_is : c.node ≡ without_sizes (node_at v.slots 0))
        (all : to_come c.places ≡ places c.node.value_bitmap c.node.child_bitmap) (each : All (IsPlaceOf c.node) (to_come c.places)) (ps : List Spot) (only : ps ≡ c ∷ []) where
      root_string : take c.depth search_path ≡ []
      root_string = ap (λ n. take n search_path) depth_is

      root_is_there : read v.slots (chunks_of (take c.depth search_path)) ≡ Some (node_at v.slots 0)
      root_is_there = ap (λ u. read v.slots (chunks_of u)) root_string ∙ read-nil v.slots

      -- is a walk
      pub root_walk : IsTrie width (len u.0.entries) v w u.0 × IsStack width v.slots search_path ps × ArePassed search_path ps
      root_walk =
          let spot : IsSpot width v.slots search_path c = record { node = node_at v.slots 0; level = 0; depth_is = depth_is; within = omega (arith, depth_is); long = omega (arith, depth_is); is_there = root_is_there; node_is = node_is; each = each } in
          spots_walk search_path ps (subst (IsStack width v.slots search_path) (sym only) (refl, spot, tt)) (passed-above search_path ps [] c only (All-nil (IsPassed search_path)))

      -- and has the whole listing to come
      pub root_rest : (x : State T) → IsShapeOf v.slots w.slots x → pending u.0.entries search_path ps ≡ listing x.entries
      root_rest x is =
          ap (pending u.0.entries search_path) only ∙ ap (λ (y : State T). still y.entries search_path c) (same_shape v.slots w.slots u.0 s u.1 tree.shaped)
          ∙ ap (listing_at_places s.entries (take c.depth search_path)) (all ∙ ap (λ n. places n.value_bitmap n.child_bitmap) node_is)
          ∙ all_places width v (tree_of w s) tree (take c.depth search_path) (node_at v.slots 0) (ap (λ u. length u % 5) root_string) root_is_there
          ∙ ap (listing_below s.entries) root_string ∙ listing_of_root s.entries
          ∙ ap (λ (y : State T). listing y.entries) (same_shape v.slots w.slots s x tree.shaped is)

-- the value that is read at its seat is the one that comes next
pub gives_read : {K T : Type 0} (IsKey : K → Type 0) (bits : K → List Bool) (width : ℕ) (t : Tree T) (key : K) (len : ℕ) (seat : Seat) (p q old new : List (List Bool × T)) (x : T) → GivesSeat IsKey bits width t key len seat p q →
    slice_index_or t.cells.slots (slot_of seat) None ≡ Some x → old ≡ p → new ≡ q → GivesFilled IsKey bits width key len x old new
gives_read IsKey bits width t key len seat p q old new x h reads before after =
    let both : Some h.value ≡ Some x = sym h.reads ∙ reads in
    let same : h.value ≡ x = cc in
    record {
      is_key = h.gives.is_key;
      short = h.gives.short;
      first = before ∙ h.gives.first ∙ ap (λ v. (take len (bits key), v) ∷ q) same ∙ ap (λ es. (take len (bits key), x) ∷ es) (sym after);
      filled = h.gives.filled;
    }

-- what a step of a stack gives is the first key still to come
pub step_gives : {K T : Type 0} (IsKey : K → Type 0) (bits : K → List Bool) (width : ℕ) (t : Tree T) (nodes : List Node) (old new : List (List Bool × T)) (o : Option (K × ℕ × Seat)) →
    MatchOption o ((old ≡ []) × (new ≡ [])) (λ r. GivesSeat IsKey bits width t r.0 r.1 r.2 old new) → IfSome o (λ r. seat_of nodes (take r.1 (bits r.0)) ≡ Some r.2) →
    MatchOption o ((map (λ e. e.0) old ≡ []) × (map (λ e. e.0) new ≡ [])) (λ r. GivesKey IsKey bits width nodes r.0 r.1 r.2 (map (λ e. e.0) old) (map (λ e. e.0) new))
step_gives IsKey bits width t nodes old new None h seat = (ap (map (λ e. e.0)) h.0, ap (map (λ e. e.0)) h.1)
step_gives IsKey bits width t nodes old new (Some r) h seat = record {
  is_key = h.gives.is_key;
  short = h.gives.short;
  filled = h.gives.filled;
  first = ap (map (λ e. e.0)) h.gives.first;
  seated = seat;
}

-- a string that has a seat is stored
pub seated_stored : {K T : Type 0} (bits : K → List Bool) (v : Store Node) (w : Store (Option T)) (count : ℕ) (s : Shaped v.slots w.slots) → IsTable v w count s.0 → (o : Option (K × ℕ × Seat)) →
    IfSome o (λ r. seat_of v.slots (take r.1 (bits r.0)) ≡ Some r.2) → IfSome o (λ r. contains_key s.0.entries (take r.1 (bits r.0)) ≡ true)
seated_stored bits v w count s is None h = tt
seated_stored bits v w count s is (Some r) h = stored_if v w count s is (take r.1 (bits r.0)) ∙ ap is_some h
