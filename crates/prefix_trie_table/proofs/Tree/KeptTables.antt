-- A table after a call that only makes free blocks: for `reserve`.
use Rattle.prefix_trie_table.proofs.Prelude.{◌≡◌, ℕ, false, Bool, List, Option, Result, MatchResult, sym, ap, ◌∙◌, subst, contains_key, Refusal, Memory, IndexRange, State, PreparesInStorage, RefusesInStorage, Node, Reached, IsLast, ObtainsBoth, nodes_needed, cells_needed, Holds, Sized, EndsAt, seat_of, IsEndNode, Shaped, same_shape, Store, IsTable, ForHeld, Grows}
use Rattle.std.specs.FinMap.{len as number_of}
use Rattle.prefix_trie_table.proofs.Insertion.PredictedNeeds.{obtained}
use Rattle.prefix_trie_table.proofs.Insertion.InsertedStorage.{prepared_in}
use Rattle.prefix_trie_table.proofs.Insertion.InsertionEffects.{last_still}
use Rattle.prefix_trie_table.proofs.Tree.Invariant.{some_table}
use Rattle.prefix_trie_table.proofs.Lookup.PathEnds.{last_ends, ends_last}
use Rattle.prefix_trie_table.proofs.Lookup.Locations.{stored_if}
use Rattle.prefix_trie_table.proofs.Insertion.NewSizes.{sizes_kept}
use Rattle.prefix_trie_table.proofs.Tree.Shapes.{shape_kept}
use Rattle.prefix_trie_table.proofs.Blocks.NodeLayouts.{storage_of}
use Rattle.prefix_trie_table.proofs.Tree.Trees.{is_none-None}

-- the search path of a string that is not stored
module _ {T : Type 0} (v : Store Node) (w : Store (Option T)) (count : ℕ) (s : Shaped v.slots w.slots) (is : IsTable v w count s.0) (q : List Bool)
    (here : Reached) (build : List Node) (same : v.slots ≡ build) where
  -- its end is the last node on it
  pub end_last : IsEndNode build q here → IsLast q here v
  end_last e = ends_last v is.reading is.paths is.nodes q here (subst (λ nodes. IsEndNode nodes q here) (sym same) e)

  -- which has no seat for it
  pub ends_at : contains_key s.0.entries q ≡ false → IsEndNode build q here → EndsAt v q here
  ends_at absent e = (is_none-None (seat_of v.slots q) (sym (stored_if v w count s is q) ∙ absent), end_last e)

module _ {T : Type 0} (v v2 : Store Node) (w w2 : Store (Option T)) (count : ℕ) (s : Shaped v.slots w.slots) (is : IsTable v w count s.0)
    (kept : ForHeld v w (λ reading paths values. Holds reading values paths v2 w2)) where
  -- the arrays hold what they held
  pub kept_holds : Holds is.reading is.values is.paths v2 w2
  kept_holds = kept is.reading is.paths is.values (some_table is).holds

  -- the arrays have the same shape
  abbrev pub kept_shape : Shaped v2.slots w2.slots
  kept_shape = (s.0, shape_kept is.reading is.values is.paths v v2 w w2 (some_table is).holds s.0 s.1 kept_holds)

  -- they have no other shape
  pub kept_same : (t : Shaped v2.slots w2.slots) → t.0 ≡ s.0
  kept_same t = same_shape v2.slots w2.slots t.0 s.0 t.1 kept_shape.1

  -- the arrays are a table
  pub kept_table : Grows v v2 56 → Grows w w2 31 → (t : Shaped v2.slots w2.slots) → IsTable v2 w2 count t.0
  kept_table more_nodes more_cells t = record {
    reading = is.reading;
    values = is.values;
    paths = is.paths;
    nodes = kept_holds.hold;
    cells = kept_holds.cells;
    counted = is.counted;
    sized = is.sized ∙ ap (λ (y : State T). number_of y.entries) (sym (kept_same t));
    cells_first = more_cells.first_is ∙ is.cells_first;
    one_limit = more_cells.limit_is ∙ is.one_limit ∙ sym more_nodes.limit_is;
    nodes_within = more_nodes.within is.nodes_within;
    cells_within = more_cells.within is.cells_within;
  }

  -- the used blocks have the sizes that they had
  pub kept_sizes : (sized : Sized v.slots) (later : Sized v2.slots) → (later.0 ≡ sized.0) × (later.1.0 ≡ sized.1.0)
  kept_sizes sized later = sizes_kept is.reading is.values is.paths v w (some_table is).holds s.0 s.1 sized v2 w2 later kept_holds

  module _ (q : List Bool) (here : Reached) (at : IsLast q here v) where
    -- a search ends where it ended
    pub kept_end : IsEndNode v2.slots q here
    kept_end =
        let t = some_table is in
        last_ends v2 t.reading t.paths kept_holds.hold q here (last_still q here v at v2 t.reading t.paths t.holds.hold kept_holds.hold)

    -- what was made for the string is what its insertion needs
    pub kept_prepares : {X : Type 0} (sized : Sized v.slots) (later : Sized v2.slots) (r : Result X Refusal) → Grows v v2 56 → Grows w w2 31 →
        ObtainsBoth (λ cause. cause ≡ IndexRange) (λ cause. cause ≡ Memory) r v v2 w w2 (nodes_needed here q) (cells_needed here q) →
        MatchResult r (λ _. PreparesInStorage s.0 q (storage_of v w sized) (storage_of v2 w2 later))
        (λ cause. RefusesInStorage s.0 q cause (storage_of v w sized) (storage_of v2 w2 later))
    kept_prepares sized later r more_nodes more_cells obtains =
        prepared_in v v2 w w2 count count s.0 s.0 is (kept_table more_nodes more_cells kept_shape) sized later q (λ cause. cause) r
        (obtained (λ cause. cause ≡ IndexRange) (λ cause. cause ≡ Memory) q here v v2 w w2 count s is sized r at obtains)
        (kept_sizes sized later)
