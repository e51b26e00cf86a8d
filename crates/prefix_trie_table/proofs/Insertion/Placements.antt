-- What a call leaves that adds a missing value where its search ends, stated as for an insertion.
use Rattle.prefix_trie_table.proofs.Prelude.{◌≡◌, ℕ, ◌+◌, false, Bool, List, Option, None, Some, Result, Ok, Err, MatchResult, IfErr, sym, ◌∙◌, arith, get, contains_key, Refused, Memory, IndexRange, Insert, InsertsInStorage, RefusesInStorage, StepByPath, Node, Reached, Seat, IsLast, ObtainsBoth, nodes_needed, cells_needed, chunks_of, bit_of, Holds, EntryAdded, Sized, Shaped, insert_reply, insert_new_reply, Store, IsTable, ForHeld, GrowsBoth, MayPass}
use Rattle.prefix_trie_table.proofs.Insertion.PredictedNeeds.{obtained}
use Rattle.prefix_trie_table.proofs.Insertion.InsertedStorage.{inserted_in}
use Rattle.prefix_trie_table.proofs.Insertion.NewSizes.{sizes_left}
use Rattle.prefix_trie_table.proofs.Tree.Shapes.{shape_entries, Leaves, Counts}
use Rattle.prefix_trie_table.proofs.Blocks.NodeLayouts.{storage_of}
use Rattle.prefix_trie_table.proofs.Tree.ModelSteps.{inserts_step}
use Rattle.prefix_trie_table.proofs.Tree.Trees.{is_none-None}

-- a result as that of an insertion: there was no value before
abbrev pub inserting : {T E : Type 0} → Result Seat E → Result (Option T) E
inserting (Ok seat) = Ok None
inserting (Err e) = Err e

-- what it obtained
obtaining : {T E : Type 0} (for_limit for_memory : E → Type 0) (v v2 : Store Node) (w w2 : Store (Option T)) (nodes cells : List ℕ) (r : Result Seat E) →
    ObtainsBoth for_limit for_memory r v v2 w w2 nodes cells → ObtainsBoth for_limit for_memory (inserting {T = T} r) v v2 w w2 nodes cells
obtaining for_limit for_memory v v2 w w2 nodes cells (Ok seat) o =
    record { nodes_made = o.nodes_made; cells_made = o.cells_made; range = tt; memory = tt; some_missing = tt }
obtaining for_limit for_memory v v2 w w2 nodes cells (Err e) o = record { nodes_made = o.nodes_made; cells_made = o.cells_made; range = o.range; memory = o.memory; some_missing = o.some_missing }

module _ {T E : Type 0} (q : List Bool) (x : T) (v v2 : Store Node) (w w2 : Store (Option T)) (count count2 : ℕ) (s : Shaped v.slots w.slots)
    (is : IsTable v w count s.0) where
  -- what the call leaves of the arrays, if there was no value
  pub placed_leaves : contains_key s.0.entries q ≡ false → (r : Result Seat E) → ForHeld v w (λ reading paths values. MatchResult r
      (λ _. EntryAdded reading values paths (chunks_of q) (bit_of q) (Some x) v2 w2) (λ _. Holds reading values paths v2 w2)) →
      Leaves q x v v2 w w2 count count2 s is (inserting r)
  placed_leaves absent (Ok seat) left = λ reading paths values holds. (
    sym (is_none-None (get s.0.entries q) absent) ∙ shape_entries reading values paths v w holds s.0 s.1 q,
    left reading paths values holds,
  )
  placed_leaves absent (Err e) left = left

  -- and of the count
  pub placed_counts : (r : Result Seat E) → MatchResult r (λ _. count2 ≡ count + 1) (λ _. count2 ≡ count) → Counts q x v v2 w w2 count count2 s is (inserting r)
  placed_counts (Ok seat) counts = omega (arith, counts)
  placed_counts (Err e) counts = counts

-- so it is a step of the model
module _ {T : Type 0} (q : List Bool) (x : T) (v v2 : Store Node) (w w2 : Store (Option T)) (count count2 : ℕ) (s : Shaped v.slots w.slots)
    (is : IsTable v w count s.0) (t : Shaped v2.slots w2.slots) (left : IsTable v2 w2 count2 t.0) (sized : Sized v.slots) (later : Sized v2.slots) (here : Reached)
    (at : IsLast q here v) (absent : contains_key s.0.entries q ≡ false) where
  taken : (r : Result Seat (Refused T)) → Leaves q x v v2 w w2 count count2 s is (inserting r) →
      ObtainsBoth (λ (e : Refused T). e.cause ≡ IndexRange) (λ (e : Refused T). e.cause ≡ Memory) r v v2 w w2 (nodes_needed here q) (cells_needed here q) →
      MatchResult (inserting {T = T} r) (λ _. InsertsInStorage s.0 q (storage_of v w sized) (storage_of v2 w2 later))
      (λ e. RefusesInStorage s.0 q e.cause (storage_of v w sized) (storage_of v2 w2 later))
  taken r leaves obtains =
      inserted_in v v2 w w2 count count2 s.0 t.0 is left sized later q (λ e. e.cause) (inserting r)
      (obtained (λ e. e.cause ≡ IndexRange) (λ e. e.cause ≡ Memory) q here v v2 w w2 count s is sized (inserting r) at (obtaining _ _ v v2 w w2 _ _ r obtains))
      (sizes_left q x v v2 w w2 count s is sized later absent (inserting r) leaves)

  range_given : (r : Result Seat (Refused T)) → IfErr r (λ e. e.cause ≡ IndexRange → MayPass v w) → IfErr (inserting {T = T} r) (λ e. e.cause ≡ IndexRange → MayPass v w)
  range_given (Ok seat) h = tt
  range_given (Err e) h = h

  matched : (width : ℕ) (r : Result Seat (Refused T)) → StepByPath width (s.0, storage_of v w sized) (Insert q x) (insert_reply (inserting r)) (t.0, storage_of v2 w2 later) →
      StepByPath width (s.0, storage_of v w sized) (Insert q x) (insert_new_reply r) (t.0, storage_of v2 w2 later)
  matched width (Ok seat) h = h
  matched width (Err e) h = h

  pub placed_step : (r : Result Seat (Refused T)) → Leaves q x v v2 w w2 count count2 s is (inserting r) →
      ObtainsBoth (λ (e : Refused T). e.cause ≡ IndexRange) (λ (e : Refused T). e.cause ≡ Memory) r v v2 w w2 (nodes_needed here q) (cells_needed here q) → GrowsBoth (λ (e : Refused T). e.cause ≡ IndexRange) r v v2 w w2 →
      (width : ℕ) → StepByPath width (s.0, storage_of v w sized) (Insert q x) (insert_new_reply r) (t.0, storage_of v2 w2 later)
  placed_step r leaves obtains grows width = matched width r (inserts_step v v2 w w2 count count2 s is sized t left later q x (inserting r) (record {
    leaves = leaves;
    absent = absent;
    takes = taken r leaves obtains;
    range = range_given r grows.range;
  }) grows.nodes grows.cells width)
