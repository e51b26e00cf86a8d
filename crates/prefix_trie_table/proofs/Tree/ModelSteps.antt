-- A call that changes a table is a step of the model, including its storage: for each call.
use Rattle.prefix_trie_table.proofs.Prelude.{◌≡◌, ℕ, ◌+◌, ◌<◌, ◌≤◌, inl, inr, Bool, true, false, cond, List, [], ◌∷◌, length, Option, Result, Ok, Err, IfErr, MatchResult, is_some, refl, sym, ap, ◌∙◌, true≢false, subst, arith, get, contains_key, len, Refused, Refusal, IndexRange, RetainsEntries, no_entries, without_entry, without_below, root_alone, with_needed, nodes_without, nodes_without_below, needed, AreNodes, MayPassLimit, LeavesSpace, listing, State, Reply, Step, Insert, Remove, RemoveKeepTree, RemoveChildren, Clear, Done, Storage, empty_storage, InsertsInStorage, RefusesInStorage, RemovesValueInStorage, PrunesInStorage, RemovesManyInStorage, LeavesStorage, StepByPath, RetainsInStorage, Node, Sized, PreservesBelow, Shaped, insert_reply, BoundsStorageGrowth, Store, free_counts, IsTable, Grows, MayPass}
use Rattle.prefix_trie_bits.specs.Model.Step.{Value}
use Rattle.prefix_trie_table.proofs.Tree.Invariant.{some_table}
use Rattle.prefix_trie_table.proofs.Blocks.KeptBlocks.{kept_blocks}
use Rattle.prefix_trie_table.proofs.Removal.RemovedParts.{all_gone, root_left}
use Rattle.prefix_trie_table.proofs.Removal.GrowthBounds.{bounded_space, some_nodes}
use Rattle.prefix_trie_table.proofs.Tree.Shapes.{Leaves, before_left, left_only, shape_nodes}
use Rattle.prefix_trie_table.proofs.Blocks.NodeLayouts.{storage_of}
use Rattle.prefix_trie_table.proofs.Removal.ModelSizes.{retained_values, retained_children}
use Rattle.prefix_trie_table.proofs.Removal.GrowthOfArrays.{nodes_bounded, cells_bounded, still}

-- every string begins with the empty string, so removing all that begins with it is a `Clear`
pub all_step : {T : Type 0} (key_width : ℕ) (s t : State T × Storage) (q : List Bool) → length q ≡ 0 → AreNodes key_width s.0.entries s.0.nodes →
    ((width : ℕ) → StepByPath width s Clear Done t) → (width : ℕ) → StepByPath width s (RemoveChildren q) Done t
all_step key_width s t [] none are h width = record {
  step = (refl, (h width).step.1 ∙ sym (λ i. record { entries = all_gone s.0.entries i; nodes = root_left key_width s.0.entries s.0.nodes are i }));
  space = (h width).space;
  index_range = (h width).index_range;
  storage = (λ _. (h width).storage, λ some. absurd (omega (arith, some)));
}
all_step key_width s t (b ∷ q) none are h width = absurd (omega (arith, none))

module _ {T : Type 0} (v v2 : Store Node) (w w2 : Store (Option T)) (count count2 : ℕ) (s : Shaped v.slots w.slots) (is : IsTable v w count s.0)
    (z : Sized v.slots) (s2 : Shaped v2.slots w2.slots) (left : IsTable v2 w2 count2 s2.0) (z2 : Sized v2.slots) where
  abbrev before : State T × Storage
  before = (s.0, storage_of v w z)

  abbrev after : State T × Storage
  after = (s2.0, storage_of v2 w2 z2)

  -- the root is a node
  some_node : 0 < len s.0.nodes
  some_node =
      let t = some_table is in
      some_nodes s.0.nodes [] (shape_nodes t.reading t.values t.paths v w t.holds s.0 s.1 [] ∙ ap is_some t.holds.hold.rooted)

  cells_within : length w2.slots ≤ v2.limit
  cells_within = (let h = left.cells_within in let e = left.one_limit in omega (arith, h, e))

  -- at most 56 new slots are at most 56 for each node
  few_slots : v2.limit ≡ v.limit → length v2.slots ≤ length v.slots + 56 → length w2.slots ≤ length w.slots + 56 →
      LeavesSpace (len s.0.nodes) (storage_of v w z).space (storage_of v2 w2 z2).space
  few_slots limit nodes cells = record {
    same_limit = limit;
    nodes_within = left.nodes_within;
    cells_within = cells_within;
    nodes_grow = (let one = some_node in omega (arith, nodes, one));
    cells_grow = (let one = some_node in omega (arith, cells, one));
  }

  one_longer : Grows v v2 24 → Grows w w2 24 → LeavesSpace (len s.0.nodes) (storage_of v w z).space (storage_of v2 w2 z2).space
  one_longer nodes cells = few_slots nodes.limit_is (omega (arith, nodes.at_most)) (omega (arith, cells.at_most))

  pub longer_space : Grows v v2 56 → Grows w w2 31 → LeavesSpace (len s.0.nodes) (storage_of v w z).space (storage_of v2 w2 z2).space
  longer_space nodes cells = (let c = cells.at_most in few_slots nodes.limit_is nodes.at_most (omega (arith, c)))

  no_refusal : (o : Option T) (c : Refusal) → ◌≡◌ {A = Reply (List Bool) T} (Value o) (Reply.Refused c) → ⊥
  no_refusal o c e = cc

  done : ◌≡◌ {A = Reply (List Bool) T} Done (Reply.Refused IndexRange) → ⊥
  done e = cc

  -- ---- one entry is removed

  module _ (q : List Bool) (value : Option T) (is_value : value ≡ get s.0.entries q) where
    pub removes_step : s2.0 ≡ record { entries = without_entry s.0.entries q; nodes = nodes_without s.0.nodes s.0.entries q } →
        RemovesValueInStorage s.0 s2.0 q (storage_of v w z) (storage_of v2 w2 z2) → PrunesInStorage s.0 s2.0 (storage_of v w z) (storage_of v2 w2 z2) →
        Grows v v2 24 → Grows w w2 24 → (width : ℕ) → StepByPath width before (Remove q) (Value value) after
    removes_step only removes prunes nodes cells width = record {
      step = (ap Value is_value, only);
      space = one_longer nodes cells;
      index_range = λ e. absurd (no_refusal value IndexRange e);
      storage = (removes, prunes);
    }

    pub takes_step : s2.0 ≡ record { entries = without_entry s.0.entries q; nodes = s.0.nodes } →
        RemovesValueInStorage s.0 s2.0 q (storage_of v w z) (storage_of v2 w2 z2) → z2.0 ≡ z.0 → v2.tiers ≡ v.tiers →
        Grows v v2 24 → length v2.slots ≡ length v.slots → Grows w w2 24 → (width : ℕ) → StepByPath width before (RemoveKeepTree q) (Value value) after
    takes_step only removes children tiers nodes long cells width = record {
      step = (ap Value is_value, only);
      space = one_longer nodes cells;
      index_range = λ e. absurd (no_refusal value IndexRange e);
      storage = (removes, long, children, ap free_counts tiers);
    }

  -- ---- many are

  module _ (preserves : PreservesBelow 0 v v2 w w2) where
    pub bounds_growth_in : BoundsStorageGrowth (storage_of v w z) (storage_of v2 w2 z2)
    bounds_growth_in = record {
      nodes = nodes_bounded v v2 w w2 (some_table is) (some_table left) z z2 preserves.bounds_growth;
      cells = cells_bounded v v2 w w2 (some_table is) (some_table left) z z2 preserves.bounds_growth;
    }

    pub many_space : LeavesSpace (len s.0.nodes) (storage_of v w z).space (storage_of v2 w2 z2).space
    many_space = let space = bounded_space v v2 w w2 count s.0 is s.1 preserves.bounds_growth in record {
      same_limit = preserves.nodes.limit;
      nodes_within = left.nodes_within;
      cells_within = cells_within;
      nodes_grow = space.0;
      cells_grow = space.1;
    }

    pub removes_many : RemovesManyInStorage s.0 s2.0 (storage_of v w z) (storage_of v2 w2 z2)
    removes_many =
        let t = some_table is in
        let u = some_table left in
        record {
          value_blocks = retained_values v v2 w w2 s z t s2 z2 u preserves.blocks;
          child_blocks = retained_children v v2 w w2 s z t s2 z2 u preserves.blocks;
          node_slots = preserves.nodes.longer;
          cell_slots = preserves.cells.longer;
          nodes_still = still _ _ _ _ bounds_growth_in.nodes preserves.nodes.longer;
          cells_still = still _ _ _ _ bounds_growth_in.cells preserves.cells.longer;
          keeps = kept_blocks v v2 w w2 t u z z2 preserves.nodes.made preserves.cells.made;
        }

    pub retains_step : {F : Type 0} (may_return : F → List Bool → T → Bool → F → Type 0) (f : F) (kept : State T) → kept ≡ s2.0 →
        RetainsEntries may_return f (listing s.0.entries) (listing kept.entries) → kept.nodes ≡ needed kept.entries → RetainsInStorage may_return f before after
    retains_step may_return f kept same asked tidy = record {
      kept = subst (λ (x : State T). RetainsEntries may_return f (listing s.0.entries) (listing x.entries)) same asked;
      nodes = subst (λ (x : State T). x.nodes ≡ needed x.entries) same tidy;
      space = many_space;
      storage = removes_many;
    }

    pub part_step : (q : List Bool) → 0 < length q →
        s2.0 ≡ record { entries = without_below s.0.entries q; nodes = nodes_without_below s.0.nodes s.0.entries q } →
        (width : ℕ) → StepByPath width before (RemoveChildren q) Done after
    part_step q some only width = record {
      step = (refl, only);
      space = many_space;
      index_range = λ e. absurd (done e);
      storage = (λ none. absurd (omega (arith, none, some)), λ _. removes_many);
    }

  -- ---- all are

  pub clears_step : s2.0 ≡ record { entries = no_entries; nodes = root_alone } → storage_of v2 w2 z2 ≡ empty_storage (storage_of v w z) →
      (width : ℕ) → StepByPath width before Clear Done after
  clears_step only emptied width =
      let limit = ap (λ (x : Storage). x.space.limit) emptied in
      record {
        step = (refl, only);
        space = few_slots limit (omega (arith, ap (λ (x : Storage). x.space.node_slots) emptied)) (omega (arith, ap (λ (x : Storage). x.space.cell_slots) emptied));
        index_range = λ e. absurd (done e);
        storage = emptied;
      }

  -- ---- one is added

  module _ (q : List Bool) (x : T) where
    -- what the insertion of a missing key says about the arrays
    pub record Inserts (r : Result (Option T) (Refused T)) : Type 0 where
      pub leaves : Leaves q x v v2 w w2 count count2 s is r
      pub absent : contains_key s.0.entries q ≡ false
      pub takes : MatchResult r (λ _. InsertsInStorage s.0 q (storage_of v w z) (storage_of v2 w2 z2))
          (λ refused. RefusesInStorage s.0 q refused.cause (storage_of v w z) (storage_of v2 w2 z2))
      pub range : IfErr r (λ refused. refused.cause ≡ IndexRange → MayPass v w)

    never : {A : Type 0} (r : Result (Option T) (Refused T)) → Inserts r → contains_key s.0.entries q ≡ true → A
    never r h has = absurd (true≢false (sym has ∙ h.absent))

    same_cause : (c d : Refusal) → ◌≡◌ {A = Reply (List Bool) T} (Reply.Refused c) (Reply.Refused d) → c ≡ d
    same_cause c d e = cc

    model_step : (width : ℕ) (r : Result (Option T) (Refused T)) → Inserts r → Step (λ p. p) (λ p. p) width s.0 (Insert q x) (insert_reply r) s2.0
    model_step width (Ok old) h =
        let only = left_only q x v v2 w w2 count count2 s is {E = Refused T} (Ok old) h.leaves s2 in
        let nodes = ap (λ (a : State T). a.nodes) only ∙ ap (λ has. cond has s.0.nodes (with_needed s.0.nodes q)) (sym h.absent) in
        inl (ap Value (before_left q x v v2 w w2 count count2 s is {E = Refused T} (Ok old) h.leaves), λ i. record { entries = (only i).entries; nodes = nodes i })
    model_step width (Err e) h = inr (h.absent, e.cause, refl, left_only q x v v2 w w2 count count2 s is {E = Refused T} (Err e) h.leaves s2)

    leaves_storage : (r : Result (Option T) (Refused T)) → Inserts r →
        LeavesStorage (λ p. p) s.0 (Insert q x) (insert_reply r) s2.0 (storage_of v w z) (storage_of v2 w2 z2)
    leaves_storage (Ok old) h = (never (Ok old) h, λ was new e. h.takes, λ cause e. absurd (no_refusal old cause e))
    leaves_storage (Err refused) h = (
      never (Err refused) h,
      λ was new e. absurd (no_refusal was refused.cause (sym e)),
      λ cause e. subst (λ c. RefusesInStorage s.0 q c (storage_of v w z) (storage_of v2 w2 z2)) (same_cause refused.cause cause e) h.takes,
    )

    range_given : (r : Result (Option T) (Refused T)) → Inserts r → ◌≡◌ {A = Reply (List Bool) T} (insert_reply r) (Reply.Refused IndexRange) →
        MayPassLimit (storage_of v w z).space
    range_given (Ok old) h e = absurd (no_refusal old IndexRange e)
    range_given (Err refused) h e = elim (h.range (same_cause refused.cause IndexRange e)) [
      | inl nodes ↦ inl nodes
      | inr cells ↦ inr (let same = is.one_limit in omega (arith, cells, same))
    ]

    pub inserts_step : (r : Result (Option T) (Refused T)) → Inserts r → Grows v v2 56 → Grows w w2 31 → (width : ℕ) → StepByPath width before (Insert q x) (insert_reply r) after
    inserts_step r h nodes cells width = record {
      step = model_step width r h;
      space = longer_space nodes cells;
      index_range = range_given r h;
      storage = leaves_storage r h;
    }
