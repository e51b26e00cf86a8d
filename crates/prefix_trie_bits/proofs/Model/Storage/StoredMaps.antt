-- A step from a map with a correct storage leads to a map with a correct storage: for `total_laws`.
use Rattle.prefix_trie_bits.proofs.Prelude.{◌≡◌, ℕ, ◌<◌, ◌≤◌, inl, inr, Bool, true, false, cond, not, ◌&&◌, nat_le, List, [], length, Option, None, refl, sym, ap, ◌∙◌, subst, arith, true≢false, cases_Bool, cases_eq, nil_from_length, get, contains_key, begins, same_string, Sizes, no_layout, StepsDown, SizesStepDown, StepsBetween, SizesStepBetween, HasBlock, NodesHaveBlocks, child_block_sizes, value_block_sizes, child_count, own_entries, Entries, with_entry, without_entry, without_below, part_at_least, no_entries, Nodes, has_node, root_alone, with_needed, pruned, nodes_not_below, nodes_without_below, State, Call, Insert, Remove, RemoveKeepTree, RemoveChildren, RetainAtLeast, Clear, CallFits, Reply, Step, Storage, empty_storage, HaveBlocks, RemovesManyInStorage, StepInStorage, IsMap, may_change, IsStoredMap}
use Rattle.prefix_trie_bits.proofs.Model.Storage.Removals.{IsLeft, removed_is, bare_have, new_have, entries_bare, children_bare}
use Rattle.prefix_trie_bits.proofs.Model.Members.{has-retained}
use Rattle.prefix_trie_bits.proofs.Model.Pruning.{begins-nil, needed_fewer, near_is, pruning_laws, remove_law, remove_children_law}
use Rattle.prefix_trie_bits.proofs.Model.Storage.PreparedInsertions.{goes_up}
use Rattle.prefix_trie_bits.proofs.Model.Storage.ShrunkBlocks.{has_none, has_some, has_cases, smallest_of}
use Rattle.prefix_trie_bits.proofs.Model.Steps.{part_fewer, stays_map}
use Rattle.prefix_trie_bits.proofs.Model.Storage.StorageChanges.{unchanged}
use Rattle.prefix_trie_bits.proofs.Model.Storage.InsertedBlocks.{supplied, stored_have}

-- ---- a list that lost items has its block

step_has : (sizes free : List ℕ) → goes_up 0 sizes ≡ true → (before after : ℕ) (old new : Option ℕ) → StepsDown sizes free before after old new → HasBlock sizes before old → HasBlock sizes after new
step_has sizes free up before after old new step has = elim (cases_eq after 0) as (λ _. HasBlock sizes after new) [
  | inl none ↦ has_none sizes after new none (step.none none)
  | inr other ↦ elim (cases_eq after before) as (λ _. HasBlock sizes after new) [
    | inl same ↦ subst (λ o. HasBlock sizes after o) (sym (step.same same)) (subst (λ n. HasBlock sizes n old) (sym same) has)
    | inr fewer ↦
        let some : 0 < after = grind (arith, other) in
        let less : after < before = (let h = step.fewer in grind (arith, h, fewer)) in
        elim (has_cases sizes before old has) as (λ _. HasBlock sizes after new) [
          | inl none ↦ absurd (let e = none.0 in omega (arith, e, less))
          | inr holds ↦
              let fits = holds.fits in
              let small = smallest_of 0 sizes up after holds.size holds.among (omega (arith, fits, less)) in
              elim (step.one_of less some) as (λ _. HasBlock sizes after new) [
                | inl stays ↦ has_some sizes after new holds.size some (stays ∙ holds.is) holds.among (omega (arith, fits, less))
                | inr steps ↦ has_some sizes after new small.size some (steps ∙ small.found) small.among small.holds
              ]
        ]
  ]
]

-- so has each node that is left
steps_have : (sizes free : List ℕ) → goes_up 0 sizes ≡ true → (n left : Nodes) (before after : List Bool → ℕ) (old new : Sizes) → NodesHaveBlocks sizes n before old
    → SizesStepDown sizes free n before after old new → ((p : List Bool) → has_node left p ≡ true → has_node n p ≡ true)
    → ((p : List Bool) → has_node n p ≡ true → has_node left p ≡ false → after p ≡ 0) → NodesHaveBlocks sizes left after new
steps_have sizes free up n left before after old new have steps stood bare = record {
  at_nodes = λ p there. step_has sizes free up (before p) (after p) (get old p) (get new p) (steps.at_nodes p (stood p there)) (have.at_nodes p (stood p there));
  elsewhere = λ p missing. elim (cases_Bool (has_node n p)) as (λ _. get new p ≡ None) [
    | inl there ↦ (steps.at_nodes p there).none (bare p there missing)
    | inr none ↦ steps.elsewhere p none
  ];
}

-- the same if the items were lost in several steps
between_has : (sizes : List ℕ) → goes_up 0 sizes ≡ true → (before after : ℕ) (old new : Option ℕ) → StepsBetween sizes before after old new → HasBlock sizes before old → HasBlock sizes after new
between_has sizes up before after old new step has = elim (cases_eq after 0) as (λ _. HasBlock sizes after new) [
  | inl none ↦ has_none sizes after new none (step.none none)
  | inr other ↦ elim (cases_eq after before) as (λ _. HasBlock sizes after new) [
    | inl same ↦ subst (λ o. HasBlock sizes after o) (sym (step.same same)) (subst (λ n. HasBlock sizes n old) (sym same) has)
    | inr fewer ↦
        let some : 0 < after = grind (arith, other) in
        let less : after < before = (let h = step.fewer in grind (arith, h, fewer)) in
        elim (has_cases sizes before old has) as (λ _. HasBlock sizes after new) [
          | inl none ↦ absurd (let e = none.0 in omega (arith, e, less))
          | inr holds ↦
              let fits = holds.fits in
              let small = smallest_of 0 sizes up after holds.size holds.among (omega (arith, fits, less)) in
              let (n, o, is, was, shorter, least, among) = step.between less some in
              let enough = least small.size small.found in
              let inside = small.holds in
              has_some sizes after new n some is among (omega (arith, enough, inside))
        ]
  ]
]

all_between : (sizes : List ℕ) → goes_up 0 sizes ≡ true → (n left : Nodes) (before after : List Bool → ℕ) (old new : Sizes) → NodesHaveBlocks sizes n before old
    → SizesStepBetween sizes n before after old new → ((p : List Bool) → has_node left p ≡ true → has_node n p ≡ true)
    → ((p : List Bool) → has_node n p ≡ true → has_node left p ≡ false → after p ≡ 0) → NodesHaveBlocks sizes left after new
all_between sizes up n left before after old new have steps stood bare = record {
  at_nodes = λ p there. between_has sizes up (before p) (after p) (get old p) (get new p) (steps.at_nodes p (stood p there)) (have.at_nodes p (stood p there));
  elsewhere = λ p missing. elim (cases_Bool (has_node n p)) as (λ _. get new p ≡ None) [
    | inl there ↦ (steps.at_nodes p there).none (bare p there missing)
    | inr none ↦ steps.elsewhere p none
  ];
}

module _ {T : Type 0} where
  -- at the root, all entries and all other nodes are removed
  all_below : (m : Entries T) (n : Nodes) (k : List Bool) → has_node n [] ≡ true → has_node (nodes_without_below n m []) k ≡ true → k ≡ []
  all_below m n k rooted there = near_is n [] k ((pruning_laws T).none_added (nodes_not_below n []) (without_below m []) [] k
      (sym (ap (λ b. has_node (cond b (pruned (nodes_not_below n []) (without_below m []) []) n) k) rooted) ∙ there)) (begins-nil k)

  no_keys : (m : Entries T) (k : List Bool) → contains_key (without_below m []) k ≡ true → ⊥
  no_keys m k has = true≢false (sym has ∙ has-retained m (λ x. not (begins [] x)) k ∙ ap (λ b. not b && contains_key m k) (begins-nil k))

  -- so what is left needs no blocks
  pub emptied_have : (s : State T) (q : List Bool) → has_node s.nodes [] ≡ true → q ≡ []
      → HaveBlocks (record { entries = without_below s.entries q; nodes = nodes_without_below s.nodes s.entries q }) no_layout
  emptied_have s q rooted root =
      bare_have _ (λ k has. no_keys s.entries k (ap (λ p. contains_key (without_below s.entries p) k) (sym root) ∙ has))
      (λ k there. all_below s.entries s.nodes k rooted (ap (λ p. has_node (nodes_without_below s.nodes s.entries p) k) (sym root) ∙ there))

  -- an equal state with the same layout has its blocks
  have_same : (s t : State T) (before after : Storage) → t ≡ s → after.layout.child_blocks ≡ before.layout.child_blocks → after.layout.value_blocks ≡ before.layout.value_blocks →
      HaveBlocks s before.layout → HaveBlocks t after.layout
  have_same s t before after same children values have = subst (λ x. HaveBlocks x after.layout) (sym same) (record {
    child_blocks = subst (NodesHaveBlocks child_block_sizes s.nodes (child_count s.nodes)) (sym children) have.child_blocks;
    value_blocks = subst (NodesHaveBlocks value_block_sizes s.nodes (own_entries s.entries)) (sym values) have.value_blocks;
  })

module _ {P T : Type 0} (path : P → List Bool) (back : List Bool → P) (width : ℕ) (s : State T × Storage) (whole : IsStoredMap width s) where
  abbrev Stays : Call P T → Type 0
  Stays call = (reply : Reply P T) (t : State T × Storage) → CallFits (λ q. length (path q) ≤ width) call → StepInStorage path back width s call reply t → HaveBlocks t.0 t.1.layout

  as_it_was : (call : Call P T) → may_change call ≡ false → Stays call
  as_it_was call still reply t fits h = subst (λ x. HaveBlocks x.0 x.1.layout) (sym (unchanged path back width s call reply t still h)) whole.have_blocks

  inserted : (q : P) (v : T) → Stays (Insert q v)
  inserted q v reply t fits h = elim h.step as (λ _. HaveBlocks t.0 t.1.layout) [
    | inr (new, cause, r, e) ↦ (let left = h.storage.2 cause r in have_same s.0 t.0 s.1 t.1 e left.child_blocks left.value_blocks whole.have_blocks)
    | inl (r, e) ↦ elim (cases_Bool (contains_key s.0.entries (path q))) as (λ _. HaveBlocks t.0 t.1.layout) [
      | inl stored ↦
          let same = h.storage.0 stored in
          let to : t.0 ≡ record { entries = with_entry s.0.entries (path q) v; nodes = s.0.nodes } =
          e ∙ (λ i. record { entries = with_entry s.0.entries (path q) v; nodes = cond (stored i) s.0.nodes (with_needed s.0.nodes (path q)) }) in
          have_same _ t.0 s.1 t.1 to (ap (λ x. x.layout.child_blocks) same) (ap (λ x. x.layout.value_blocks) same)
          (stored_have width s.0 (path q) v s.1 whole.is_map stored whole.have_blocks)
      | inr new ↦
          let set : State T = record { entries = with_entry s.0.entries (path q) v; nodes = with_needed s.0.nodes (path q) } in
          let to : t.0 ≡ set = e ∙ (λ i. record { entries = with_entry s.0.entries (path q) v; nodes = cond (new i) s.0.nodes (with_needed s.0.nodes (path q)) }) in
          let is = stays_map path back width s.0 (Insert q v) reply t.0 fits h.step whole.is_map in
          have_same set t.0 t.1 t.1 to refl refl
          (supplied width s.0 (path q) v whole.is_map s.1 t.1 new (subst (IsMap width) to is) whole.have_blocks (h.storage.1 _ new r))
    ]
  ]

  -- the state after one entry is removed is what is left of the map
  pub one_gone : (q : P) (t : State T) → IsMap width t → t.entries ≡ without_entry s.0.entries (path q)
      → ((p : List Bool) → has_node t.nodes p ≡ true → has_node s.0.nodes p ≡ true) → IsLeft width s.0 t
  one_gone q t is entries stood = record {
    was = whole.is_map;
    is = is;
    test = λ k. not (same_string k (path q));
    kept = entries ∙ removed_is s.0.entries (path q);
    stood = stood;
  }

  -- so is the state after `RetainAtLeast`
  pub longer_left : (n : ℕ) (reply : Reply P T) (t : State T) → Step path back width s.0 (RetainAtLeast n) reply t → IsLeft width s.0 t
  longer_left n reply t h = record {
    was = whole.is_map;
    is = stays_map path back width s.0 (RetainAtLeast n) reply t tt h whole.is_map;
    test = λ k. nat_le n (length k);
    kept = ap (λ x. x.entries) h.1;
    stood = λ p there. whole.is_map.are_nodes.hold_needed p
        (needed_fewer s.0.entries (part_at_least s.0.entries n) (part_fewer s.0.entries n) p (sym (ap (λ x. has_node x.nodes p) h.1) ∙ there));
  }

  -- so is the state after `RemoveChildren`
  pub outside_left : (q : P) (reply : Reply P T) (t : State T) → length (path q) ≤ width → Step path back width s.0 (RemoveChildren q) reply t → IsLeft width s.0 t
  outside_left q reply t fits h = record {
    was = whole.is_map;
    is = stays_map path back width s.0 (RemoveChildren q) reply t fits h whole.is_map;
    test = λ k. not (begins (path q) k);
    kept = ap (λ x. x.entries) h.1;
    stood = λ p there. (remove_children_law width s.0.entries s.0.nodes (path q) whole.is_map.are_nodes).none_new p (sym (ap (λ x. has_node x.nodes p) h.1) ∙ there);
  }

  -- after many entries are removed, each list has its block
  many_gone : (t : State T × Storage) → IsLeft width s.0 t.0 → RemovesManyInStorage s.0 t.0 s.1 t.1 → HaveBlocks t.0 t.1.layout
  many_gone t left storage = record {
    child_blocks = all_between child_block_sizes refl s.0.nodes t.0.nodes _ _ s.1.layout.child_blocks t.1.layout.child_blocks whole.have_blocks.child_blocks
        storage.child_blocks left.stood (children_bare width s.0 t.0 left);
    value_blocks = all_between value_block_sizes refl s.0.nodes t.0.nodes _ _ s.1.layout.value_blocks t.1.layout.value_blocks whole.have_blocks.value_blocks
        storage.value_blocks left.stood (entries_bare width s.0 t.0 left);
  }

  retained : (n : ℕ) → Stays (RetainAtLeast n)
  retained n reply t fits h = many_gone t (longer_left n reply t.0 h.step) h.storage

  removed_below : (q : P) → Stays (RemoveChildren q)
  removed_below q reply t fits h = elim (cases_eq (length (path q)) 0) as (λ _. HaveBlocks t.0 t.1.layout) [
    | inl none ↦
        let gone = h.storage.0 none in
        have_same _ t.0 (empty_storage s.1) t.1 h.step.1 (ap (λ x. x.layout.child_blocks) gone) (ap (λ x. x.layout.value_blocks) gone)
        (emptied_have s.0 (path q) whole.is_map.are_nodes.rooted (nil_from_length (path q) none))
    | inr other ↦ many_gone t (outside_left q reply t.0 fits h.step) (h.storage.1 (grind (arith, other)))
  ]

  removed : (q : P) → Stays (Remove q)
  removed q reply t fits h =
      let left = one_gone q t.0 (stays_map path back width s.0 (Remove q) reply t.0 fits h.step whole.is_map) (ap (λ x. x.entries) h.step.1)
      (λ p there. (remove_law width s.0.entries s.0.nodes (path q) whole.is_map.are_nodes).none_new p (sym (ap (λ x. has_node x.nodes p) h.step.1) ∙ there)) in
      record {
        child_blocks = steps_have child_block_sizes _ refl s.0.nodes t.0.nodes _ _ s.1.layout.child_blocks t.1.layout.child_blocks whole.have_blocks.child_blocks
            h.storage.1.child_blocks left.stood (children_bare width s.0 t.0 left);
        value_blocks = steps_have value_block_sizes _ refl s.0.nodes t.0.nodes _ _ s.1.layout.value_blocks t.1.layout.value_blocks whole.have_blocks.value_blocks
            h.storage.0.value_blocks left.stood (entries_bare width s.0 t.0 left);
      }

  removed_keeping : (q : P) → Stays (RemoveKeepTree q)
  removed_keeping q reply t fits h =
      let nodes : t.0.nodes ≡ s.0.nodes = ap (λ x. x.nodes) h.step.1 in
      let left = one_gone q t.0 (stays_map path back width s.0 (RemoveKeepTree q) reply t.0 fits h.step whole.is_map) (ap (λ x. x.entries) h.step.1)
      (λ p there. sym (ap (λ n. has_node n p) nodes) ∙ there) in
      record {
        child_blocks = subst (NodesHaveBlocks child_block_sizes t.0.nodes (child_count t.0.nodes)) (sym h.storage.2)
            (subst (λ n. NodesHaveBlocks child_block_sizes n (child_count n) s.1.layout.child_blocks) (sym nodes) whole.have_blocks.child_blocks);
        value_blocks = steps_have value_block_sizes _ refl s.0.nodes t.0.nodes _ _ s.1.layout.value_blocks t.1.layout.value_blocks whole.have_blocks.value_blocks
            h.storage.0.value_blocks left.stood (entries_bare width s.0 t.0 left);
      }

  cleared_all : Stays Clear
  cleared_all reply t fits h = have_same (record { entries = no_entries; nodes = root_alone }) t.0 (empty_storage s.1) t.1 h.step.1 (ap (λ x. x.layout.child_blocks) h.storage) (ap (λ x. x.layout.value_blocks) h.storage)
      (new_have T)

  blocks : (call : Call P T) → Stays call
  blocks (Insert q v) = inserted q v
  blocks (Remove q) = removed q
  blocks (RemoveKeepTree q) = removed_keeping q
  blocks (RemoveChildren q) = removed_below q
  blocks (RetainAtLeast n) = retained n
  blocks Clear = cleared_all
  blocks call = as_it_was call refl

  pub stays_stored : (call : Call P T) (reply : Reply P T) (t : State T × Storage) → CallFits (λ q. length (path q) ≤ width) call
      → StepInStorage path back width s call reply t → IsStoredMap width t
  stays_stored call reply t fits h = record {
    is_map = stays_map path back width s.0 call reply t.0 fits h.step whole.is_map;
    have_blocks = blocks call reply t fits h;
    root_fits = subst (λ limit. 0 < limit) (sym h.space.same_limit) whole.root_fits;
    nodes_within = h.space.nodes_within;
    cells_within = h.space.cells_within;
  }
