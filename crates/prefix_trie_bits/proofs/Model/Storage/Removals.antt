-- A possible storage after a removal: every block stays except the one whose list got shorter, which steps down if a
-- smaller block is free. It shows that a step exists.
use Rattle.prefix_trie_bits.proofs.Prelude.{◌≡◌, ℕ, ◌+◌, ◌*◌, ◌/◌, ◌%◌, ◌<◌, ◌≤◌, ◌==◌, ◌⊎◌, inl, inr, Bool, true, false, not, ◌&&◌, nat_lt, List, [], length, take, None, is_some, refl, sym, ap, ◌∙◌, subst, arith, eqb-true, ltb-true, true≢false, cases_Bool, cases_eq, cases_lt, false_from_ne_true, Contains, get, retain_keys, contains_key, contains_key-keys, keys, get-empty, begins-length, begins-take, begins-trans, begins, listing_cmp, same_string, IsMap, Sizes, no_layout, child_block_sizes, value_block_sizes, child_count, own_entries, free_of, used_of, made_of, SizesStepDown, SizesStepBetween, NodesHaveBlocks, Entries, without_entry, Nodes, has_node, root_alone, home, AreNodes, nodes_without, State, Storage, HaveBlocks, RemovesValueInStorage, PrunesInStorage, RemovesManyInStorage, and-false}
use Rattle.prefix_trie_bits.specs.Model.Entries.{no_entries as new_entries}
use Rattle.prefix_trie_bits.proofs.Model.Storage.KeyCounts.{passing-fewer, passing-same, get-kept, used-kept}
use Rattle.prefix_trie_bits.proofs.Model.Homes.{home-begins, home-length, own_home}
use Rattle.prefix_trie_bits.proofs.Model.Levels.{none_pass, at_level, closed, no_children, no_entries, split_at}
use Rattle.prefix_trie_bits.proofs.Model.Members.{has-root_alone, not-true, and-first, and-second, same_string-is, is-same_string, has-retained, get-without_entry, same_entries, same_members, turned}
use Rattle.prefix_trie_bits.proofs.Model.Pruning.{not-so, pruning_laws}
use Rattle.prefix_trie_bits.proofs.Model.Storage.PreparedInsertions.{goes_up}
use Rattle.prefix_trie_bits.proofs.Model.Storage.ShrunkBlocks.{has_none, rest_free, as_many, keeping_all, keeping_steps, keeping_have, lowered_at_one, lowered_steps, lowered_few, lowered_makes_none, lowered_have}
use Rattle.prefix_trie_bits.proofs.Model.Visits.{fives}

-- ---- one array

-- the blocks of one array that a removal of many entries may leave
pub record LeavesMany (sizes free : List ℕ) (n left : Nodes) (before after : List Bool → ℕ) (old : Sizes) : Type 0 where
  pub new : Sizes
  pub others : List ℕ
  pub steps : SizesStepBetween sizes n before after old new
  pub have : NodesHaveBlocks sizes left after new
  pub as_many : (size : ℕ) → Contains sizes size → used_of new size + free_of sizes others size ≡ used_of old size + free_of sizes free size

-- the blocks of one array that a removal at one node may leave
pub record LeavesOne (sizes free : List ℕ) (n left : Nodes) (before after : List Bool → ℕ) (old : Sizes) (at : List Bool) : Type 0 where
  pub new : Sizes
  pub others : List ℕ
  pub steps : SizesStepDown sizes free n before after old new
  pub have : NodesHaveBlocks sizes left after new
  pub none_made : (size : ℕ) → made_of sizes free (get old at) (get new at) size ≡ 0
  pub as_many : (size : ℕ) → Contains sizes size → used_of new size + free_of sizes others size ≡ used_of old size + free_of sizes free size

module _ (sizes free : List ℕ) (up : goes_up 0 sizes ≡ true) (n left : Nodes) (before after : List Bool → ℕ) (old : Sizes) (have : NodesHaveBlocks sizes n before old)
    (fewer : (p : List Bool) → after p ≤ before p) (stood : (p : List Bool) → has_node left p ≡ true → has_node n p ≡ true)
    (bare : (p : List Bool) → has_node n p ≡ true → has_node left p ≡ false → after p ≡ 0) where
  leaves_many : LeavesMany sizes free n left before after old
  leaves_many = record {
    new = keeping_all after old;
    others = rest_free sizes (λ size. used_of old size + free_of sizes free size) (keeping_all after old);
    steps = keeping_steps sizes up n before after old have (λ p there. fewer p);
    have = keeping_have sizes up n before after old have (λ p there. fewer p) left stood bare;
    as_many = λ size at. as_many sizes (λ x. used_of old x + free_of sizes free x) (keeping_all after old) size (let few = used-kept old (λ p. nat_lt 0 (after p)) size in omega (arith, few)) at;
  }

  leaves_one : (at : List Bool) → ((p : List Bool) → has_node n p ≡ true → same_string p at ≡ false → (after p ≡ before p) ⊎ (after p ≡ 0)) → LeavesOne sizes free n left before after old at
  leaves_one at alone =
      let new = lowered_at_one sizes free n before after old at in
      record {
        new = new;
        others = rest_free sizes (λ size. used_of old size + free_of sizes free size) new;
        steps = lowered_steps sizes up n before after old have (λ p there. fewer p) free at alone;
        have = lowered_have sizes up n before after old have (λ p there. fewer p) free at alone left stood bare;
        none_made = lowered_makes_none sizes up n before after old have (λ p there. fewer p) free at alone;
        as_many = λ size among. as_many sizes (λ x. used_of old x + free_of sizes free x) new size (lowered_few sizes up n before after old have (λ p there. fewer p) free at alone size) among;
      }

-- ---- what is left of a map

-- nodes that all existed before are those that a test keeps
subset : (n left : Nodes) → ((p : List Bool) → has_node left p ≡ true → has_node n p ≡ true) → left ≡ retain_keys n (λ p. has_node left p)
subset n left stood = same_members left (retain_keys n (λ p. has_node left p)) (λ p. within (has_node left p) (has_node n p) (stood p) ∙ sym (has-retained n (λ s. has_node left s) p))
  where
    within : (a b : Bool) → (a ≡ true → b ≡ true) → a ≡ (a && b)
    within true b h = sym (h refl)
    within false b h = refl

module _ {T : Type 0} where
  -- a state after a test kept some of the entries, whose nodes all existed before
  pub record IsLeft (width : ℕ) (s t : State T) : Type 0 where
    pub was : IsMap width s
    pub is : IsMap width t
    pub test : List Bool → Bool
    pub kept : t.entries ≡ retain_keys s.entries test
    pub stood : (p : List Bool) → has_node t.nodes p ≡ true → has_node s.nodes p ≡ true

module _ {T : Type 0} (width : ℕ) (s t : State T) (left : IsLeft width s t) where
  pub entries_fewer : (p : List Bool) → own_entries t.entries p ≤ own_entries s.entries p
  entries_fewer p = subst (λ m. own_entries m p ≤ own_entries s.entries p) (sym left.kept) (passing-fewer (λ k. begins p k && nat_lt (length k) (length p + 5)) left.test s.entries)

  pub children_fewer : (p : List Bool) → child_count t.nodes p ≤ child_count s.nodes p
  children_fewer p = subst (λ n. child_count n p ≤ child_count s.nodes p) (sym (subset s.nodes t.nodes left.stood))
      (passing-fewer (λ k. begins p k && (length k == length p + 5)) (λ k. has_node t.nodes k) s.nodes)

  pub entries_bare : (p : List Bool) → has_node s.nodes p ≡ true → has_node t.nodes p ≡ false → own_entries t.entries p ≡ 0
  entries_bare p there missing = no_entries width t.entries t.nodes left.is.are_nodes p (left.was.are_nodes.depths p there) missing

  pub children_bare : (p : List Bool) → has_node s.nodes p ≡ true → has_node t.nodes p ≡ false → child_count t.nodes p ≡ 0
  children_bare p there missing = no_children width t.entries t.nodes left.is.are_nodes p (left.was.are_nodes.depths p there) missing

  -- ---- many entries

  module _ (before : Storage) (have : HaveBlocks s before.layout) where
    children_many : LeavesMany child_block_sizes before.layout.free_child_blocks s.nodes t.nodes (child_count s.nodes) (child_count t.nodes) before.layout.child_blocks
    children_many = leaves_many child_block_sizes before.layout.free_child_blocks refl s.nodes t.nodes (child_count s.nodes) (child_count t.nodes) before.layout.child_blocks have.child_blocks
        children_fewer left.stood children_bare

    values_many : LeavesMany value_block_sizes before.layout.free_value_blocks s.nodes t.nodes (own_entries s.entries) (own_entries t.entries) before.layout.value_blocks
    values_many = leaves_many value_block_sizes before.layout.free_value_blocks refl s.nodes t.nodes (own_entries s.entries) (own_entries t.entries) before.layout.value_blocks have.value_blocks
        entries_fewer left.stood entries_bare

    pub many_left : (after : Storage) × (after.space ≡ before.space) × RemovesManyInStorage s t before after × HaveBlocks t after.layout
    many_left = (
      record {
        space = before.space;
        layout = record {
          child_blocks = children_many.new;
          value_blocks = values_many.new;
          free_child_blocks = children_many.others;
          free_value_blocks = values_many.others;
        };
      },
      refl,
      record {
        value_blocks = values_many.steps;
        child_blocks = children_many.steps;
        node_slots = omega arith;
        cell_slots = omega arith;
        nodes_still = λ _. refl;
        cells_still = λ _. refl;
        keeps = (λ size at. (let e = children_many.as_many size at in omega (arith, e)), λ size at. (let e = values_many.as_many size at in omega (arith, e)));
      },
      record { child_blocks = children_many.have; value_blocks = values_many.have },
    )

-- ---- all entries

-- a state without entries and with the root alone needs no blocks
pub bare_have : {T : Type 0} (t : State T) → ((k : List Bool) → contains_key t.entries k ≡ true → ⊥) → ((k : List Bool) → has_node t.nodes k ≡ true → k ≡ []) → HaveBlocks t no_layout
bare_have t none root = record {
  child_blocks = record {
    at_nodes = λ p there. has_none child_block_sizes (child_count t.nodes p) _ (none_pass (λ k. begins p k && (length k == length p + 5)) (keys t.nodes)
        (λ k listed. ap (λ b. begins p k && b) (short k p (root k (contains_key-keys t.nodes k ∙ listed))) ∙ and-false (begins p k))) (get-empty listing_cmp p);
    elsewhere = λ p missing. get-empty listing_cmp p;
  };
  value_blocks = record {
    at_nodes = λ p there. has_none value_block_sizes (own_entries t.entries p) _ (none_pass (λ k. begins p k && nat_lt (length k) (length p + 5)) (keys t.entries)
        (λ k listed. absurd (none k (contains_key-keys t.entries k ∙ listed)))) (get-empty listing_cmp p);
    elsewhere = λ p missing. get-empty listing_cmp p;
  };
}
  where
    short : (k p : List Bool) → k ≡ [] → (length k == length p + 5) ≡ false
    short k p e = false_from_ne_true (length k == length p + 5) (λ same. let h = eqb-true (length k) (length p + 5) same in let l = ap (λ s. length s) e in omega (arith, h, l))

-- a new map needs no blocks
pub new_have : (T : Type 0) → HaveBlocks (record { entries = new_entries {T = T}; nodes = root_alone }) no_layout
new_have T = bare_have (record { entries = new_entries; nodes = root_alone }) (λ k has. true≢false (sym has ∙ ap is_some (get-empty listing_cmp k)))
    (λ k there. same_string-is k [] (sym (has-root_alone k) ∙ there))

-- ---- one entry

-- a node on the search path of q is the one of its level
on_path : (p q : List Bool) → length p % 5 ≡ 0 → begins p q ≡ true → at_level q (length p / 5) ≡ p
on_path p q depth b = ap (λ n. take n q) (fives (length p) depth) ∙ begins-take p q b

module _ {T : Type 0} where
  pub removed_is : (m : Entries T) (q : List Bool) → without_entry m q ≡ retain_keys m (λ k. not (same_string k q))
  removed_is m q = same_entries (without_entry m q) (retain_keys m (λ k. not (same_string k q)))
      (λ k. get-without_entry m q k ∙ sym (turned (same_string k q) (get m k) None) ∙ sym (get-kept m (λ s. not (same_string s q)) k))

  -- removing one entry changes the number of own entries of its own node alone
  entries_alone : (m : Entries T) (q p : List Bool) → length p % 5 ≡ 0 → same_string p (home q) ≡ false → own_entries (without_entry m q) p ≡ own_entries m p
  entries_alone m q p depth other = ap (λ x. own_entries x p) (removed_is m q)
      ∙ passing-same (λ k. begins p k && nat_lt (length k) (length p + 5)) (λ k. not (same_string k q)) m
      (λ k has own. not-true (same_string k q) (not-so (same_string k q) (λ same.
      let is = same_string-is k q same in
      let b = subst (λ x. begins p x ≡ true) is (and-first (begins p k) (nat_lt (length k) (length p + 5)) own) in
      let less = subst (λ x. length x < length p + 5) is (ltb-true (length k) (length p + 5) (and-second (begins p k) (nat_lt (length k) (length p + 5)) own)) in
      true≢false (sym (is-same_string p (home q) (own_home p q depth b less)) ∙ other))))

  -- when nodes on the search path of q are removed, only the last one that stays loses a child
  last_left : (width : ℕ) (m : Entries T) (n : Nodes) (q : List Bool) → AreNodes width m n → (at : List Bool)
      × ((i : ℕ) → i + 1 ≤ length q / 5 → has_node n (at_level q i) ≡ true → has_node n (at_level q (i + 1)) ≡ false → at_level q i ≡ at)
  last_left width m n q are = elim (split_at (λ i. has_node n (at_level q i)) (length q / 5) (closed width m n are q) are.rooted) [
    | inl all ↦ ([], λ i h there missing. absurd (true≢false (sym (all (i + 1) h) ∙ missing)))
    | inr some ↦ (
      at_level q some.0,
      λ i h there missing. elim (cases_lt some.0 i) as (λ _. at_level q i ≡ at_level q some.0) [
        | inl past ↦ absurd (true≢false (sym there ∙ some.3 i past (omega (arith, h))))
        | inr within ↦ elim (cases_eq i some.0) as (λ _. at_level q i ≡ at_level q some.0) [
          | inl e ↦ ap (at_level q) e
          | inr other ↦ absurd (true≢false (sym (some.2 (i + 1) (let h : i + 1 ≤ some.0 = grind (arith, within, other) in h)) ∙ missing))
        ]
      ],
    )
  ]

module _ {T : Type 0} (width : ℕ) (s t : State T) (left : IsLeft width s t) (q : List Bool) where
  -- a node on the path that loses a child is the last one that stays
  lost_child : (at : List Bool)
      → ((i : ℕ) → i + 1 ≤ length q / 5 → has_node t.nodes (at_level q i) ≡ true → has_node t.nodes (at_level q (i + 1)) ≡ false → at_level q i ≡ at)
      → (p c : List Bool) → length p % 5 ≡ 0 → has_node t.nodes p ≡ true → has_node t.nodes c ≡ false → begins p c ≡ true → length c ≡ length p + 5 →
      begins c (home q) ≡ true → p ≡ at
  lost_child at last p c depth there missing b long on =
      let in_q = begins-trans c (home q) q on (home-begins q) in
      let p_is = on_path p q depth (begins-trans p c q b in_q) in
      let c_is : at_level q (length p / 5 + 1) ≡ c = ap (λ n. take n q) (let e : 5 * (length p / 5 + 1) ≡ length p + 5 = omega (arith, depth) in e ∙ sym long) ∙ begins-take c q in_q in
      let inside : length p / 5 + 1 ≤ length q / 5 = (let short = begins-length c (home q) on in let h = home-length q in omega (arith, short, h, long)) in
      sym p_is ∙ last (length p / 5) inside (ap (has_node t.nodes) p_is ∙ there) (ap (has_node t.nodes) c_is ∙ missing)

  children_alone : t.nodes ≡ nodes_without s.nodes s.entries q → (at : List Bool)
      → ((i : ℕ) → i + 1 ≤ length q / 5 → has_node t.nodes (at_level q i) ≡ true → has_node t.nodes (at_level q (i + 1)) ≡ false → at_level q i ≡ at)
      → (p : List Bool) → has_node s.nodes p ≡ true → same_string p at ≡ false → (child_count t.nodes p ≡ child_count s.nodes p) ⊎ (child_count t.nodes p ≡ 0)
  children_alone nodes at last p stood other = elim (cases_Bool (has_node t.nodes p)) as (λ _. (child_count t.nodes p ≡ child_count s.nodes p) ⊎ (child_count t.nodes p ≡ 0)) [
    | inr missing ↦ inr (children_bare width s t left p stood missing)
    | inl there ↦ inl (ap (λ n. child_count n p) (subset s.nodes t.nodes left.stood)
        ∙ passing-same (λ k. begins p k && (length k == length p + 5)) (λ k. has_node t.nodes k) s.nodes
        (λ c had child. elim (cases_Bool (has_node t.nodes c)) as (λ _. has_node t.nodes c ≡ true) [
          | inl stays ↦ stays
          | inr gone ↦
              let out = ((pruning_laws T).in_words s.nodes (without_entry s.entries q) q c had).0 (sym (ap (λ n. has_node n c) nodes) ∙ gone) in
              let depth = left.was.are_nodes.depths p stood in
              absurd (true≢false (sym (is-same_string p at (lost_child at last p c depth there gone (and-first (begins p c) (length c == length p + 5) child)
              (eqb-true (length c) (length p + 5) (and-second (begins p c) (length c == length p + 5) child)) out.on_path)) ∙ other))
        ]))
  ]

  module _ (before : Storage) (have : HaveBlocks s before.layout) (entries : t.entries ≡ without_entry s.entries q) where
    values_one : LeavesOne value_block_sizes before.layout.free_value_blocks s.nodes t.nodes (own_entries s.entries) (own_entries t.entries) before.layout.value_blocks (home q)
    values_one = leaves_one value_block_sizes before.layout.free_value_blocks refl s.nodes t.nodes (own_entries s.entries) (own_entries t.entries) before.layout.value_blocks have.value_blocks
        (entries_fewer width s t left) left.stood (entries_bare width s t left) (home q)
        (λ p there other. inl (ap (λ m. own_entries m p) entries ∙ entries_alone s.entries q p (left.was.are_nodes.depths p there) other))

    children_one : t.nodes ≡ nodes_without s.nodes s.entries q → (at : List Bool)
        × LeavesOne child_block_sizes before.layout.free_child_blocks s.nodes t.nodes (child_count s.nodes) (child_count t.nodes) before.layout.child_blocks at
    children_one nodes =
        let last = last_left width t.entries t.nodes q left.is.are_nodes in (
          last.0,
          leaves_one child_block_sizes before.layout.free_child_blocks refl s.nodes t.nodes (child_count s.nodes) (child_count t.nodes) before.layout.child_blocks have.child_blocks
              (children_fewer width s t left) left.stood (children_bare width s t left) last.0 (children_alone nodes last.0 last.1),
        )

    -- a value is removed, and all nodes stay
    pub value_left : t.nodes ≡ s.nodes → (after : Storage) × (after.space ≡ before.space) × RemovesValueInStorage s t q before after
        × (after.layout.child_blocks ≡ before.layout.child_blocks) × (after.layout.free_child_blocks ≡ before.layout.free_child_blocks) × HaveBlocks t after.layout
    value_left same = let values = values_one in (
      record before { layout = record before.layout { value_blocks = values.new; free_value_blocks = values.others } },
      refl,
      record { value_blocks = values.steps; cells_longer = inl refl; value_blocks_made = λ size at. (let e = values.as_many size at in let n = values.none_made size in omega (arith, e, n)) },
      refl,
      refl,
      record { child_blocks = subst (λ n. NodesHaveBlocks child_block_sizes n (child_count n) before.layout.child_blocks) (sym same) have.child_blocks; value_blocks = values.have },
    )

    -- a value is removed, and nodes of its search path with it
    pub one_left : t.nodes ≡ nodes_without s.nodes s.entries q → (after : Storage) × (after.space ≡ before.space) × RemovesValueInStorage s t q before after
        × PrunesInStorage s t before after × HaveBlocks t after.layout
    one_left nodes = let values = values_one in let children = (children_one nodes).1 in (
      record { space = before.space; layout = record { child_blocks = children.new; value_blocks = values.new; free_child_blocks = children.others; free_value_blocks = values.others } },
      refl,
      record { value_blocks = values.steps; cells_longer = inl refl; value_blocks_made = λ size at. (let e = values.as_many size at in let n = values.none_made size in omega (arith, e, n)) },
      record {
        child_blocks = children.steps;
        nodes_longer = ((children_one nodes).0, inl refl, λ size at. (let e = children.as_many size at in (omega (arith, e), omega (arith, e))));
      },
      record { child_blocks = children.have; value_blocks = values.have },
    )
