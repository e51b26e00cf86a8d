-- Proves the worked facts on the blocks that an insertion needs, and on those that are missing.
use Rattle.prefix_trie_facts.proofs.Prelude.{◌≡◌, ◌⊎◌, ℕ, ◌+◌, ◌-◌, ◌<◌, ◌≤◌, ◌==◌, ◌&&◌, Bool, not, cond, List, [], ◌∷◌, map, take, filter, filter_map, length, nat_lt, is_some, Option, None, refl, sym, ap, ap₂, ◌∙◌, inl, inr, arith, eqb-true, lit<, lit≤, cases_Bool, option_to_list, entries, entries-from_sorted, get-entries, find, is_sorted, digits, number, begins, listing_cmp, same_string, Entries, Nodes, is_node_depth, nodes_above, home, Sizes, Layout, value_block_sizes, child_block_sizes, free_of, no_layout, own_entries, child_count, block_needed, gains_child, child_block_needed, value_block_needed, child_blocks_needed, value_blocks_needed, missing_of, slots_of_missing, missing_node_slots, missing_cell_slots, MissingFitsLimit, Space, State, path_at, full_pairs, none_free, space_of, Blocks, by_path, sizes_at, layout_at, with_one, ones_free, lacking, far_children, far_layout, three_slots, InsertionsHold}
use lib.Dec.{T as IsT}
use Rattle.prefix_trie_facts.proofs.Plain.{Shows, Marks}
use Rattle.prefix_trie_bits.proofs.Model.SortedListings.{entries-empty}
use Rattle.prefix_trie_facts.proofs.Replies.{leads}
use Rattle.prefix_trie_facts.proofs.Examples.{said, holders_in, parents_in, own_in, children_in}

abbrev pub Sized : Type 0
Sized = List (List Bool × ℕ)

-- the same definitions on plain lists, where they compute
abbrev pub gains_in : Marks → List Bool → List Bool → Bool
gains_in ns q p =
    (is_node_depth p && begins p q) && (nat_lt (length p) (length (home q)) && not (is_some (find listing_cmp (take (length p + 5) q) ns)))

abbrev pub child_needed_in : Marks → Sized → List Bool → List Bool → Option ℕ
child_needed_in ns bs q p = cond (gains_in ns q p) (block_needed child_block_sizes (find listing_cmp p bs) (children_in p ns)) None

abbrev pub value_needed_in : Sized → Sized → List Bool → List Bool → Option ℕ
value_needed_in es bs q p = cond (same_string p (home q)) (block_needed value_block_sizes (find listing_cmp p bs) (own_in p es)) None

abbrev pub missing_nodes_in : Marks → Sized → List ℕ → List Bool → ℕ
missing_nodes_in ns bs free q = slots_of_missing child_block_sizes free (filter_map (child_needed_in ns bs q) (nodes_above q))

abbrev pub missing_cells_in : Sized → Sized → List ℕ → List Bool → ℕ
missing_cells_in es bs free q = slots_of_missing value_block_sizes free (option_to_list (value_needed_in es bs q (home q)))

gains-is : (n : Nodes) (q p : List Bool) → gains_child n q p ≡ gains_in (entries n) q p
gains-is n q p = ap (λ o. (is_node_depth p && begins p q) && (nat_lt (length p) (length (home q)) && not (is_some o))) (get-entries n (take (length p + 5) q))

child-is : (n : Nodes) (blocks : Sizes) (q p : List Bool) → child_block_needed n blocks q p ≡ child_needed_in (entries n) (entries blocks) q p
child-is n blocks q p = ap₂ (λ g o. cond g (block_needed child_block_sizes o (child_count n p)) None) (gains-is n q p) (get-entries blocks p)

pub value-is : (m : Entries ℕ) (blocks : Sizes) (q p : List Bool) → value_block_needed m blocks q p ≡ value_needed_in (entries m) (entries blocks) q p
value-is m blocks q p = ap (λ o. cond (same_string p (home q)) (block_needed value_block_sizes o (own_entries m p)) None) (get-entries blocks p)

missing_nodes-is : (n : Nodes) (layout : Layout) (q : List Bool) → missing_node_slots n layout q ≡ missing_nodes_in (entries n) (entries layout.child_blocks) layout.free_child_blocks q
missing_nodes-is n layout q = λ i. slots_of_missing child_block_sizes layout.free_child_blocks (filter_map (λ p. child-is n layout.child_blocks q p i) (nodes_above q))

missing_cells-is : (m : Entries ℕ) (layout : Layout) (q : List Bool) → missing_cell_slots m layout q ≡ missing_cells_in (entries m) (entries layout.value_blocks) layout.free_value_blocks q
missing_cells-is m layout q = λ i. slots_of_missing value_block_sizes layout.free_value_blocks (option_to_list (value-is m layout.value_blocks q (home q) i))

-- they agree for each string of a list
gains-all : (n : Nodes) (q : List Bool) (ps : List (ℕ × ℕ)) → map (λ p. gains_child n q (path_at 32 p)) ps ≡ map (λ p. gains_in (entries n) q (path_at 32 p)) ps
gains-all n q ps = λ i. map (λ p. gains-is n q (path_at 32 p) i) ps

children-all : (n : Nodes) (blocks : Sizes) (q : List Bool) (ps : List (ℕ × ℕ)) → map (λ p. child_block_needed n blocks q (path_at 32 p)) ps ≡ map (λ p. child_needed_in (entries n) (entries blocks) q (path_at 32 p)) ps
children-all n blocks q ps = λ i. map (λ p. child-is n blocks q (path_at 32 p) i) ps

values-all : (m : Entries ℕ) (blocks : Sizes) (q : List Bool) (ps : List (ℕ × ℕ)) → map (λ p. value_block_needed m blocks q (path_at 32 p)) ps ≡ map (λ p. value_needed_in (entries m) (entries blocks) q (path_at 32 p)) ps
values-all m blocks q ps = λ i. map (λ p. value-is m blocks q (path_at 32 p) i) ps

-- the blocks, each with the string of its node, in order
abbrev pub listed : ℕ → Blocks → Sized
listed width blocks = map (by_path width) blocks

abbrev pub InOrder : ℕ → Blocks → Type 0
InOrder width blocks = IsT (is_sorted listing_cmp (listed width blocks))

pub sizes-is : (width : ℕ) (blocks : Blocks) → InOrder width blocks → entries (sizes_at width blocks) ≡ listed width blocks
sizes-is width blocks h = entries-from_sorted listing_cmp (listed width blocks) h

lacks_in : (width : ℕ) (t : State ℕ) (layout : Layout) (q : ℕ × ℕ) {es cs vs : Sized} {ns : Marks} → Shows t es ns → entries layout.child_blocks ≡ cs → entries layout.value_blocks ≡ vs
    → lacking width t layout q ≡ (missing_nodes_in ns cs layout.free_child_blocks (path_at width q), missing_cells_in es vs layout.free_value_blocks (path_at width q))
lacks_in width t layout q s c v =
    let a = missing_nodes-is t.nodes layout (path_at width q) ∙ ap₂ (λ ns bs. missing_nodes_in ns bs layout.free_child_blocks (path_at width q)) s.of_nodes c in
    let b = missing_cells-is t.entries layout (path_at width q) ∙ ap₂ (λ es bs. missing_cells_in es bs layout.free_value_blocks (path_at width q)) s.of_entries v in
    λ i. (a i, b i)

pub some_missing : (width : ℕ) (t : State ℕ) (cs vs : Blocks) (fc fv : List ℕ) (q : ℕ × ℕ) {es : Sized} {ns : Marks} → Shows t es ns → InOrder width cs → InOrder width vs
    → lacking width t (layout_at width cs vs fc fv) q ≡ (missing_nodes_in ns (listed width cs) fc (path_at width q), missing_cells_in es (listed width vs) fv (path_at width q))
some_missing width t cs vs fc fv q s c v = lacks_in width t (layout_at width cs vs fc fv) q s (sizes-is width cs c) (sizes-is width vs v)

lacks_new : (width : ℕ) (t : State ℕ) (q : ℕ × ℕ) {es : Sized} {ns : Marks} → Shows t es ns
    → lacking width t no_layout q ≡ (missing_nodes_in ns [] none_free (path_at width q), missing_cells_in es [] none_free (path_at width q))
lacks_new width t q s = lacks_in width t no_layout q s (entries-empty ℕ) (entries-empty ℕ)

-- if the missing slots would exceed the limit, a refusal is allowed
more : (limit slots lack n : ℕ) → lack ≡ n → limit < slots + n → limit < slots + lack
more limit slots lack n e l = rw e l

pub neither_more : (limit a b lack_a lack_b n m : ℕ) → lack_a ≡ n → lack_b ≡ m → a + n ≤ limit → b + m ≤ limit → (limit < a + lack_a) ⊎ (limit < b + lack_b) → ⊥
neither_more limit a b lack_a lack_b n m e f p q (inl l) = absurd (omega arith)
neither_more limit a b lack_a lack_b n m e f p q (inr l) = absurd (omega arith)

-- the sizes of the child blocks that the insertion needs
pub children_needed : (t : State ℕ) (layout : Layout) (q : List Bool) {es cs : Sized} {ns : Marks} → Shows t es ns → entries layout.child_blocks ≡ cs
    → child_blocks_needed t.nodes layout q ≡ filter_map (child_needed_in ns cs q) (nodes_above q)
children_needed t layout q s c =
    (λ i. filter_map (λ p. child-is t.nodes layout.child_blocks q p i) (nodes_above q)) ∙ ap₂ (λ ns bs. filter_map (child_needed_in ns bs q) (nodes_above q)) s.of_nodes c

pub values_needed : (t : State ℕ) (layout : Layout) (q : List Bool) {es vs : Sized} {ns : Marks} → Shows t es ns → entries layout.value_blocks ≡ vs
    → value_blocks_needed t.entries layout q ≡ option_to_list (value_needed_in es vs q (home q))
values_needed t layout q s v =
    ap option_to_list (value-is t.entries layout.value_blocks q (home q) ∙ ap₂ (λ es bs. value_needed_in es bs q (home q)) s.of_entries v)

-- if one block is needed, no block of another size is missing
pub lacks_one : (sizes free needed : List ℕ) (n size : ℕ) → needed ≡ n ∷ [] → 0 < missing_of sizes free needed size → size ≡ n
lacks_one sizes free needed n size e l = elim (cases_Bool (n == size)) as (λ _. size ≡ n) [
  | inl is ↦ sym (eqb-true n size is)
  | inr other ↦
      let none : length (filter (λ s. s == size) needed) ≡ 0 = ap (λ ns. length (filter (λ s. s == size) ns)) e ∙ ap (λ b. length (cond b (n ∷ []) [])) other in
      let some : 0 < length (filter (λ s. s == size) needed) - free_of sizes free size = l in
      absurd (omega (arith, none, some))
]

pub lacks_none : (sizes free needed : List ℕ) (size : ℕ) → needed ≡ [] → 0 < missing_of sizes free needed size → ⊥
lacks_none sizes free needed size e l =
    let none : length (filter (λ s. s == size) needed) ≡ 0 = ap (λ ns. length (filter (λ s. s == size) ns)) e in
    let some : 0 < length (filter (λ s. s == size) needed) - free_of sizes free size = l in
    absurd (omega (arith, none, some))

-- that block is missing if none of its size is free
lacks_that : (sizes free needed : List ℕ) (n : ℕ) → needed ≡ n ∷ [] → missing_of sizes free (n ∷ []) n ≡ 1 → 0 < missing_of sizes free needed n
lacks_that sizes free needed n e one = let is : missing_of sizes free needed n ≡ 1 = ap (λ ns. missing_of sizes free ns n) e ∙ one in omega (arith, is)

-- neither the child block nor the value block fits
neither_within : (t : State ℕ) (space : Space) (layout : Layout) (q : List Bool) (n m : ℕ) → child_blocks_needed t.nodes layout q ≡ n ∷ [] → value_blocks_needed t.entries layout q ≡ m ∷ []
    → space.limit < space.node_slots + n → space.limit < space.cell_slots + m → MissingFitsLimit t.entries t.nodes space layout q → ⊥
neither_within t space layout q n m e f past_nodes past_cells (inl (size, some_missing, fits)) =
    let is = lacks_one child_block_sizes layout.free_child_blocks _ n size e some_missing in absurd (omega (arith, is, fits, past_nodes))
neither_within t space layout q n m e f past_nodes past_cells (inr (size, some_missing, fits)) =
    let is = lacks_one value_block_sizes layout.free_value_blocks _ m size f some_missing in absurd (omega (arith, is, fits, past_cells))

-- no child block is needed, and the value block does not fit
not_within : (t : State ℕ) (space : Space) (layout : Layout) (q : List Bool) (m : ℕ) → child_blocks_needed t.nodes layout q ≡ [] → value_blocks_needed t.entries layout q ≡ m ∷ []
    → space.limit < space.cell_slots + m → MissingFitsLimit t.entries t.nodes space layout q → ⊥
not_within t space layout q m e f past (inl (size, some_missing, fits)) = lacks_none child_block_sizes layout.free_child_blocks _ size e some_missing
not_within t space layout q m e f past (inr (size, some_missing, fits)) =
    let is = lacks_one value_block_sizes layout.free_value_blocks _ m size f some_missing in absurd (omega (arith, is, fits, past))

abbrev far_values : Blocks
far_values = ((0xfffffffc, 30), 1) ∷ []

abbrev five_free : List ℕ
five_free = 1 ∷ 1 ∷ 1 ∷ 1 ∷ 1 ∷ 0 ∷ 0 ∷ []

pub insertions_hold : InsertionsHold
unfolding digits number begins
insertions_hold = record {
  first_key = leads refl (λ t s.
      let long = lacks_new 32 t (0, 32) s in
      let short = lacks_new 32 t (0, 4) s in (
        long,
        short,
        inl (more 4 1 _ 6 (ap (λ x. x.0) long) (lit< tt)),
        neither_more 4 1 0 _ _ 0 1 (ap (λ x. x.0) short) (ap (λ x. x.1) short) (lit≤ tt) (lit≤ tt),
      ));
  first_child = leads refl (λ t s.
      let child = children_needed t no_layout (path_at 8 (0, 5)) s (entries-empty ℕ) in
      let value = values_needed t no_layout (path_at 8 (0, 5)) s (entries-empty ℕ) in (
        lacks_new 8 t (0, 5) s,
        inl (1, lacks_that child_block_sizes none_free _ 1 child refl, lit≤ tt),
        inr (1, lacks_that value_block_sizes none_free _ 1 value refl, lit≤ tt),
        neither_within t (space_of 10 10 10) no_layout (path_at 8 (0, 5)) 1 1 child value (lit< tt) (lit< tt),
      ));
  freed = leads refl (λ t s. some_missing 32 t [] [] (ones_free 6) (ones_free 1) (0xffffffff, 32) s tt tt);
  far_key = leads refl (λ t s.
      let q = path_at 32 (0, 32) in
      let children = sizes-is 32 far_children tt in
      let values = sizes-is 32 far_values tt in
      let gaining : List (ℕ × ℕ) = (0, 0) ∷ (0, 5) ∷ (0, 25) ∷ (0, 30) ∷ (0xf8000000, 5) ∷ (0, 3) ∷ [] in
      let parents : List (ℕ × ℕ) = (0, 0) ∷ (0, 5) ∷ (0, 30) ∷ [] in
      let owners : List (ℕ × ℕ) = (0, 30) ∷ (0, 0) ∷ (0, 25) ∷ [] in (
        some_missing 32 t far_children far_values none_free none_free (0, 32) s tt tt,
        gains-all t.nodes q gaining ∙ ap (λ ns. map (λ p. gains_in ns q (path_at 32 p)) gaining) s.of_nodes,
        children-all t.nodes far_layout.child_blocks q parents ∙ ap₂ (λ ns bs. map (λ p. child_needed_in ns bs q (path_at 32 p)) parents) s.of_nodes children,
        values-all t.entries far_layout.value_blocks q owners ∙ ap₂ (λ es bs. map (λ p. value_needed_in es bs q (path_at 32 p)) owners) s.of_entries values,
        gains-is t.nodes (path_at 32 (0xfffffffe, 32)) (path_at 32 (0xffffff80, 25))
            ∙ ap (λ ns. gains_in ns (path_at 32 (0xfffffffe, 32)) (path_at 32 (0xffffff80, 25))) s.of_nodes,
        some_missing 32 t far_children far_values none_free none_free (0xfffffffe, 32) s tt tt,
      ));
  full = leads refl (λ t s. some_missing 8 t [] (((0, 0), 24) ∷ []) none_free five_free (192, 2) s tt tt);
  with_space = leads refl (λ t s. some_missing 8 t [] (((0, 0), 24) ∷ []) none_free five_free (176, 4) s tt tt);
  free_serves = leads refl (λ t s. (
    said (λ es ns. own_in [] es) t s,
    some_missing 8 t [] (((0, 0), 24) ∷ []) none_free (1 ∷ 1 ∷ 1 ∷ 1 ∷ 1 ∷ 0 ∷ 1 ∷ []) (240, 4) s tt tt,
  ));
  children = leads refl (λ t s. (
    said (λ es ns. children_in [] ns) t s,
    some_missing 5 t (((0, 0), 24) ∷ []) (map with_one (take 24 (full_pairs 5))) five_free none_free (24, 5) s tt tt,
  ));
  three = leads refl (λ t s.
      let third = some_missing 8 t (((0, 0), 1) ∷ []) (((0, 0), 2) ∷ ((0, 5), 1) ∷ []) none_free none_free (64, 2) s tt tt in (
        third,
        inr (more 3 3 _ 4 (ap (λ x. x.1) third) (lit< tt)),
        not_within t (space_of 3 2 3) three_slots (path_at 8 (64, 2)) 4 (children_needed t three_slots (path_at 8 (64, 2)) s (sizes-is 8 (((0, 0), 1) ∷ []) tt))
            (values_needed t three_slots (path_at 8 (64, 2)) s (sizes-is 8 (((0, 0), 2) ∷ ((0, 5), 1) ∷ []) tt)) (lit< tt),
        neither_more 7 2 3 _ _ 0 4 (ap (λ x. x.0) third) (ap (λ x. x.1) third) (lit≤ tt) (lit≤ tt),
      ));
  five_bits = leads refl (λ t s. (
    said (λ es ns. holders_in es ns) t s,
    said (λ es ns. own_in [] es) t s,
    said (λ es ns. own_in (path_at 8 (0, 5)) es) t s,
    said (λ es ns. parents_in ns) t s,
  ));
}
