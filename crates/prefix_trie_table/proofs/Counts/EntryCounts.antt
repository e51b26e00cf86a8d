-- The number of entries of all nodes: how a change of one node changes it, and that the slots for values bound it.
use Rattle.prefix_trie_table.proofs.Prelude.{◌≡◌, ◌≢◌, ℕ, ◌+◌, ◌-◌, ◌<◌, ◌≤◌, ◌⊎◌, inl, inr, List, [], ◌∷◌, ◌++◌, length, length-append, length-take, take, drop, map, flat_map, replicate, sum_by, All, Option, None, Some, refl, sym, ap, ap₂, ◌∙◌, subst, arith, All-head, All-tail, sum_by-cons, Tiles, Node, bits, rank, blank_node, cell_sizes, run, Store, UsedBlock, Sound, HoldsItems, tier_sizes, extent, free_extents, filled, held, size_in, times, without, own_count, entry_count, CellsHold, with_node, with_child, value_blocks, value_blocks_of}
use Rattle.prefix_trie_bits.specs.Calls.Blocks.{Block as Extent}
use Rattle.prefix_trie_table.proofs.Blocks.Tilings.{blocks_sum}
use Rattle.prefix_trie_table.proofs.Strings.BitLists.{rank-all, rank-zero-all}
use Rattle.prefix_trie_table.proofs.Strings.PathSums.{sum_out, sum_same}
use Rattle.prefix_trie_table.proofs.Tree.Trees.{times_out_same}
use Rattle.prefix_trie_table.proofs.Tree.Children.{same_or, with_here, with_other, changed_below, changed_here, changed_other}

-- the number of entries is a sum over the paths
pub count_sum : (f : List ℕ → Option Node) (paths : List (List ℕ)) → entry_count f paths ≡ sum_by (λ q. own_count (f q)) paths
count_sum f [] = refl
count_sum f (x ∷ paths) = ap (λ k. own_count (f x) + k) (count_sum f paths) ∙ sym (sum_by-cons (λ q. own_count (f q)) x paths)

-- the entries of one node can be counted first
count_out : (f : List ℕ → Option Node) (p : List ℕ) (paths : List (List ℕ)) → 0 < times p paths →
    entry_count f paths ≡ own_count (f p) + entry_count f (without p paths)
count_out f p paths there = count_sum f paths ∙ sum_out (λ q. own_count (f q)) p paths there ∙ ap (λ k. own_count (f p) + k) (sym (count_sum f (without p paths)))

-- if each node has as many values as before, there are as many entries
count_same : (f g : List ℕ → Option Node) (paths : List (List ℕ)) → ((q : List ℕ) → 0 < times q paths → own_count (g q) ≡ own_count (f q)) →
    entry_count g paths ≡ entry_count f paths
count_same f g paths same = count_sum g paths ∙ sum_same (λ q. own_count (f q)) (λ q. own_count (g q)) paths same ∙ sym (count_sum f paths)

-- how the number changes if the node at p becomes m
pub count_with_node : (f : List ℕ → Option Node) (p : List ℕ) (m : Node) (paths : List (List ℕ)) → times p paths ≡ 1 →
    entry_count (with_node f p m) paths + own_count (f p) ≡ entry_count f paths + own_count (Some m)
count_with_node f p m paths once =
    let none_p : times p (without p paths) ≡ 0 = times_out_same p paths once in
    let before = count_out f p paths (omega arith) in
    let after = count_out (with_node f p m) p paths (omega arith) in
    let here : own_count (with_node f p m p) ≡ own_count (Some m) = ap own_count (with_here f p m p refl) in
    let rest : entry_count (with_node f p m) (without p paths) ≡ entry_count f (without p paths) = count_same f (with_node f p m) (without p paths)
    (λ q h. ap own_count (with_other f p m q (λ e. let z : times q (without p paths) ≡ 0 = ap (λ y. times y (without p paths)) e ∙ none_p in omega arith))) in
    omega (arith, before, after, here, rest)

-- it stays if the node n at p becomes m, which has as many values and one more blank child
pub count_with_child : (f : List ℕ → Option Node) (p : List ℕ) (n m : Node) (c : ℕ) (paths : List (List ℕ)) → f p ≡ Some n →
    m.value_bitmap ≡ n.value_bitmap → times (p ++ c ∷ []) paths ≡ 0 → entry_count (with_child f p m c) ((p ++ c ∷ []) ∷ paths) ≡ entry_count f paths
count_with_child f p n m c paths is same none =
    let new : own_count (with_child f p m c (p ++ c ∷ [])) ≡ 0 = ap own_count (changed_below f p m c (Some blank_node) (p ++ c ∷ []) refl) ∙ rank-zero-all in
    let rest : entry_count (with_child f p m c) paths ≡ entry_count f paths = count_same f (with_child f p m c) paths
    (λ q h. by q (λ e. let z : times q paths ≡ 0 = ap (λ y. times y paths) e ∙ none in omega arith) (same_or q p)) in
    omega (arith, new, rest)
  where
    by : (q : List ℕ) → q ≢ p ++ c ∷ [] → (q ≡ p) ⊎ (q ≢ p) → own_count (with_child f p m c q) ≡ own_count (f q)
    by q nr (inl e) = ap own_count (changed_here f p m c (Some blank_node) q e) ∙ ap (λ b. rank b 32) same ∙ sym (ap own_count (ap f e ∙ is))
    by q nr (inr ne) = ap own_count (changed_other f p m c (Some blank_node) q ne nr)

-- ---- the cells bound the number of entries

abbrev items_count : {S : Type 0} → List (UsedBlock S) → ℕ
items_count [] = 0
items_count (b ∷ bs) = length b.items + items_count bs

items_count-append : {S : Type 0} (xs ys : List (UsedBlock S)) → items_count (xs ++ ys) ≡ items_count xs + items_count ys
items_count-append [] ys = omega arith
items_count-append (x ∷ xs) ys = omega (arith, items_count-append xs ys)

-- the number of slots of a block
abbrev pub size_of_extent : Extent → ℕ
size_of_extent e = e.size

-- the blocks that tile an array have all slots after the first block's start
pub tiling-sum : (sizes : List ℕ) (first end : ℕ) (es : List Extent) → Tiles sizes first es end → first + sum_by size_of_extent es ≡ end
tiling-sum sizes first end [] t = omega (arith, t)
tiling-sum sizes first end (e ∷ es) t =
    let rest : first + e.size + sum_by size_of_extent es ≡ end = tiling-sum sizes (first + e.size) end es t.2 in
    omega (arith, sum_by-cons size_of_extent e es, rest)

module _ {S : Type 0} (vacant : S) (slots : List S) where
  item_fits : (b : UsedBlock S) → HoldsItems vacant slots b → length b.items ≤ b.size
  item_fits b h =
      let n : length (run slots b.start b.size) ≤ b.size = short b.size (drop b.start slots) in
      let e : length (run slots b.start b.size) ≡ length (filled vacant b.size b.items) = ap (λ (xs : List S). length xs) h in
      omega (arith, n, e, length-append b.items (replicate (b.size - length b.items) vacant))
    where
      short : (n : ℕ) (xs : List S) → length (take n xs) ≤ n
      short n xs = omega (arith, length-take n xs)

  items-sum : (live : List (UsedBlock S)) → All (HoldsItems vacant slots) live → items_count live ≤ sum_by size_of_extent (map extent live)
  items-sum [] h = omega arith
  items-sum (b ∷ bs) h =
      omega (arith, sum_by-cons size_of_extent (extent b) (map extent bs), items-sum bs (All-tail (HoldsItems vacant slots) b bs h), item_fits b (All-head (HoldsItems vacant slots) b bs h))

-- the used blocks hold at most as many items as there are slots
pub items_bound : {S : Type 0} (vacant : S) (live : List (UsedBlock S)) (v : Store S) → Sound vacant live v → items_count live ≤ length v.slots
items_bound vacant live v s =
    omega (
      arith,
      tiling-sum (tier_sizes v.tiers) v.first (length v.slots) s.blocks.blocks s.blocks.tiles,
      blocks_sum (tier_sizes v.tiers) v.first (length v.slots) (map extent live) (free_extents v.tiers) s.blocks size_of_extent,
      items-sum vacant v.slots live s.held,
    )

held-items : {S : Type 0} (k start size : ℕ) (xs : List S) → items_count (held k start size xs) ≡ length xs
held-items k start size [] = refl
held-items k start size (x ∷ xs) = omega arith

module _ {T : Type 0} (nodes : List ℕ → Option Node) (values : List ℕ → ℕ → Option T) where
  own_items : (p : List ℕ) (o : Option Node) → items_count (value_blocks_of cell_sizes values p o) ≡ own_count o
  own_items p None = refl
  own_items p (Some n) = held-items n.value_tier n.value_block (size_in cell_sizes n.value_tier) (map (values p) (bits n.value_bitmap))
      ∙ rank-all (values p) n.value_bitmap

  all_items : (paths : List (List ℕ)) → items_count (flat_map (value_blocks cell_sizes nodes values) paths) ≡ entry_count nodes paths
  all_items [] = refl
  all_items (p ∷ paths) =
      items_count-append (value_blocks cell_sizes nodes values p) (flat_map (value_blocks cell_sizes nodes values) paths)
      ∙ ap₂ (λ a b. a + b) (own_items p (nodes p)) (all_items paths)

-- there are at most as many entries as slots for values
pub entries_bound : {T : Type 0} (nodes : List ℕ → Option Node) (values : List ℕ → ℕ → Option T) (paths : List (List ℕ)) (w : Store (Option T)) →
    CellsHold cell_sizes nodes values paths w → entry_count nodes paths ≤ length w.slots
entries_bound nodes values paths w cells = subst (λ n. n ≤ length w.slots) (all_items nodes values paths) (items_bound None (flat_map (value_blocks cell_sizes nodes values) paths) w cells.sound)
