-- The numbers of used and free blocks of each size: for `node_blocks` and `cell_blocks`.
use Rattle.prefix_trie_table.proofs.Prelude.{◌≡◌, ℕ, suc, ◌+◌, ◌-◌, ◌*◌, ◌<◌, ◌≤◌, cond, ◌==◌, List, [], ◌∷◌, length, map, flat_map, count_by, sum_by, All, Option, None, Some, refl, sym, ap, ap₂, ◌∙◌, arith, eqb-true, eq-eqb, position, values, All-head, sum_by-cons, sum_by-append, same_bool, Sizes, used_of, Node, tier_count, block_counts, slots_counted, bits, node_sizes, cell_sizes, Tier, UsedBlock, Sound, Store, IsOfTier, tier_at, tier_sizes, slots_made, held, size_in, size_if_any, free_counts, NodesHold, CellsHold, child_items, child_blocks, child_blocks_of, value_blocks, value_blocks_of, of_any, Sized, child_block_size, value_block_size}
use Rattle.prefix_trie_table.proofs.Strings.SmallFacts.{some_same}
use Rattle.prefix_trie_table.proofs.Blocks.SevenTiers.{at_seven}
use Rattle.prefix_trie_table.proofs.Blocks.BySize.{tiers_long}
use Rattle.prefix_trie_table.proofs.Strings.BitLists.{rank-all}
use Rattle.prefix_trie_table.proofs.Strings.PathStrings.{AreSteps, AreOnce, paths_steps, paths_once}
use Rattle.prefix_trie_table.proofs.Blocks.NodeLayouts.{sizes_at, sizes_sum, sizes_only}
use Rattle.prefix_trie_table.proofs.Blocks.Tilings.{All-append_left, All-append_right}

-- a list of seven tiers is the list of its tiers by index
pub seven_tiers : (ts : List Tier) → length ts ≡ 7 →
    tier_at ts 0 ∷ tier_at ts 1 ∷ tier_at ts 2 ∷ tier_at ts 3 ∷ tier_at ts 4 ∷ tier_at ts 5 ∷ tier_at ts 6 ∷ [] ≡ ts
seven_tiers [] e = absurd (omega (arith, e))
seven_tiers (a ∷ []) e = absurd (omega (arith, e))
seven_tiers (a ∷ b ∷ []) e = absurd (omega (arith, e))
seven_tiers (a ∷ b ∷ c ∷ []) e = absurd (omega (arith, e))
seven_tiers (a ∷ b ∷ c ∷ d ∷ []) e = absurd (omega (arith, e))
seven_tiers (a ∷ b ∷ c ∷ d ∷ m ∷ []) e = absurd (omega (arith, e))
seven_tiers (a ∷ b ∷ c ∷ d ∷ m ∷ n ∷ []) e = absurd (omega (arith, e))
seven_tiers (a ∷ b ∷ c ∷ d ∷ m ∷ n ∷ o ∷ []) e = refl
seven_tiers (a ∷ b ∷ c ∷ d ∷ m ∷ n ∷ o ∷ p ∷ ts) e = absurd (omega (arith, e))

-- 1 if this is the size, and 0 otherwise
abbrev has_size : ℕ → Option ℕ → ℕ
has_size n = of_any (λ m. cond (m == n) 1 0)

-- the used blocks of a tier are as many as the used sizes that are its size
module _ {S : Type 0} (g : List ℕ → Option ℕ) (f : List ℕ → List (UsedBlock S)) (k n : ℕ) (ts : List Tier)
    (each : (p : List ℕ) → All (IsOfTier ts) (f p) → count_by (λ b. b.tier == k) (f p) ≡ has_size n (g p)) where
  blocks_by_path : (paths : List (List ℕ)) → All (IsOfTier ts) (flat_map f paths) → count_by (λ b. b.tier == k) (flat_map f paths) ≡ sum_by (λ p. has_size n (g p)) paths
  blocks_by_path [] of = refl
  blocks_by_path (x ∷ paths) of =
      sum_by-append (λ b. cond (b.tier == k) 1 0) (f x) (flat_map f paths)
      ∙ ap₂ (λ a b. a + b) (each x (All-append_left (IsOfTier ts) (f x) (flat_map f paths) of))
      (blocks_by_path paths (All-append_right (IsOfTier ts) (f x) (flat_map f paths) of))
      ∙ sym (sum_by-cons (λ p. has_size n (g p)) x paths)

  -- there are as many blocks of this tier as values of this size
  pub blocks_of_size : (paths : List (List ℕ)) → AreSteps paths → AreOnce paths → All (IsOfTier ts) (flat_map f paths) →
      count_by (λ b. b.tier == k) (flat_map f paths) ≡ count_by (λ m. m == n) (values (sizes_at g paths))
  blocks_of_size paths steps once of = blocks_by_path paths of ∙ sym (sizes_sum (λ m. cond (m == n) 1 0) g paths steps once)

-- the sizes differ, so each is found at its own place
abbrev AreApart : List ℕ → Type 0
AreApart sizes = (i : ℕ) → i < 7 → position (λ m. m == size_in sizes i) sizes ≡ Some i

node_sizes_apart : AreApart node_sizes
node_sizes_apart = at_seven (λ i. position (λ m. m == size_in node_sizes i) node_sizes ≡ Some i) refl refl refl refl refl refl refl

cell_sizes_apart : AreApart cell_sizes
cell_sizes_apart = at_seven (λ i. position (λ m. m == size_in cell_sizes i) cell_sizes ≡ Some i) refl refl refl refl refl refl refl

module _ (sizes : List ℕ) (apart : AreApart sizes) where
  same_tier : (t k : ℕ) → t < 7 → k < 7 → (t == k) ≡ (size_in sizes t == size_in sizes k)
  same_tier t k h j = same_bool _ _
      (λ e. eq-eqb _ _ (ap (size_in sizes) (eqb-true t k e)))
      (λ e. eq-eqb t k (some_same t k (sym (apart t h) ∙ ap (λ n. position (λ m. m == n) sizes) (eqb-true (size_in sizes t) (size_in sizes k) e) ∙ apart k j)))

  -- a list with items has one block, which is of its tier
  module _ {S : Type 0} (ts : List Tier) (seven : length ts ≡ 7) (k : ℕ) (inside : k < 7) where
    held_sized : (t start : ℕ) (xs : List S) → All (IsOfTier ts) (held t start (size_in sizes t) xs) →
        count_by (λ b. b.tier == k) (held t start (size_in sizes t) xs) ≡ has_size (size_in sizes k) (size_if_any (length xs) (size_in sizes t))
    held_sized t start [] of = refl
    held_sized t start (x ∷ xs) of =
        let own = All-head (IsOfTier ts) _ [] of in
        let small : t < 7 = (let w = own.within in omega (arith, w, seven)) in
        ap (λ b. 0 + cond b 1 0) (same_tier t k small inside) ∙ (let e : 0 + cond (size_in sizes t == size_in sizes k) 1 0 ≡ cond (size_in sizes t == size_in sizes k) 1 0 = omega arith in e)

-- the counts of the tiers are the numbers of used and free blocks of their sizes
counts_are : (ts : List Tier) (m : Sizes) →
    ((k : ℕ) → k < length ts → (tier_at ts k).made ≡ length (tier_at ts k).starts + count_by (λ x. x == size_in (tier_sizes ts) k) (values m)) →
    map tier_count ts ≡ block_counts (tier_sizes ts) m (free_counts ts)
counts_are [] m h = refl
counts_are (t ∷ ts) m h =
    let here : t.made - length t.starts ≡ count_by (λ x. x == t.size) (values m) = (let e = h 0 (omega arith) in omega (arith, e)) in
    let rest = counts_are ts m (λ k inside. h (suc k) (omega arith)) in
    λ i. record { size = t.size; used = here i; free = length t.starts } ∷ rest i

-- the slots of the used and free blocks are those that were made
pub slots_are : (ts : List Tier) → ((k : ℕ) → k < length ts → length (tier_at ts k).starts ≤ (tier_at ts k).made) → slots_counted (map tier_count ts) ≡ slots_made ts
slots_are [] h = refl
slots_are (t ∷ ts) h =
    let all : t.made - length t.starts + length t.starts ≡ t.made = (let e = h 0 (omega arith) in omega (arith, e)) in
    sum_by-cons (λ b. b.size * (b.used + b.free)) (tier_count t) (map tier_count ts)
    ∙ ap₂ (λ a b. t.size * a + b) all (slots_are ts (λ k inside. h (suc k) (omega arith)))
    ∙ sym (sum_by-cons (λ u. u.size * u.made) t ts)

-- at most the blocks that were made are free
pub free_within : {S : Type 0} (vacant : S) (live : List (UsedBlock S)) (v : Store S) → Sound vacant live v → (k : ℕ) → k < length v.tiers →
    length (tier_at v.tiers k).starts ≤ (tier_at v.tiers k).made
free_within vacant live v s k inside = let e = s.counted k inside in omega (arith, e)

module _ (reading : List ℕ → Option Node) (paths : List (List ℕ)) (v : Store Node) (hold : NodesHold node_sizes reading paths v) where
  pub seven_nodes : length v.tiers ≡ 7
  seven_nodes = tiers_long v.tiers node_sizes hold.sizes_are

  child_each : (k : ℕ) → k < 7 → (p : List ℕ) → All (IsOfTier v.tiers) (child_blocks node_sizes reading p) →
      count_by (λ b. b.tier == k) (child_blocks node_sizes reading p) ≡ has_size (size_in node_sizes k) (child_block_size (reading p))
  child_each k inside p of = at (reading p) of
    where
      at : (o : Option Node) → All (IsOfTier v.tiers) (child_blocks_of node_sizes reading p o) →
          count_by (λ b. b.tier == k) (child_blocks_of node_sizes reading p o) ≡ has_size (size_in node_sizes k) (child_block_size o)
      at None of = refl
      at (Some n) of =
          held_sized node_sizes node_sizes_apart v.tiers seven_nodes k inside n.child_tier n.child_block (child_items reading p n.child_bitmap) of
          ∙ ap (λ r. has_size (size_in node_sizes k) (size_if_any r (size_in node_sizes n.child_tier))) (rank-all _ n.child_bitmap)

  -- the blocks of a tier of nodes are the free ones and the used ones of its size
  pub nodes_made : (x : Sized v.slots) (k : ℕ) → k < 7 → (tier_at v.tiers k).made ≡ length (tier_at v.tiers k).starts + used_of x.0 (size_in node_sizes k)
  nodes_made x k inside =
      hold.sound.counted k (let s = seven_nodes in omega (arith, inside, s))
      ∙ ap (λ n. length (tier_at v.tiers k).starts + n)
      (blocks_of_size (λ p. child_block_size (reading p)) (child_blocks node_sizes reading) k (size_in node_sizes k) v.tiers
      (child_each k inside) paths (paths_steps node_sizes reading paths v hold) (paths_once node_sizes reading paths v hold) hold.sound.of_tier)
      ∙ ap (λ (m : Sizes). length (tier_at v.tiers k).starts + used_of m (size_in node_sizes k)) (sym (sizes_only node_sizes reading paths v hold x).0)

  -- the counts of the array of nodes are right
  pub node_counts : (x : Sized v.slots) → map tier_count v.tiers ≡ block_counts node_sizes x.0 (free_counts v.tiers)
  node_counts x =
      counts_are v.tiers x.0 (λ k inside.
      nodes_made x k (let s = seven_nodes in omega (arith, inside, s))
      ∙ ap (λ s. length (tier_at v.tiers k).starts + used_of x.0 (size_in s k)) (sym hold.sizes_are))
      ∙ ap (λ s. block_counts s x.0 (free_counts v.tiers)) hold.sizes_are

  module _ {T : Type 0} (values_at : List ℕ → ℕ → Option T) (w : Store (Option T)) (cells : CellsHold cell_sizes reading values_at paths w) where
    pub seven_cells : length w.tiers ≡ 7
    seven_cells = tiers_long w.tiers cell_sizes cells.sizes_are

    value_each : (k : ℕ) → k < 7 → (p : List ℕ) → All (IsOfTier w.tiers) (value_blocks cell_sizes reading values_at p) →
        count_by (λ b. b.tier == k) (value_blocks cell_sizes reading values_at p) ≡ has_size (size_in cell_sizes k) (value_block_size (reading p))
    value_each k inside p of = at (reading p) of
      where
        at : (o : Option Node) → All (IsOfTier w.tiers) (value_blocks_of cell_sizes values_at p o) →
            count_by (λ b. b.tier == k) (value_blocks_of cell_sizes values_at p o) ≡ has_size (size_in cell_sizes k) (value_block_size o)
        at None of = refl
        at (Some n) of =
            held_sized cell_sizes cell_sizes_apart w.tiers seven_cells k inside n.value_tier n.value_block (map (values_at p) (bits n.value_bitmap)) of
            ∙ ap (λ r. has_size (size_in cell_sizes k) (size_if_any r (size_in cell_sizes n.value_tier))) (rank-all _ n.value_bitmap)

    -- the blocks of a tier of values are the free ones and the used ones of its size
    pub cells_made : (x : Sized v.slots) (k : ℕ) → k < 7 → (tier_at w.tiers k).made ≡ length (tier_at w.tiers k).starts + used_of x.1.0 (size_in cell_sizes k)
    cells_made x k inside =
        cells.sound.counted k (let s = seven_cells in omega (arith, inside, s))
        ∙ ap (λ n. length (tier_at w.tiers k).starts + n)
        (blocks_of_size (λ p. value_block_size (reading p)) (value_blocks cell_sizes reading values_at) k (size_in cell_sizes k) w.tiers
        (value_each k inside) paths (paths_steps node_sizes reading paths v hold) (paths_once node_sizes reading paths v hold) cells.sound.of_tier)
        ∙ ap (λ (m : Sizes). length (tier_at w.tiers k).starts + used_of m (size_in cell_sizes k)) (sym (sizes_only node_sizes reading paths v hold x).1)

    -- the counts of the array of values are right
    pub cell_counts : (x : Sized v.slots) → map tier_count w.tiers ≡ block_counts cell_sizes x.1.0 (free_counts w.tiers)
    cell_counts x =
        counts_are w.tiers x.1.0 (λ k inside.
        cells_made x k (let s = seven_cells in omega (arith, inside, s))
        ∙ ap (λ s. length (tier_at w.tiers k).starts + used_of x.1.0 (size_in s k)) (sym cells.sizes_are))
        ∙ ap (λ s. block_counts s x.1.0 (free_counts w.tiers)) cells.sizes_are
