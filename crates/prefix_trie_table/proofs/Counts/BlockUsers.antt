-- There are as many used blocks as nodes with children, and as nodes with values of their own: for `node_blocks` and
-- `cell_blocks`.
use Rattle.prefix_trie_table.proofs.Prelude.{◌≡◌, ◌≢◌, ℕ, zero, suc, ◌+◌, ◌-◌, ◌%◌, ◌<◌, Bool, true, false, cond, ◌==◌, ◌&&◌, ◌||◌, List, [], ◌∷◌, length, map, filter, flat_map, count_by, sum_by, nat_lt, All, Option, None, Some, is_some, refl, sym, ap, ap₂, ◌∙◌, arith, eq-eqb, lt-ltb, list_any, nat_tests, All-head, All-tail, length-flat_map, sum_by-cons, length-filter, entries, keys, get, Entries, Nodes, has_node, is_node_depth, is_parent, is_holder, parents, holders, entries-empty, Node, tier_count, used_blocks, bits, blank_node, node_sizes, cell_sizes, chunks_of, bit_of, Tier, UsedBlock, Sound, Store, IsOfTier, tier_at, held, NodesHold, CellsHold, times, has_child, has_value, child_items, child_blocks, child_blocks_of, value_blocks, value_blocks_of, node_or_blank}
use Rattle.prefix_trie_table.specs.Forest.{size_in}
use Rattle.prefix_trie_table.proofs.Counts.OwnCounts.{children_counted, values_counted}
use Rattle.prefix_trie_table.proofs.Strings.PathSums.{sum_same}
use Rattle.prefix_trie_table.proofs.Strings.BitLists.{rank-all}
use Rattle.prefix_trie_table.proofs.Strings.KeySums.{sum-fresh}
use Rattle.prefix_trie_table.proofs.Strings.PathStrings.{string_at, string_path, string_depth, nodes_at, AreSteps, AreOnce, other_steps, other_once, new_string, paths_steps, paths_once, listed_some, same_nodes}
use Rattle.prefix_trie_table.proofs.Blocks.SlotSums.{sum_by-mapped}
use Rattle.prefix_trie_table.proofs.Tree.Trees.{is_some-Some}

-- the sum of f over the numbers below n
abbrev total : ℕ → (ℕ → ℕ) → ℕ
total zero f = 0
total (suc n) f = f 0 + total n (λ j. f (suc j))

total-none : (n : ℕ) (f : ℕ → ℕ) → ((k : ℕ) → f k ≡ 0) → total n f ≡ 0
total-none zero f none = refl
total-none (suc n) f none = omega (arith, none 0, total-none n (λ j. f (suc j)) (λ k. none (suc k)))

total-sum : (n : ℕ) (f a b : ℕ → ℕ) → ((k : ℕ) → f k ≡ a k + b k) → total n f ≡ total n a + total n b
total-sum zero f a b both = refl
total-sum (suc n) f a b both = omega (arith, both 0, total-sum n (λ j. f (suc j)) (λ j. a (suc j)) (λ j. b (suc j)) (λ k. both (suc k)))

-- if f is 1 at one number and 0 at all others, the sum is 1
total-one : (n t : ℕ) (f : ℕ → ℕ) → t < n → f t ≡ 1 → ((k : ℕ) → k ≢ t → f k ≡ 0) → total n f ≡ 1
total-one zero t f h one others = absurd (omega (arith, h))
total-one (suc n) zero f h one others =
    let rest = total-none n (λ j. f (suc j)) (λ k. others (suc k) (λ e. absurd (omega (arith, e)))) in omega (arith, one, rest)
total-one (suc n) (suc t) f h one others =
    let first = others 0 (λ e. absurd (omega (arith, e))) in
    let rest = total-one n t (λ j. f (suc j)) (omega (arith, h)) one (λ k ne. others (suc k) (λ e. ne (omega (arith, e)))) in omega (arith, first, rest)

used_total : (ts : List Tier) (f : ℕ → ℕ) → ((k : ℕ) → k < length ts → (tier_at ts k).made ≡ length (tier_at ts k).starts + f k) →
    used_blocks (map tier_count ts) ≡ total (length ts) f
used_total [] f h = refl
used_total (t ∷ ts) f h =
    let here : t.made - length t.starts ≡ f 0 = (let e = h 0 (omega arith) in omega (arith, e)) in
    sum_by-cons (λ b. b.used) (tier_count t) (map tier_count ts)
    ∙ ap₂ (λ a b. a + b) here (used_total ts (λ j. f (suc j)) (λ k inside. h (suc k) (omega arith)))

-- some key passes exactly if the filtered list is not empty
any_filtered : (test : List Bool → Bool) (ks : List (List Bool)) → list_any test ks ≡ nat_lt 0 (length (filter test ks))
any_filtered test [] = refl
any_filtered test (k ∷ ks) = elim (test k) as (λ b. (b || list_any test ks) ≡ nat_lt 0 (length (cond b (k ∷ filter test ks) (filter test ks)))) [
  | true ↦ sym (lt-ltb 0 (suc (length (filter test ks))) (omega arith))
  | false ↦ any_filtered test ks
]

module _ {S : Type 0} where
  is_tier-same : (b : UsedBlock S) (k : ℕ) → b.tier ≡ k → ◌≡◌ {A = ℕ} (cond (b.tier == k) 1 0) 1
  is_tier-same b k e = grind (arith, nat_tests)

  is_tier-other : (b : UsedBlock S) (k : ℕ) → k ≢ b.tier → ◌≡◌ {A = ℕ} (cond (b.tier == k) 1 0) 0
  is_tier-other b k e = grind (arith, nat_tests)

  -- each block is of one tier, so the tiers have all blocks
  blocks_total : (ts : List Tier) (live : List (UsedBlock S)) → All (IsOfTier ts) live → total (length ts) (λ k. count_by (λ b. b.tier == k) live) ≡ length live
  blocks_total ts [] of = total-none (length ts) _ (λ k. refl)
  blocks_total ts (b ∷ live) of =
      let own = All-head (IsOfTier ts) b live of in
      total-sum (length ts) (λ k. count_by (λ b. b.tier == k) (b ∷ live)) (λ k. cond (b.tier == k) 1 0) (λ k. count_by (λ b. b.tier == k) live)
      (λ k. sum_by-cons (λ b. cond (b.tier == k) 1 0) b live)
      ∙ ap₂ (λ a c. a + c) (total-one (length ts) b.tier (λ k. cond (b.tier == k) 1 0) own.within (is_tier-same b b.tier refl) (is_tier-other b))
      (blocks_total ts live (All-tail (IsOfTier ts) b live of))
      ∙ (let e : 1 + length live ≡ suc (length live) = omega arith in e)

  -- the used blocks are all counted
  used_live : (vacant : S) (live : List (UsedBlock S)) (v : Store S) → Sound vacant live v → used_blocks (map tier_count v.tiers) ≡ length live
  used_live vacant live v s = used_total v.tiers (λ k. count_by (λ b. b.tier == k) live) s.counted ∙ blocks_total v.tiers live s.of_tier

  -- a list with one item for each key that passes a test has one block if some key passes
  held_length : (k start size : ℕ) (xs : List S) (test : List Bool → Bool) (ks : List (List Bool)) → length (filter test ks) ≡ length xs →
      cond (list_any test ks) 1 0 ≡ length (held k start size xs)
  held_length k start size [] test ks e = ap (λ c. cond c 1 0) (any_filtered test ks ∙ ap (nat_lt 0) e)
  held_length k start size (x ∷ xs) test ks e = ap (λ c. cond c 1 0) (any_filtered test ks ∙ ap (nat_lt 0) e ∙ lt-ltb 0 (suc (length xs)) (omega arith))

-- a sum over the nodes is the sum over their paths
pub nodes_sum : (h : List Bool × Unit {0} → ℕ) (paths : List (List ℕ)) → AreSteps paths → AreOnce paths →
    sum_by h (entries (nodes_at paths)) ≡ sum_by (λ p. h (string_at p, tt)) paths
nodes_sum h [] steps once = ap (sum_by h) (entries-empty (Unit {0}))
nodes_sum h (x ∷ paths) steps once =
    sum-fresh h (nodes_at paths) (string_at x) tt (new_string x paths steps once)
    ∙ ap (λ n. h (string_at x, tt) + n) (nodes_sum h paths (other_steps x paths steps) (other_once x paths once))
    ∙ sym (sum_by-cons (λ p. h (string_at p, tt)) x paths)

module _ (reading : List ℕ → Option Node) (paths : List (List ℕ)) (v : Store Node) (hold : NodesHold node_sizes reading paths v) (n : Nodes)
    (are : (s : List Bool) → has_node n s ≡ (is_node_depth s && is_some (reading (chunks_of s)))) where
  -- the nodes that pass a test are as many as the blocks, if each such node has one block
  counted_by_blocks : {S : Type 0} (test : List Bool → Bool) (f : List ℕ → List (UsedBlock S)) →
      ((p : List ℕ) → 0 < times p paths → cond (test (string_at p)) 1 0 ≡ length (f p)) → length (filter test (keys n)) ≡ length (flat_map f paths)
  counted_by_blocks test f each =
      length-filter test (keys n)
      ∙ sum_by-mapped (λ s. cond (test s) 1 0) (λ (e : List Bool × Unit {0}). e.0) (entries n)
      ∙ ap (λ m. sum_by (λ (e : List Bool × Unit {0}). cond (test e.0) 1 0) (entries m)) (same_nodes node_sizes reading paths v hold n are)
      ∙ nodes_sum (λ e. cond (test e.0) 1 0) paths (paths_steps node_sizes reading paths v hold) (paths_once node_sizes reading paths v hold)
      ∙ sum_same (λ p. length (f p)) (λ p. cond (test (string_at p)) 1 0) paths each
      ∙ sym (length-flat_map f paths)

  module _ (p : List ℕ) (listed : 0 < times p paths) where
    own_path : chunks_of (string_at p) ≡ p
    own_path = string_path p (paths_steps node_sizes reading paths v hold p listed)

    own_node : reading p ≡ Some (node_or_blank (reading p))
    own_node = is_some-Some (reading p) (listed_some node_sizes reading paths v hold p listed)

    own_depth : is_node_depth (string_at p) ≡ true
    own_depth = eq-eqb (length (string_at p) % 5) 0 (string_depth p)

    parent_counted : (m : Node) → reading p ≡ Some m → cond (is_parent n (string_at p)) 1 0 ≡ length (child_blocks node_sizes reading p)
    parent_counted m e =
        held_length m.child_tier m.child_block (size_in node_sizes m.child_tier) (child_items reading p m.child_bitmap) _ (keys n)
        (children_counted node_sizes reading paths v hold (string_at p) own_depth n are m.child_bitmap (λ c. ap (λ o. has_child o c) (ap reading own_path ∙ e))
        ∙ sym (rank-all _ m.child_bitmap))
        ∙ ap (λ o. length (child_blocks_of node_sizes reading p o)) (sym e)

  -- there are as many nodes with children as used blocks of children
  pub parents_used : length (parents n) ≡ used_blocks (map tier_count v.tiers)
  parents_used =
      counted_by_blocks (λ p. is_parent n p) (child_blocks node_sizes reading) (λ p listed. parent_counted p listed (node_or_blank (reading p)) (own_node p listed))
      ∙ sym (used_live blank_node (flat_map (child_blocks node_sizes reading) paths) v hold.sound)

  module _ {T : Type 0} (values : List ℕ → ℕ → Option T) (w : Store (Option T)) (cells : CellsHold cell_sizes reading values paths w) (m : Entries T)
      (stored : (s : List Bool) → get m s ≡ values (chunks_of s) (bit_of s)) where
    holder_counted : (p : List ℕ) → 0 < times p paths → (x : Node) → reading p ≡ Some x →
        cond (is_holder m (string_at p)) 1 0 ≡ length (value_blocks cell_sizes reading values p)
    holder_counted p listed x e =
        held_length x.value_tier x.value_block (size_in cell_sizes x.value_tier) (map (values p) (bits x.value_bitmap)) _ (keys m)
        (values_counted node_sizes reading paths v hold (string_at p) (own_depth p listed) values w cell_sizes cells m stored x.value_bitmap
        (λ b. ap (λ o. has_value o b) (ap reading (own_path p listed) ∙ e)) ∙ sym (rank-all _ x.value_bitmap))
        ∙ ap (λ o. length (value_blocks_of cell_sizes values p o)) (sym e)

    -- there are as many nodes with values as used blocks of values
    pub holders_used : length (holders m n) ≡ used_blocks (map tier_count w.tiers)
    holders_used =
        counted_by_blocks (λ p. is_holder m p) (value_blocks cell_sizes reading values) (λ p listed. holder_counted p listed (node_or_blank (reading p)) (own_node p listed))
        ∙ sym (used_live None (flat_map (value_blocks cell_sizes reading values) paths) w cells.sound)
