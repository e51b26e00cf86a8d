-- Calls that remove values and nodes do not raise the length that the arrays can reach.
use Rattle.prefix_trie_table.proofs.Prelude.{◌≡◌, inl, inr, Bool, true, not, ℕ, ◌+◌, ◌*◌, ◌<◌, ◌≤◌, nat_lt, List, [], ◌∷◌, ◌++◌, length, set, sum_by, All, Option, None, Some, is_some, refl, sym, ap, ◌∙◌, subst, arith, All-nil, All-cons, sum_by-filter_both, sum_by-le, sum_by-set, len, empty_of_len, get-empty, false≢true, cases_lt, listing_cmp, Nodes, has_node, State, Node, blank_node, node_at, node_sizes, cell_sizes, Store, size_in, size_if_any, without, node_or_blank, with_child_removed, NodesHold, IsShapeOf, IsTable, smaller_sizes, headroom, headroom_if_any, child_headroom, value_headroom, BoundsGrowthBy, BoundsGrowth, BoundsNodeGrowth}
use Rattle.std.proofs.lemmas.List.{length-set}
use Rattle.prefix_trie_table.specs.OwnBlocks.{child_block_size, value_block_size}
use Rattle.prefix_trie_table.proofs.Tree.Invariant.{some_table}
use Rattle.prefix_trie_table.proofs.Strings.BitLists.{rank-zero-all}
use Rattle.prefix_trie_table.proofs.Tree.Trees.{listed_once}
use Rattle.prefix_trie_table.proofs.Strings.PathSums.{sum_lacking}
use Rattle.prefix_trie_table.proofs.Counts.NodeCounts.{weight, slots_by_path}
use Rattle.prefix_trie_table.proofs.Strings.PathStrings.{paths_counted}
use Rattle.prefix_trie_table.proofs.Tree.Shapes.{shape_nodes}

-- ---- the sizes below a tier

headroom-most : (size : ℕ) → headroom size ≤ 55
unfolding headroom
headroom-most size =
    let both = sum_by-filter_both (λ n. nat_lt n size) (λ n. not (nat_lt n size)) (λ n. refl) (λ n. n) smaller_sizes in
    omega (arith, both)

if_any-most : (o : Option ℕ) → headroom_if_any o ≤ 55
if_any-most None = omega arith
if_any-most (Some size) = headroom-most size

-- a blank node has no block
pub no_children : child_headroom blank_node ≡ 0
no_children = ap (λ n. headroom_if_any (size_if_any n (size_in node_sizes 0))) rank-zero-all

pub no_own_values : value_headroom blank_node ≡ 0
no_own_values = ap (λ n. headroom_if_any (size_if_any n (size_in cell_sizes 0))) rank-zero-all

-- ---- one after another

pub bounds_growth_none : (v : Store Node) (long : ℕ) → BoundsGrowthBy v v long long
bounds_growth_none v long = record { nodes = omega arith; cells = omega arith }

pub bounds_growth_then : (v v2 v3 : Store Node) (a b c : ℕ) → BoundsGrowthBy v v2 a b → BoundsGrowthBy v2 v3 b c → BoundsGrowthBy v v3 a c
bounds_growth_then v v2 v3 a b c one two = record {
  nodes = (let x = one.nodes in let y = two.nodes in omega (arith, x, y));
  cells = (let x = one.cells in let y = two.cells in omega (arith, x, y));
}

-- the nodes alone
pub bounds_growth_nodes : (v v2 : Store Node) (long : ℕ) → BoundsNodeGrowth v v2 → BoundsGrowthBy v v2 long long
bounds_growth_nodes v v2 long one = record { nodes = one.nodes; cells = (let x = one.cells in omega (arith, x)) }

-- ---- a value is gone

-- the node in a slot was written over by one with the same children, whose values' block is no larger
pub value_bounds_growth : {T : Type 0} (v v2 : Store Node) (w w2 : Store (Option T)) (slot : ℕ) (k m : Node) → k ≡ node_at v.slots slot → slot < length v.slots →
    v2 ≡ record v { slots = set v.slots slot m } → child_block_size (Some m) ≡ child_block_size (Some k) →
    length w2.slots + value_headroom m ≤ length w.slots + value_headroom k → BoundsGrowth v v2 w w2
value_bounds_growth v v2 w w2 slot k m read inside v2_is same shrunk =
    let children = sum_by-set child_headroom v.slots slot m blank_node inside in
    let values = sum_by-set value_headroom v.slots slot m blank_node inside in
    let long = length-set v.slots slot m in
    let child_is : child_headroom (node_at v.slots slot) ≡ child_headroom m = ap child_headroom (sym read) ∙ ap headroom_if_any (sym same) in
    let value_is : value_headroom (node_at v.slots slot) ≡ value_headroom k = ap value_headroom (sym read) in
    subst (λ u. BoundsGrowth v u w w2) (sym v2_is) (record { nodes = omega (arith, children, long, child_is); cells = omega (arith, values, value_is, shrunk) })

-- ---- a child is gone

module _ (nodes : List ℕ → Option Node) (paths : List (List ℕ)) (v v2 : Store Node) (p : List ℕ) (c : ℕ) (n m leaf : Node)
    (hold : NodesHold node_sizes nodes paths v) (is : nodes p ≡ Some n) (below : nodes (p ++ c ∷ []) ≡ Some leaf)
    (later : NodesHold node_sizes (with_child_removed nodes p m c) (without (p ++ c ∷ []) paths) v2) where
  -- the sum over the slots changes by that node and loses the child
  dropped_sum : (f : Node → ℕ) → f blank_node ≡ 0 → sum_by f v2.slots + f n ≤ sum_by f v.slots + f m
  dropped_sum f none =
      let before = slots_by_path f none node_sizes nodes paths v hold in
      let after = slots_by_path f none node_sizes (with_child_removed nodes p m c) (without (p ++ c ∷ []) paths) v2 later in
      let change = sum_lacking (λ o. f (node_or_blank o)) nodes paths p c n m leaf is below (listed_once node_sizes nodes paths v hold p n is)
      (listed_once node_sizes nodes paths v hold (p ++ c ∷ []) leaf below) in
      omega (arith, before, after, change)

  -- the node n at p, now m, lost its child c, and its children's block is no larger
  pub child_bounds_growth : value_block_size (Some m) ≡ value_block_size (Some n) →
      length v2.slots + child_headroom m ≤ length v.slots + child_headroom n → BoundsNodeGrowth v v2
  child_bounds_growth same shrunk =
      let children = dropped_sum child_headroom no_children in
      let values = dropped_sum value_headroom no_own_values in
      let own : value_headroom m ≡ value_headroom n = ap headroom_if_any same in
      record { nodes = omega (arith, children, shrunk); cells = omega (arith, values, own) }

-- ---- what all nodes may still make

-- no node makes more than a block of each smaller size
headroom_bound : (f : Node → ℕ) → f blank_node ≡ 0 → ((n : Node) → f n ≤ 55) → (nodes : List ℕ → Option Node) (paths : List (List ℕ)) (v : Store Node) →
    NodesHold node_sizes nodes paths v → sum_by f v.slots ≤ 55 * length paths
headroom_bound f none few nodes paths v hold =
    let all = slots_by_path f none node_sizes nodes paths v hold in
    let most = sum_by-le (weight f none node_sizes nodes) 55 paths (each paths) in
    omega (arith, all, most)
  where
    each : (xs : List (List ℕ)) → All (λ q. weight f none node_sizes nodes q ≤ 55) xs
    each [] = All-nil (λ q. weight f none node_sizes nodes q ≤ 55)
    each (x ∷ xs) = All-cons (λ q. weight f none node_sizes nodes q ≤ 55) x xs (few (node_or_blank (nodes x))) (each xs)

-- there is a node if one is at a string
pub some_nodes : (n : Nodes) (s : List Bool) → has_node n s ≡ true → 0 < len n
some_nodes n s there = elim (cases_lt 0 (len n)) as (λ _. 0 < len n) [
  | inl more ↦ more
  | inr none ↦ absurd (false≢true (sym (ap (λ (m : Nodes). has_node m s) (empty_of_len n (omega (arith, none))) ∙ ap is_some (get-empty listing_cmp s)) ∙ there))
]

-- so such arrays grow by at most so many slots for each node that there was
pub bounded_space : {T : Type 0} (v v2 : Store Node) (w w2 : Store (Option T)) (count : ℕ) (s : State T) → IsTable v w count s → IsShapeOf v.slots w.slots s →
    BoundsGrowth v v2 w w2 → (length v2.slots ≤ length v.slots + 56 * len s.nodes) × (length w2.slots ≤ length w.slots + 56 * len s.nodes)
bounded_space v v2 w w2 count s is shaped bounds_growth =
    let t = some_table is in
    let children = headroom_bound child_headroom no_children (λ n. if_any-most (child_block_size (Some n))) t.reading t.paths v t.holds.hold in
    let values = headroom_bound value_headroom no_own_values (λ n. if_any-most (value_block_size (Some n))) t.reading t.paths v t.holds.hold in
    let number = paths_counted _ t.reading t.paths v t.holds.hold s.nodes (shape_nodes t.reading t.values t.paths v w t.holds s shaped) in
    let x = bounds_growth.nodes in
    let y = bounds_growth.cells in
    (omega (arith, children, number, x), omega (arith, values, number, y))
