-- The sizes of blocks by string bound how far the arrays may grow while items are removed.
use Rattle.prefix_trie_table.proofs.Prelude.{◌≡◌, ℕ, ◌+◌, ◌≤◌, List, length, sum_by, Option, None, Some, refl, sym, ap, ◌∙◌, arith, Sizes, Node, blank_node, node_sizes, Store, node_or_blank, NodesHold, SomeTable, Sized, child_block_size, value_block_size, headroom, headroom_if_any, headroom_of, child_headroom, value_headroom, BoundsGrowth}
use Rattle.prefix_trie_table.proofs.Counts.NodeCounts.{slots_by_path}
use Rattle.prefix_trie_table.proofs.Strings.PathStrings.{paths_steps, paths_once}
use Rattle.prefix_trie_table.proofs.Removal.GrowthBounds.{no_children, no_own_values}
use Rattle.prefix_trie_table.proofs.Blocks.NodeLayouts.{sizes_at, sizes_sum, sizes_only}
use Rattle.prefix_trie_table.proofs.Blocks.SlotSums.{sum_by-same}

module _ (nodes : List ℕ → Option Node) (paths : List (List ℕ)) (v : Store Node) (hold : NodesHold node_sizes nodes paths v) where
  -- what the slots count is what the sizes do
  slots_headroom : (size : Option Node → Option ℕ) → size None ≡ None → headroom_if_any (size (Some blank_node)) ≡ 0 →
      sum_by (λ n. headroom_if_any (size (Some n))) v.slots ≡ headroom_of (sizes_at (λ p. size (nodes p)) paths)
  slots_headroom size missing blank =
      slots_by_path (λ n. headroom_if_any (size (Some n))) blank node_sizes nodes paths v hold
      ∙ sum_by-same (λ p. headroom_if_any (size (nodes p))) (λ p. headroom_if_any (size (Some (node_or_blank (nodes p))))) paths (λ p. same (nodes p))
      ∙ sym (sizes_sum headroom (λ p. size (nodes p)) paths (paths_steps node_sizes nodes paths v hold) (paths_once node_sizes nodes paths v hold))
    where
      same : (o : Option Node) → headroom_if_any (size (Some (node_or_blank o))) ≡ headroom_if_any (size o)
      same None = blank ∙ sym (ap headroom_if_any missing)
      same (Some n) = refl

-- so the headroom of all nodes is that of their sizes
module _ {T : Type 0} (v : Store Node) (w : Store (Option T)) (t : SomeTable v w) (z : Sized v.slots) where
  children_headroom : sum_by child_headroom v.slots ≡ headroom_of z.0
  children_headroom =
      slots_headroom t.reading t.paths v t.holds.hold child_block_size refl no_children
      ∙ ap headroom_of (sym (sizes_only node_sizes t.reading t.paths v t.holds.hold z).0)

  values_headroom : sum_by value_headroom v.slots ≡ headroom_of z.1.0
  values_headroom =
      slots_headroom t.reading t.paths v t.holds.hold value_block_size refl no_own_values
      ∙ ap headroom_of (sym (sizes_only node_sizes t.reading t.paths v t.holds.hold z).1)

-- such arrays grow by at most the headroom that is lost
module _ {T : Type 0} (v v2 : Store Node) (w w2 : Store (Option T)) (t : SomeTable v w) (t2 : SomeTable v2 w2)
    (z : Sized v.slots) (z2 : Sized v2.slots) (bounds_growth : BoundsGrowth v v2 w w2) where
  pub nodes_bounded : length v2.slots + headroom_of z2.0 ≤ length v.slots + headroom_of z.0
  nodes_bounded =
      let s = bounds_growth.nodes in
      omega (arith, s, children_headroom v w t z, children_headroom v2 w2 t2 z2)

  pub cells_bounded : length w2.slots + headroom_of z2.1.0 ≤ length w.slots + headroom_of z.1.0
  cells_bounded =
      let s = bounds_growth.cells in
      omega (arith, s, values_headroom v w t z, values_headroom v2 w2 t2 z2)

-- if no size changed, no headroom is lost, and an array keeps its length
pub still : (before after : ℕ) (old new : Sizes) → after + headroom_of new ≤ before + headroom_of old → before ≤ after → new ≡ old → after ≡ before
still before after old new settled longer same =
    let h : headroom_of new ≡ headroom_of old = ap headroom_of same in
    omega (arith, settled, longer, h)
