-- What an insertion allocates and leaves.
use Rattle.prefix_trie_table.proofs.Prelude.{◌*◌, ◌≡◌, ℕ, ◌+◌, ◌<◌, ◌≤◌, inl, inr, Bool, false, cond, List, ◌∷◌, ◌++◌, length, get_or, Option, None, Some, IsSome, is_some, sym, ap, ◌∙◌, subst, arith, cases_Bool, smallest_size, Node, Reached, has_bit, rank, Tier, Store, Sound, UsedBlock, block, HasList, Keeps, SameSlots, tier_sizes, size_in, NodesHold, CellsHold, Deepest, has_value, blank_node, node_sizes, cell_sizes, chunks_of, IsLast, slot_at}
use Rattle.prefix_trie_table.proofs.Blocks.Soundness.{tier_of_block, first_place}
use Rattle.prefix_trie_table.proofs.Blocks.BySize.{smallest_there, node_sized, cell_sized, tiers_long}
use Rattle.prefix_trie_table.proofs.Strings.BitLists.{rank-more, rank-missing}
use Rattle.prefix_trie_table.proofs.Strings.Digits.{path-length, step-small}
use Rattle.prefix_trie_table.proofs.Tree.Trees.{reads, slot_holds, held_some}

-- free blocks that were made change nothing
pub nodes_prepared : (reading : List ℕ → Option Node) (paths : List (List ℕ)) (v x : Store Node) → NodesHold node_sizes reading paths v →
    Keeps v x → SameSlots v x → ((live : List (UsedBlock Node)) → Sound blank_node live v → Sound blank_node live x) → NodesHold node_sizes reading paths x
nodes_prepared reading paths v x hold keeps same sound = record {
  rooted = hold.rooted ∙ ap Some (sym (same 0 blank_node
      (let w = first_place blank_node _ v hold.sound in let f = hold.first_is in omega arith)));
  linked = hold.linked;
  listed = hold.listed;
  sound = sound _ hold.sound;
  first_is = keeps.first_is ∙ hold.first_is;
  sizes_are = keeps.sizes ∙ hold.sizes_are;
}

-- and the values that they held
pub cells_prepared : {T : Type 0} (reading : List ℕ → Option Node) (values : List ℕ → ℕ → Option T) (paths : List (List ℕ)) (w x : Store (Option T)) →
    CellsHold cell_sizes reading values paths w → Keeps w x → ((live : List (UsedBlock (Option T))) → Sound None live w → Sound None live x) →
    CellsHold cell_sizes reading values paths x
cells_prepared reading values paths w x cells keeps sound = record {
  set_where = cells.set_where;
  sound = sound _ cells.sound;
  sizes_are = keeps.sizes ∙ cells.sizes_are;
  within = cells.within;
}

-- the tier of a list that has items
pub list_tier : {S : Type 0} (vacant : S) (v : Store S) (k start count : ℕ) → HasList vacant v k start count → 0 < count → k < length v.tiers
list_tier {S} vacant v k start count h some =
    let s : Sound vacant (block k start h.size h.items ∷ h.live) v = subst (λ bs. Sound vacant (bs ++ h.live) v) (held_some k start h.size h.items (let e = h.is_count in omega arith)) h.sound in
    (tier_of_block vacant (block k start h.size h.items) h.live v s).within

-- some block holds one child more
pub node_fits : (ts : List Tier) (count : ℕ) → tier_sizes ts ≡ node_sizes → count ≤ 32 → IsSome (smallest_size (tier_sizes ts) count)
node_fits ts count e few =
    let top : size_in (tier_sizes ts) 6 ≡ 32 = ap (λ ns. size_in ns 6) e in
    ap is_some (smallest_there ts count 6 (node_sized ts e) (let l = tiers_long ts node_sizes e in omega (arith, l)) (omega (arith, top, few))).found

-- some block holds one value more
pub cell_fits : (ts : List Tier) (count : ℕ) → tier_sizes ts ≡ cell_sizes → count ≤ 31 → IsSome (smallest_size (tier_sizes ts) count)
cell_fits ts count e few =
    let top : size_in (tier_sizes ts) 6 ≡ 31 = ap (λ ns. size_in ns 6) e in
    ap is_some (smallest_there ts count 6 (cell_sized ts e) (let l = tiers_long ts cell_sizes e in omega (arith, l)) (omega (arith, top, few))).found

-- a node without this value has a free bit for it
pub few_values : {T : Type 0} (reading : List ℕ → Option Node) (values : List ℕ → ℕ → Option T) (paths : List (List ℕ)) (w : Store (Option T))
    (p : List ℕ) (n : Node) (b : ℕ) → CellsHold cell_sizes reading values paths w → reading p ≡ Some n → b < 31 → has_bit n.value_bitmap b ≡ false →
    rank n.value_bitmap 32 < 31
few_values reading values paths w p n b cells is small some_missing =
    let m : ℕ = n.value_bitmap in
    let last : has_bit n.value_bitmap 31 ≡ false = (elim (cases_Bool (has_bit n.value_bitmap 31)) as (λ _. has_bit n.value_bitmap 31 ≡ false) [
      | inl e ↦ absurd (let h : 31 < 31 = cells.within p 31 (cells.set_where p 31 ∙ ap (λ o. has_value o 31) is ∙ e) in omega arith)
      | inr e ↦ e
    ]) in
    let less : rank m 31 < 31 = rank-missing m 31 b small some_missing in
    let up : rank m 32 ≡ rank m 31 + cond (has_bit m 31) 1 0 = rank-more m 31 in
    let none : ◌≡◌ {A = ℕ} (cond (has_bit m 31) 1 0) 0 = ap (λ s. cond s 1 0) last in
    omega (arith, less, up, none)

module _ (q : List Bool) (here : Reached) (v : Store Node) (at : IsLast q here v) where
  -- the last node on a search path is still the last if the nodes are the same
  pub last_still : (x : Store Node) (reading : List ℕ → Option Node) (paths : List (List ℕ)) → NodesHold node_sizes reading paths v → NodesHold node_sizes reading paths x → IsLast q here x
  last_still x reading paths hold later =
      let deep = at.along.deepest reading paths hold in
      record {
        along = record {
          whole = at.along.whole;
          node_is = at.along.node_is ∙ (slot_holds node_sizes reading paths v hold _ (slot_at here) deep.node deep.is_there deep.is).0
              ∙ sym (slot_holds node_sizes reading paths x later _ (slot_at here) deep.node deep.is_there deep.is).0;
          deepest = λ other ps h.
              let same : reading ≡ other = (λ i p. (sym (reads node_sizes reading paths x later p) ∙ reads node_sizes other ps x h p) i) in
              subst (λ f. Deepest f (chunks_of q) here.level (slot_at here) x) same (record { node = deep.node; is_there = deep.is_there; is = deep.is });
        };
        missing = at.missing;
      }

  -- a node without this child has a free bit for it
  pub few_children : 5 * here.level + 5 ≤ length q → rank here.node.child_bitmap 32 < 32
  few_children more =
      rank-missing here.node.child_bitmap 32 (get_or (chunks_of q) here.level 0) (step-small q here.level (omega (arith, path-length q, more))) (at.missing more)
