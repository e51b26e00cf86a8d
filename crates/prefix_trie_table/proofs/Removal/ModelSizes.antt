-- The sizes of blocks after a removal are those of the model.
use Rattle.prefix_trie_table.proofs.Prelude.{◌≡◌, ℕ, ◌*◌, ◌%◌, ◌≤◌, inl, inr, Bool, true, false, cond, ◌&&◌, List, length, take, Option, None, Some, is_some, refl, sym, ap, ◌∙◌, subst, arith, eq-eqb, cases_Bool, get, Sizes, StepsDown, SizesStepDown, StepsBetween, SizesStepBetween, value_block_sizes, child_block_sizes, own_entries, child_count, Nodes, has_node, is_node_depth, home, State, RemovesValueInStorage, PrunesInStorage, home-depth, and-first, same_entries, Node, node_sizes, cell_sizes, chunks_of, bit_of, NodesHold, Holds, SomeTable, has_bit, rank, has_child, has_value, own_count, read, with_value, AreSizesBy, Sized, own_children, child_block_size, value_block_size, EntryTaken, EntryRemoved, GrowsBy, MakesEntered, MakesFew, BlocksBetween, IsShapeOf, Shaped, Store, free_counts, IsTable, ForHeld}
use Rattle.std.proofs.lemmas.List.{length-take-le}
use Rattle.prefix_trie_table.proofs.Strings.SmallFacts.{fifths}
use Rattle.prefix_trie_table.proofs.Tree.Invariant.{some_table}
use Rattle.prefix_trie_table.proofs.Strings.BareBitmaps.{no_bit}
use Rattle.prefix_trie_table.proofs.Strings.BitLists.{rank-zero-all}
use Rattle.prefix_trie_table.proofs.Strings.Digits.{path-length, path-take}
use Rattle.prefix_trie_table.proofs.Counts.OwnCounts.{children_counted, values_counted}
use Rattle.prefix_trie_table.proofs.Removal.NodesLeft.{home_path, pruned_holds}
use Rattle.prefix_trie_table.proofs.Tree.Shapes.{shape_entries, shape_nodes}
use Rattle.prefix_trie_table.proofs.Removal.BlockSizes.{ValuesStep, ChildrenStep, steps_read, children_kept, taken_gone, taken_values, taken_children, drops_gone, drops_values, pruned_children, pruned_grows, grows_same, grows_not}
use Rattle.prefix_trie_table.proofs.Blocks.KeptBlocks.{blocks_made, blocks_at_most, nodes_cut, cells_cut}
use Rattle.prefix_trie_table.proofs.Blocks.NodeLayouts.{storage_of}
use Rattle.prefix_trie_table.proofs.Tree.Trees.{reads, is_none-None}

-- the size by the string of a node is that by its path
pub size_read : (size : Option Node → Option ℕ) (nodes : List Node) (f : List ℕ → Option Node) (m : Sizes) →
    AreSizesBy size nodes m → ((x : List ℕ) → read nodes x ≡ f x) → (p : List Bool) → is_node_depth p ≡ true → get m p ≡ size (f (chunks_of p))
size_read size nodes f m m_are reading_is p depth = m_are p ∙ ap (λ b. cond b (size (read nodes (chunks_of p))) None) depth ∙ ap size (reading_is (chunks_of p))

-- and at a string with this path
size_there : (size : Option Node → Option ℕ) (reading : List ℕ → Option Node) (paths : List (List ℕ)) (v : Store Node) → NodesHold node_sizes reading paths v →
    (m : Sizes) → AreSizesBy size v.slots m → (p : List Bool) (x : List ℕ) → is_node_depth p ≡ true → chunks_of p ≡ x → get m p ≡ size (reading x)
size_there size reading paths v hold m m_are p x depth path = size_read size v.slots reading m m_are (reads node_sizes reading paths v hold) p depth ∙ ap (λ q. size (reading q)) path

-- the sizes of blocks by the strings of nodes are related so, and no others are there
abbrev StepsAt : (ℕ → ℕ → Option ℕ → Option ℕ → Type 0) → Nodes → (List Bool → ℕ) → (List Bool → ℕ) → Sizes → Sizes → Type 0
StepsAt R n before after old new = ((p : List Bool) → has_node n p ≡ true → R (before p) (after p) (get old p) (get new p)) × ((p : List Bool) → has_node n p ≡ false → get new p ≡ None)

-- it is so if it is so for the sizes by paths
sizes_step : (size : Option Node → Option ℕ) (count : Option Node → ℕ) (R : ℕ → ℕ → Option ℕ → Option ℕ → Type 0) (reading later : List ℕ → Option Node) →
    ((x : List ℕ) → R (count (reading x)) (count (later x)) (size (reading x)) (size (later x))) → ((x : List ℕ) → reading x ≡ None → size (later x) ≡ None) →
    (v v2 : List Node) → ((x : List ℕ) → read v x ≡ reading x) → ((x : List ℕ) → read v2 x ≡ later x) →
    (n : Nodes) → ((p : List Bool) → has_node n p ≡ (is_node_depth p && is_some (reading (chunks_of p)))) → (before after : List Bool → ℕ) →
    ((p : List Bool) → is_node_depth p ≡ true → before p ≡ count (reading (chunks_of p))) →
    ((p : List Bool) → is_node_depth p ≡ true → after p ≡ count (later (chunks_of p))) →
    (old new : Sizes) → AreSizesBy size v old → AreSizesBy size v2 new → StepsAt R n before after old new
sizes_step size count R reading later step gone v v2 reads_old reads_new n are before after had has old new old_are new_are = (
  λ p there.
      let depth = and-first (is_node_depth p) (is_some (reading (chunks_of p))) (sym (are p) ∙ there) in
      steps_read R (had p depth) (has p depth) (size_read size v reading old old_are reads_old p depth)
      (size_read size v2 later new new_are reads_new p depth) (step (chunks_of p)),
  λ p some_missing. elim (cases_Bool (is_node_depth p)) as (λ _. get new p ≡ None) [
    | inl depth ↦
        size_read size v2 later new new_are reads_new p depth
        ∙ gone (chunks_of p) (is_none-None (reading (chunks_of p)) (sym (ap (λ b. b && is_some (reading (chunks_of p))) depth) ∙ sym (are p) ∙ some_missing))
    | inr other ↦ new_are p ∙ ap (λ b. cond b (size (read v2 (chunks_of p))) None) other
  ],
)

-- a number that is the rank of a bitmap with the bits of a node is the node's own number
by_bits : (own : Node → ℕ) (has : Option Node → ℕ → Bool) (count : Option Node → ℕ) → ((b : ℕ) → has None b ≡ false) → count None ≡ 0 →
    ((n : Node) (b : ℕ) → has (Some n) b ≡ has_bit (own n) b) → ((n : Node) → count (Some n) ≡ rank (own n) 32) → (o : Option Node) (number : ℕ) →
    ((bitmap : ℕ) → ((b : ℕ) → has o b ≡ has_bit bitmap b) → number ≡ rank bitmap 32) → number ≡ count o
by_bits own has count no_bits nothing bits_are counts None number is = is 0 (λ b. no_bits b ∙ sym (no_bit 0 b rank-zero-all)) ∙ rank-zero-all ∙ sym nothing
by_bits own has count no_bits nothing bits_are counts (Some n) number is = is (own n) (bits_are n) ∙ sym (counts n)

-- the counts of the model are those of the nodes
module _ {T : Type 0} (reading : List ℕ → Option Node) (values : List ℕ → ℕ → Option T) (paths : List (List ℕ)) (v : Store Node)
    (w : Store (Option T)) (holds : Holds reading values paths v w) (s : State T) (is : IsShapeOf v.slots w.slots s) where
  pub own_is : (p : List Bool) → is_node_depth p ≡ true → own_entries s.entries p ≡ own_count (reading (chunks_of p))
  own_is p depth =
      by_bits (λ n. n.value_bitmap) has_value own_count (λ b. refl) refl (λ n b. refl) (λ n. refl) (reading (chunks_of p)) (own_entries s.entries p)
      (values_counted node_sizes reading paths v holds.hold p depth values w cell_sizes holds.cells s.entries (shape_entries reading values paths v w holds s is))

  pub children_is : (p : List Bool) → is_node_depth p ≡ true → child_count s.nodes p ≡ own_children (reading (chunks_of p))
  children_is p depth =
      by_bits (λ n. n.child_bitmap) has_child own_children (λ c. refl) refl (λ n c. refl) (λ n. refl) (reading (chunks_of p)) (child_count s.nodes p)
      (children_counted node_sizes reading paths v holds.hold p depth s.nodes (shape_nodes reading values paths v w holds s is))

-- of two tables with sizes of blocks
module _ {T : Type 0} {v v2 : Store Node} {w w2 : Store (Option T)} (t : SomeTable v w) (t2 : SomeTable v2 w2) (s : Shaped v.slots w.slots)
    (s2 : Shaped v2.slots w2.slots) (z : Sized v.slots) (z2 : Sized v2.slots) (R : ℕ → ℕ → Option ℕ → Option ℕ → Type 0) where
  values_step : ((x : List ℕ) → R (own_count (t.reading x)) (own_count (t2.reading x)) (value_block_size (t.reading x)) (value_block_size (t2.reading x))) →
      ((x : List ℕ) → t.reading x ≡ None → value_block_size (t2.reading x) ≡ None) →
      StepsAt R s.0.nodes (own_entries s.0.entries) (own_entries s2.0.entries) z.1.0 z2.1.0
  values_step step gone =
      sizes_step value_block_size own_count R t.reading t2.reading step gone v.slots v2.slots (reads node_sizes t.reading t.paths v t.holds.hold)
      (reads node_sizes t2.reading t2.paths v2 t2.holds.hold) s.0.nodes (shape_nodes t.reading t.values t.paths v w t.holds s.0 s.1) _ _
      (own_is t.reading t.values t.paths v w t.holds s.0 s.1) (own_is t2.reading t2.values t2.paths v2 w2 t2.holds s2.0 s2.1) z.1.0 z2.1.0 z.1.1.1 z2.1.1.1

  children_step : ((x : List ℕ) → R (own_children (t.reading x)) (own_children (t2.reading x)) (child_block_size (t.reading x)) (child_block_size (t2.reading x))) →
      ((x : List ℕ) → t.reading x ≡ None → child_block_size (t2.reading x) ≡ None) →
      StepsAt R s.0.nodes (child_count s.0.nodes) (child_count s2.0.nodes) z.0 z2.0
  children_step step gone =
      sizes_step child_block_size own_children R t.reading t2.reading step gone v.slots v2.slots (reads node_sizes t.reading t.paths v t.holds.hold)
      (reads node_sizes t2.reading t2.paths v2 t2.holds.hold) s.0.nodes (shape_nodes t.reading t.values t.paths v w t.holds s.0 s.1) _ _
      (children_is t.reading t.values t.paths v w t.holds s.0 s.1) (children_is t2.reading t2.values t2.paths v2 w2 t2.holds s2.0 s2.1) z.0 z2.0 z.1.1.0 z2.1.1.0

-- what a removal at a path leaves, by path
record Left {T : Type 0} (reading : List ℕ → Option Node) (path : List ℕ) (v : Store Node) (w : Store (Option T)) (v2 : Store Node) (w2 : Store (Option T)) : Type 0 where
  pub now : SomeTable v2 w2
  pub gone : (x : List ℕ) → reading x ≡ None → now.reading x ≡ None
  pub values : (x : List ℕ) → ValuesStep (free_counts w.tiers) (reading x) (now.reading x)
  pub children : (x : List ℕ) → ChildrenStep (free_counts v.tiers) (reading x) (now.reading x)
  pub of_cells : GrowsBy MakesEntered cell_sizes w w2 (value_block_size (reading path)) (value_block_size (now.reading path))
  pub stop : ℕ
  pub stop_within : stop ≤ length path
  pub of_nodes : GrowsBy MakesFew node_sizes v v2 (child_block_size (reading (take stop path))) (child_block_size (now.reading (take stop path)))

module _ {T : Type 0} (reading : List ℕ → Option Node) (values : List ℕ → ℕ → Option T) (paths : List (List ℕ)) (v : Store Node)
    (w : Store (Option T)) (holds : Holds reading values paths v w) (key : List Bool) (v2 : Store Node) (w2 : Store (Option T)) where
  left_taken : EntryTaken reading paths values (chunks_of key) (bit_of key) v2 w w2 → length v2.slots ≡ length v.slots → v2.tiers ≡ v.tiers →
      Left reading (chunks_of key) v w v2 w2
  left_taken t long tiers = record {
    now = record { reading = t.later; values = with_value values (chunks_of key) (bit_of key) None; paths = paths; holds = t.holds };
    gone = taken_gone reading paths values (chunks_of key) (bit_of key) v2 w w2 t;
    values = taken_values reading paths values (chunks_of key) (bit_of key) v2 w w2 t;
    children = λ x. children_kept (free_counts v.tiers) (reading x) (t.later x)
        (taken_children reading paths values (chunks_of key) (bit_of key) v2 w w2 t x);
    of_cells = t.shrinks.grows;
    stop = 0;
    stop_within = omega arith;
    of_nodes = grows_not node_sizes v v2 _ _ tiers long;
  }

  left_removed : (s : State T) → IsShapeOf v.slots w.slots s → EntryRemoved reading paths values (chunks_of key) (bit_of key) v w v2 w2 →
      Left reading (chunks_of key) v w v2 w2
  left_removed s is (inl (missing, same, t)) = left_taken t (ap (λ (x : Store Node). length x.slots) same) (ap (λ (x : Store Node). x.tiers) same)
  left_removed s is (inr (u, there, t, p, blocks)) = record {
    now = record { reading = p.to.later; values = with_value values (chunks_of key) (bit_of key) None; paths = p.to.left; holds = pruned_holds key reading values paths v w holds s is there u v2 w2 t p };
    gone = λ x e. drops_gone t.later paths p.to.later p.to.left p.to.drops x
        (taken_gone reading paths values (chunks_of key) (bit_of key) u w w2 t x e);
    values = λ x.
        let same = drops_values t.later paths p.to.later p.to.left p.to.drops x in
        steps_read (StepsDown cell_sizes (free_counts w.tiers)) refl same.0 refl same.1
        (taken_values reading paths values (chunks_of key) (bit_of key) u w w2 t x);
    children = λ x.
        let same = taken_children reading paths values (chunks_of key) (bit_of key) u w w2 t x in
        steps_read (StepsDown node_sizes (free_counts v.tiers)) (sym same.0) refl (sym same.1) refl
        (subst (λ ts. ChildrenStep (free_counts ts) (t.later x) (p.to.later x)) blocks.tiers
        (pruned_children t.later paths (chunks_of key) p.level p.node u v2 p.to x).0);
    of_cells =
        subst (λ o. GrowsBy MakesEntered cell_sizes w w2 (value_block_size (reading (chunks_of key))) o)
        (sym (drops_values t.later paths p.to.later p.to.left p.to.drops (chunks_of key)).1)
        t.shrinks.grows;
    stop = p.level;
    stop_within = p.to.within;
    of_nodes =
        let path = take p.level (chunks_of key) in
        subst (λ o. GrowsBy MakesFew node_sizes v v2 o (child_block_size (p.to.later path)))
        (taken_children reading paths values (chunks_of key) (bit_of key) u w w2 t path).1
        (grows_same node_sizes u v v2 _ _ blocks.tiers blocks.space.0 (pruned_grows t.later paths (chunks_of key) p.level p.node u v2 p.to));
  }

-- the sizes of the blocks of a table
module _ {T : Type 0} (key : List Bool) (v v2 : Store Node) (w w2 : Store (Option T)) (count : ℕ) (s : Shaped v.slots w.slots) (z : Sized v.slots)
    (is : IsTable v w count s.0) (s2 : Shaped v2.slots w2.slots) (z2 : Sized v2.slots) where
  values_left : Left is.reading (chunks_of key) v w v2 w2 →
      SizesStepDown value_block_sizes (free_counts w.tiers) s.0.nodes (own_entries s.0.entries) (own_entries s2.0.entries) z.1.0 z2.1.0
  values_left l =
      let h = values_step (some_table is) l.now s s2 z z2 (StepsDown cell_sizes (free_counts w.tiers)) l.values (λ x e. ap value_block_size (l.gone x e)) in
      record { at_nodes = h.0; elsewhere = h.1 }

  children_left : Left is.reading (chunks_of key) v w v2 w2 →
      SizesStepDown child_block_sizes (free_counts v.tiers) s.0.nodes (child_count s.0.nodes) (child_count s2.0.nodes) z.0 z2.0
  children_left l =
      let h = children_step (some_table is) l.now s s2 z z2 (StepsDown node_sizes (free_counts v.tiers)) l.children (λ x e. ap child_block_size (l.gone x e)) in
      record { at_nodes = h.0; elsewhere = h.1 }

  cells_grow : Left is.reading (chunks_of key) v w v2 w2 →
      GrowsBy MakesEntered value_block_sizes w w2 (get z.1.0 (home key)) (get z2.1.0 (home key))
  cells_grow l =
      let t = some_table is in
      let depth : is_node_depth (home key) ≡ true = eq-eqb (length (home key) % 5) 0 (home-depth key) in
      steps_read {c = 0} {d = 0} (λ _ _ o n. GrowsBy MakesEntered value_block_sizes w w2 o n) refl refl
      (size_there value_block_size t.reading t.paths v t.holds.hold z.1.0 z.1.1.1 (home key) (chunks_of key) depth (home_path key))
      (size_there value_block_size l.now.reading l.now.paths v2 l.now.holds.hold z2.1.0 z2.1.1.1 (home key) (chunks_of key) depth (home_path key)) l.of_cells

  nodes_grow : Left is.reading (chunks_of key) v w v2 w2 →
      (p : List Bool) × GrowsBy MakesFew child_block_sizes v v2 (get z.0 p) (get z2.0 p)
  nodes_grow l =
      let t = some_table is in
      let p : List Bool = take (5 * l.stop) key in
      let inside : 5 * l.stop ≤ length key = fifths (length key) l.stop (length (chunks_of key)) l.stop_within (path-length key) in
      let depth : is_node_depth (take (5 * l.stop) key) ≡ true = eq-eqb (length (take (5 * l.stop) key) % 5) 0 (whole l.stop (length (take (5 * l.stop) key)) (length-take-le (5 * l.stop) key inside)) in
      let path : chunks_of (take (5 * l.stop) key) ≡ take l.stop (chunks_of key) = path-take l.stop key inside in (
        p,
        steps_read {c = 0} {d = 0} (λ _ _ o n. GrowsBy MakesFew child_block_sizes v v2 o n) refl refl
            (size_there child_block_size t.reading t.paths v t.holds.hold z.0 z.1.1.0 (take (5 * l.stop) key) (take l.stop (chunks_of key)) depth path)
            (size_there child_block_size l.now.reading l.now.paths v2 l.now.holds.hold z2.0 z2.1.1.0 (take (5 * l.stop) key) (take l.stop (chunks_of key)) depth path) l.of_nodes,
      )
    where
      whole : (k n : ℕ) → n ≡ 5 * k → n % 5 ≡ 0
      whole k n e = omega (arith, e)

  -- the array of values as the model has it
  removes_in : SomeTable v2 w2 → Left is.reading (chunks_of key) v w v2 w2 → RemovesValueInStorage s.0 s2.0 key (storage_of v w z) (storage_of v2 w2 z2)
  removes_in later l =
      let grows = cells_grow l in
      record {
        value_blocks = values_left l;
        cells_longer = grows.longer;
        value_blocks_made = blocks_made cell_sizes w w2 z.1.0 z2.1.0 (cells_cut v w (some_table is) z) (cells_cut v2 w2 later z2) _ grows.made;
      }

  -- and the array of nodes
  prunes_in : SomeTable v2 w2 → Left is.reading (chunks_of key) v w v2 w2 → PrunesInStorage s.0 s2.0 (storage_of v w z) (storage_of v2 w2 z2)
  prunes_in later l =
      let grows = nodes_grow l in
      record {
        child_blocks = children_left l;
        nodes_longer = (
          grows.0,
          grows.1.longer,
          blocks_at_most node_sizes v v2 z.0 z2.0 (nodes_cut v w (some_table is) z) (nodes_cut v2 w2 later z2) _ grows.1.made,
        );
      }

  -- if the nodes stay
  module _ (taken : ForHeld v w (λ reading paths values. EntryTaken reading paths values (chunks_of key) (bit_of key) v2 w w2))
      (long : length v2.slots ≡ length v.slots) (tiers : v2.tiers ≡ v.tiers) where
    abbrev took : EntryTaken is.reading is.paths is.values (chunks_of key) (bit_of key) v2 w w2
    took = taken is.reading is.paths is.values (some_table is).holds

    pub kept_in : SomeTable v2 w2 → RemovesValueInStorage s.0 s2.0 key (storage_of v w z) (storage_of v2 w2 z2)
    kept_in later = (let t = some_table is in removes_in later (left_taken t.reading t.values t.paths v w t.holds key v2 w2 took long tiers))

    pub kept_children : z2.0 ≡ z.0
    kept_children =
        let t = some_table is in
        same_entries z2.0 z.0 (λ p.
        z2.1.1.0 p
        ∙ ap (λ o. cond (is_node_depth p) o None)
        (ap child_block_size (reads node_sizes took.later t.paths v2 took.holds.hold (chunks_of p))
        ∙ (taken_children t.reading t.paths t.values (chunks_of key) (bit_of key) v2 w w2 took (chunks_of p)).1
        ∙ ap child_block_size (sym (reads node_sizes t.reading t.paths v t.holds.hold (chunks_of p))))
        ∙ sym (z.1.1.0 p))

  -- if the path is pruned
  module _ (done : ForHeld v w (λ reading paths values. EntryRemoved reading paths values (chunks_of key) (bit_of key) v w v2 w2)) where
    removed_left : Left is.reading (chunks_of key) v w v2 w2
    removed_left =
        let t = some_table is in
        left_removed t.reading t.values t.paths v w t.holds key v2 w2 s.0 s.1 (done t.reading t.paths t.values t.holds)

    pub removed_in : SomeTable v2 w2 → RemovesValueInStorage s.0 s2.0 key (storage_of v w z) (storage_of v2 w2 z2)
    removed_in later = removes_in later removed_left

    pub pruned_in : SomeTable v2 w2 → PrunesInStorage s.0 s2.0 (storage_of v w z) (storage_of v2 w2 z2)
    pruned_in later = prunes_in later removed_left

-- ---- if several values are removed

module _ {T : Type 0} (v v2 : Store Node) (w w2 : Store (Option T)) (s : Shaped v.slots w.slots) (z : Sized v.slots) (t : SomeTable v w)
    (s2 : Shaped v2.slots w2.slots) (z2 : Sized v2.slots) (t2 : SomeTable v2 w2) (steps : (x : List ℕ) → BlocksBetween (read v.slots x) (read v2.slots x)) where
  by_path : (x : List ℕ) → BlocksBetween (t.reading x) (t2.reading x)
  by_path x =
      subst (λ o. BlocksBetween o (t2.reading x)) (reads node_sizes t.reading t.paths v t.holds.hold x)
      (subst (BlocksBetween (read v.slots x)) (reads node_sizes t2.reading t2.paths v2 t2.holds.hold x) (steps x))

  -- a list that is empty has no block later
  none_later : (sizes : List ℕ) (count later : ℕ) (old new : Option ℕ) → StepsBetween sizes count later old new → count ≡ 0 → new ≡ None
  none_later sizes count later old new step zero = (let fewer = step.fewer in step.none (omega (arith, fewer, zero)))

  pub retained_values : SizesStepBetween value_block_sizes s.0.nodes (own_entries s.0.entries) (own_entries s2.0.entries) z.1.0 z2.1.0
  retained_values =
      let h = values_step t t2 s s2 z z2 (StepsBetween cell_sizes) (λ x. (by_path x).values) (λ x e. none_later cell_sizes _ _ _ _ (by_path x).values (ap own_count e)) in
      record { at_nodes = h.0; elsewhere = h.1 }

  pub retained_children : SizesStepBetween child_block_sizes s.0.nodes (child_count s.0.nodes) (child_count s2.0.nodes) z.0 z2.0
  retained_children =
      let h = children_step t t2 s s2 z z2 (StepsBetween node_sizes) (λ x. (by_path x).children) (λ x e. none_later node_sizes _ _ _ _ (by_path x).children (ap own_children e)) in
      record { at_nodes = h.0; elsewhere = h.1 }
