-- A table split along a bit string, as contracts see both parts.
use Rattle.prefix_trie_table.proofs.Prelude.{◌≡◌, ℕ, ◌+◌, ◌-◌, ◌<◌, ◌≤◌, Bool, List, Option, refl, sym, ap, ◌∙◌, subst, arith, len, IndexRange, no_layout, without_below, part_below, IsPacked, SplitsOffInStorage, needed, nodes_without_below, State, Reply, RemoveChildren, Clear, Done, Storage, StepByPath, split_laws, Node, node_sizes, read, NoneFree, Sized, Shaped, same_shape, IsSecond, Store, free_in, IsTable, IsTrie}
use Rattle.prefix_trie_table.proofs.Blocks.NodeLayouts.{storage_of}
use Rattle.prefix_trie_table.proofs.Moving.PackedBlocks.{is_packed}
use Rattle.prefix_trie_table.proofs.Tree.Invariant.{some_table}
use Rattle.prefix_trie_table.proofs.Tree.Shapes.{reads_node}
use Rattle.prefix_trie_table.proofs.Tree.Trees.{reads}

module _ {T : Type 0} where
  -- the two parts have the entries of the whole, each once
  pub parts_counted : (s : State T) (q : List Bool) → len (part_below s.entries q) + len (without_below s.entries q) ≡ len s.entries
  parts_counted s q =
      ((split_laws T).splits s q (record { entries = part_below s.entries q; nodes = needed (part_below s.entries q) })
      (record { entries = without_below s.entries q; nodes = nodes_without_below s.nodes s.entries q })
      (record { split_off = refl; split_nodes = refl; left = refl; left_nodes = refl })).number

  -- which gives the number of those that came to the second
  pub rest_counted : (width n count : ℕ) (v2 : Store Node) (w2 : Store (Option T)) (s : State T) (q : List Bool) →
      IsTrie width n v2 w2 (record { entries = without_below s.entries q; nodes = nodes_without_below s.nodes s.entries q }) → count ≡ len s.entries →
      (n ≤ count) × (len (part_below s.entries q) ≡ count - n)
  rest_counted width n count v2 w2 s q left all =
      let less = left.table.sized in (omega (arith, parts_counted s q, less, all), omega (arith, parts_counted s q, less, all))

  -- what contracts see of arrays is what they hold
  pub shape_seen : {width count : ℕ} {v : Store Node} {w : Store (Option T)} {s : State T} → IsTrie width count v w s → (z : Shaped v.slots w.slots) → z.0 ≡ s
  shape_seen {width} {count} {v} {w} {s} trie z = same_shape v.slots w.slots z.0 s z.1 trie.shaped

  pub table_seen : {width count : ℕ} {v : Store Node} {w : Store (Option T)} {s : State T} → IsTrie width count v w s → (z : Shaped v.slots w.slots) →
      IsTable v w count z.0
  table_seen {width} {count} {v} {w} {s} trie z = subst (λ (x : State T). IsTable v w count x) (sym (shape_seen trie z)) trie.table

  not_refused : ◌≡◌ {A = Reply (List Bool) T} Done (Reply.Refused IndexRange) → ⊥
  not_refused e = cc

  -- what is cleared after another step is as it would be without that
  pub clear_behind : (before between after : State T × Storage) → between.1.space.limit ≡ before.1.space.limit → 0 < before.1.space.node_slots →
      ((width : ℕ) → StepByPath width between Clear Done after) → (width : ℕ) → StepByPath width before Clear Done after
  clear_behind before between after limit some h width = record {
    step = (h width).step;
    space = record {
      same_limit = (h width).space.same_limit ∙ limit;
      nodes_within = (h width).space.nodes_within;
      cells_within = (h width).space.cells_within;
      nodes_grow = (let e = ap (λ (x : Storage). x.space.node_slots) (h width).storage in omega (arith, e, some));
      cells_grow = (let e = ap (λ (x : Storage). x.space.cell_slots) (h width).storage in omega (arith, e));
    };
    index_range = λ e. absurd (not_refused e);
    storage =
        (h width).storage
        ∙ ap (λ n. record { space = record { limit = n; node_slots = 1; cell_slots = 0 }; layout = no_layout }) limit;
  }

  -- the second part, and the step that leaves the first
  pub split_off_map : (before second after : State T × Storage) (q : List Bool) → ((width : ℕ) → StepByPath width before (RemoveChildren q) Done after) →
      second.0 ≡ record { entries = part_below before.0.entries q; nodes = needed (part_below before.0.entries q) } → IsPacked second.0 second.1 →
      second.1.space.limit ≡ before.1.space.limit → second.1.space.node_slots ≤ second.1.space.limit → second.1.space.cell_slots ≤ second.1.space.limit →
      SplitsOffInStorage before q second after
  split_off_map before second after q step is packed limit nodes cells =
      let entries : second.0.entries ≡ part_below before.0.entries q = ap (λ (x : State T). x.entries) is in
      record {
        splits_off = record {
          split_off = entries;
          split_nodes = ap (λ (x : State T). x.nodes) is ∙ ap (λ m. needed m) (sym entries);
          left = ap (λ (x : State T). x.entries) (step 0).step.1;
          left_nodes = ap (λ (x : State T). x.nodes) (step 0).step.1;
        };
        packed = packed;
        same_limit = limit;
        nodes_within = nodes;
        cells_within = cells;
        drops = step;
      }

  -- the second table's arrays, once all values have come
  module _ (width count : ℕ) (q : List Bool) (v built v2 : Store Node) (vacant w2 : Store (Option T)) (second : IsSecond q v built vacant) (s : State T)
      (trie : IsTrie width count v2 w2 s) (nodes : v2 ≡ built) (cells : w2 ≡ record vacant { slots = w2.slots }) where
    same_node : (p : List ℕ) → trie.table.reading p ≡ second.skeleton.reading p
    same_node p =
        let t = some_table trie.table in
        sym (reads_node t.reading t.values t.paths v2 w2 t.holds p) ∙ ap (λ (x : Store Node). read x.slots p) nodes
        ∙ reads node_sizes second.skeleton.reading second.skeleton.paths built second.skeleton.nodes p

    pub second_packed : (z : Sized v2.slots) → IsPacked s (storage_of v2 w2 z)
    second_packed z =
        let t = some_table trie.table in
        is_packed t.reading t.values t.paths v2 w2 t.holds (λ p n e. second.skeleton.part.packed p n (sym (same_node p) ∙ e))
        (subst (λ (x : Store Node). NoneFree x) (sym nodes) second.skeleton.no_node_free)
        (λ j. ap (λ (x : Store (Option T)). free_in x.tiers j) cells ∙ second.skeleton.no_cell_free j)
        trie.table.cells_first s trie.shaped z
