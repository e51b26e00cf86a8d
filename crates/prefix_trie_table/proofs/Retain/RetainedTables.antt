-- What the table is after a test was called at a place of a node: for `retain`.
use Rattle.prefix_trie_table.proofs.Prelude.{◌≡◌, ℕ, ◌+◌, ◌-◌, ◌*◌, ◌/◌, ◌%◌, ◌<◌, ◌≤◌, Bool, true, ◌==◌, List, [], ◌++◌, length, take, drop, Option, None, Some, is_some, refl, sym, ap, ap₂, ◌∙◌, subst, arith, inl, inr, eqb-true, get, false≢true, true_from_ne_false, begins, begins-rest, has, value_bit, without_entry, AreNodes, has_node, is_node_depth, State, and-first, and-second, needed_for, AreNodes-without_entry, removed_fewer, value_bit-small, Node, Site, has_bit, node_at, node_sizes, cell_sizes, chunks_of, bit_of, Store, read, value_of, has_value, one_if, Holds, SomeTable, IsSlot, NodesHold, CellsHold, SomeNodes, IsNodeAt, with_node, ValueTaken, EntryTaken, IsShapeOf, ForHeld, Grows, IsSite, BlocksBetween, IsTrie}
use Rattle.std.proofs.lemmas.List.{length-take-le}
use Rattle.prefix_trie_table.proofs.Strings.SmallFacts.{both_true}
use Rattle.prefix_trie_table.proofs.Tree.Invariant.{some_table, some_nodes}
use Rattle.prefix_trie_table.proofs.Removal.SizeBounds.{taken_between}
use Rattle.prefix_trie_table.proofs.Removal.Pruning.{slot_stays}
use Rattle.prefix_trie_table.proofs.Strings.Bits.{has_bit-is}
use Rattle.prefix_trie_table.proofs.Tree.Children.{with_here, with_other}
use Rattle.prefix_trie_table.proofs.Removal.OneEntry.{value_taken, kept_without}
use Rattle.prefix_trie_table.proofs.Lookup.Descents.{steps-all}
use Rattle.prefix_trie_table.proofs.Strings.ChunkPlaces.{below_node}
use Rattle.prefix_trie_table.proofs.Tree.Shapes.{reads_node, shape_entries}
use Rattle.prefix_trie_table.proofs.Tree.Subtrees.{path-append, read-missing}
use Rattle.prefix_trie_table.proofs.Tree.Trees.{is_none-None, read-nil, reads, slot_holds}

-- ---- nodes and their slots

-- if a node exists, so do those above it
pub read_up : (nodes : List Node) (q k : List Bool) → length q % 5 ≡ 0 → begins q k ≡ true → is_some (read nodes (chunks_of k)) ≡ true → is_some (read nodes (chunks_of q)) ≡ true
read_up nodes q k whole begun there = true_from_ne_false (is_some (read nodes (chunks_of q))) (λ miss.
    let search_path : chunks_of k ≡ chunks_of q ++ chunks_of (drop (length q) k) = ap chunks_of (begins-rest q k begun) ∙ path-append q (drop (length q) k) whole in
    false≢true (sym (ap is_some (ap (read nodes) search_path ∙ read-missing nodes (chunks_of q) (chunks_of (drop (length q) k)) (is_none-None (read nodes (chunks_of q)) miss))) ∙ there))

module _ {T : Type 0} where
  -- a value is in a node that exists
  pub value_reads : (cells : List (Option T)) (o : Option Node) (b : ℕ) → is_some (value_of cells o b) ≡ true → is_some o ≡ true
  value_reads cells None b h = h
  value_reads cells (Some n) b h = refl

  -- the nodes of an array can be those of a map
  pub are_nodes : (width : ℕ) (v : Store Node) (w : Store (Option T)) (s : State T) → IsShapeOf v.slots w.slots s →
      ((q : List Bool) → has_node s.nodes q ≡ true → length q ≤ width) → AreNodes width s.entries s.nodes
  are_nodes width v w s is within = record {
    within = within;
    depths = λ q there. depth q there;
    rooted = is.0 [] ∙ ap is_some (read-nil v.slots);
    closed = λ q k there begun whole. stand q whole (read_up v.slots q k whole begun (and-second (is_node_depth k) (is_some (read v.slots (chunks_of k))) (sym (is.0 k) ∙ there)));
    hold_needed = λ q h. elim (needed_for s.entries q h) as (λ _. has_node s.nodes q ≡ true) [
      | inl root ↦ ap (has_node s.nodes) root ∙ is.0 [] ∙ ap is_some (read-nil v.slots)
      | inr reason ↦
          stand q reason.five (read_up v.slots q reason.key reason.five reason.begins_it
          (value_reads w.slots (read v.slots (chunks_of reason.key)) (bit_of reason.key) (sym (ap is_some (is.1 reason.key)) ∙ reason.stored)))
    ];
  }
    where
      depth : (q : List Bool) → has_node s.nodes q ≡ true → length q % 5 ≡ 0
      depth q there = eqb-true (length q % 5) 0 (and-first (is_node_depth q) (is_some (read v.slots (chunks_of q))) (sym (is.0 q) ∙ there))

      stand : (q : List Bool) → length q % 5 ≡ 0 → is_some (read v.slots (chunks_of q)) ≡ true → has_node s.nodes q ≡ true
      stand q whole there = is.0 q ∙ both_true (is_node_depth q) (is_some (read v.slots (chunks_of q))) (ap (λ k. k == 0) whole) there

  -- the nodes and values that the array itself gives are those that it holds
  pub read_held : (reading : List ℕ → Option Node) (values : List ℕ → ℕ → Option T) (paths : List (List ℕ)) (v : Store Node) (w : Store (Option T)) →
      Holds reading values paths v w → Holds (read v.slots) values paths v w
  read_held reading values paths v w holds = subst (λ (f : List ℕ → Option Node). Holds f values paths v w) (λ i q. sym (reads_node reading values paths v w holds q) i) holds

-- ---- the current node

module _ {K : Type 0} (IsKey : K → Type 0) (bits : K → List Bool) (width : ℕ) (v : Store Node) (p : Site K) (n : Node) (at : IsSite IsKey bits width v p n)
    (long : length (bits p.key) ≡ width) where
  pub here_length : length (take p.depth (bits p.key)) ≡ p.depth
  here_length = let w = at.within in length-take-le p.depth (bits p.key) (omega (arith, w, long))

  pub here_whole : length (take p.depth (bits p.key)) % 5 ≡ 0
  here_whole = let d = at.depth_is in omega (arith, d, here_length)

  pub here_levels : length (take p.depth (bits p.key)) ≡ 5 * (p.depth / 5)
  here_levels = let d = at.depth_is in omega (arith, d, here_length)

  pub path_levels : length (chunks_of (take p.depth (bits p.key))) ≡ p.depth / 5
  path_levels = let w = at.within in steps-all (bits p.key) p.depth (omega (arith, w, long))

  -- the current node stays the current node if the nodes above it stay
  pub site_stays : (v2 : Store Node) (m : Node) → ((q : List ℕ) → length q < p.depth / 5 → read v2.slots q ≡ read v.slots q) →
      read v2.slots (chunks_of (take p.depth (bits p.key))) ≡ Some m → IsSite IsKey bits width v2 p m
  site_stays v2 m above is_there = record {
    key = at.key;
    level = at.level;
    depth_is = at.depth_is;
    within = at.within;
    is_there = is_there;
    slot_is =
        slot_stays (read v.slots) (read v2.slots) (chunks_of (take p.depth (bits p.key))) p.slot
        (λ q less. above q (omega (arith, less, path_levels))) at.slot_is;
  }

  module _ {T : Type 0} (count : ℕ) (w : Store (Option T)) (s : State T) (trie : IsTrie width count v w s) where
    abbrev held_table : SomeTable v w
    held_table = some_table trie.table

    pub read_table : Holds (read v.slots) held_table.values held_table.paths v w
    read_table = read_held held_table.reading held_table.values held_table.paths v w held_table.holds

    pub site_holds : (node_at v.slots p.slot ≡ n) × (p.slot < length v.slots)
    site_holds =
        slot_holds node_sizes (read v.slots) held_table.paths v read_table.hold (chunks_of (take p.depth (bits p.key))) p.slot n at.slot_is at.is_there

    pub site_values : (t : SomeTable v w) × IsNodeAt t.reading p.slot
    site_values = (
      record { reading = read v.slots; values = held_table.values; paths = held_table.paths; holds = read_table },
      record { path = chunks_of (take p.depth (bits p.key)); node = n; is_there = at.slot_is; is = at.is_there },
    )

    pub site_node : (t : SomeNodes v) × IsNodeAt t.reading p.slot
    site_node = (some_nodes site_values.0, site_values.1)

    -- ---- a value there

    module _ (t : List Bool) (short : length t ≤ 4) (set : has n.value_bitmap (value_bit t) ≡ true) where
      pub key_path : chunks_of (take p.depth (bits p.key) ++ t) ≡ chunks_of (take p.depth (bits p.key))
      key_path = (below_node (p.depth / 5) (take p.depth (bits p.key)) t here_levels short).0

      pub key_bit : bit_of (take p.depth (bits p.key) ++ t) ≡ value_bit t
      key_bit = ap value_bit (below_node (p.depth / 5) (take p.depth (bits p.key)) t here_levels short).1

      pub bit_set : has_bit n.value_bitmap (value_bit t) ≡ true
      bit_set = let h = value_bit-small t short in has_bit-is n.value_bitmap (value_bit t) (omega (arith, h)) ∙ set

      module _ (reading : List ℕ → Option Node) (paths : List (List ℕ)) (values : List ℕ → ℕ → Option T) (holds : Holds reading values paths v w) where
        node_there : reading (chunks_of (take p.depth (bits p.key) ++ t)) ≡ Some n
        node_there =
            ap reading key_path ∙ sym (reads_node reading values paths v w holds (chunks_of (take p.depth (bits p.key)))) ∙ at.is_there

        slot_there : IsSlot reading (chunks_of (take p.depth (bits p.key) ++ t)) p.slot
        slot_there =
            subst (λ q. IsSlot reading q p.slot) (sym key_path)
            (subst (λ (f : List ℕ → Option Node). IsSlot f (chunks_of (take p.depth (bits p.key))) p.slot)
            (λ i q. reads_node reading values paths v w holds q i) at.slot_is)

        pub some_there : is_some (values (chunks_of (take p.depth (bits p.key) ++ t)) (bit_of (take p.depth (bits p.key) ++ t))) ≡ true
        some_there =
            holds.cells.set_where (chunks_of (take p.depth (bits p.key) ++ t)) (bit_of (take p.depth (bits p.key) ++ t))
            ∙ ap₂ has_value node_there key_bit ∙ bit_set

      -- what is left if the value is removed
      module _ (removed : Option T) (m : Node) (v2 : Store Node) (w2 : Store (Option T)) (count2 : ℕ)
          (gives : (reading : List ℕ → Option Node) (paths : List (List ℕ)) (values : List ℕ → ℕ → Option T) (q : List ℕ) (k : Node) → NodesHold node_sizes reading paths v →
          CellsHold cell_sizes reading values paths w → IsSlot reading q p.slot → reading q ≡ Some k → removed ≡ values q (value_bit t))
          (takes : (reading : List ℕ → Option Node) (paths : List (List ℕ)) (values : List ℕ → ℕ → Option T) (q : List ℕ) (k : Node) → NodesHold node_sizes reading paths v →
          CellsHold cell_sizes reading values paths w → IsSlot reading q p.slot → reading q ≡ Some k →
          ValueTaken reading paths values q (value_bit t) k m v2 w w2) where
        before : ForHeld v w (λ reading paths values. removed ≡ values (chunks_of (take p.depth (bits p.key) ++ t)) (bit_of (take p.depth (bits p.key) ++ t)))
        before reading paths values holds =
            gives reading paths values (chunks_of (take p.depth (bits p.key) ++ t)) n holds.hold holds.cells (slot_there reading paths values holds) (node_there reading paths values holds)
            ∙ ap (values (chunks_of (take p.depth (bits p.key) ++ t))) (sym key_bit)

        taken_with : (reading : List ℕ → Option Node) (paths : List (List ℕ)) (values : List ℕ → ℕ → Option T) (holds : Holds reading values paths v w) →
            ValueTaken reading paths values (chunks_of (take p.depth (bits p.key) ++ t)) (bit_of (take p.depth (bits p.key) ++ t)) n m v2 w w2
        taken_with reading paths values holds =
            subst (λ b. ValueTaken reading paths values (chunks_of (take p.depth (bits p.key) ++ t)) b n m v2 w w2) (sym key_bit)
            (takes reading paths values (chunks_of (take p.depth (bits p.key) ++ t)) n holds.hold holds.cells (slot_there reading paths values holds) (node_there reading paths values holds))

        taken : ForHeld v w (λ reading paths values. EntryTaken reading paths values (chunks_of (take p.depth (bits p.key) ++ t)) (bit_of (take p.depth (bits p.key) ++ t)) v2 w w2)
        taken reading paths values holds =
            (value_taken reading values paths v w holds (chunks_of (take p.depth (bits p.key) ++ t)) (bit_of (take p.depth (bits p.key) ++ t)) n m v2 w2
            (node_there reading paths values holds) (some_there reading paths values holds) (taken_with reading paths values holds)).0

        -- this node changed, and no other node did
        read_after : (q : List ℕ) → read v2.slots q ≡ with_node (read v.slots) (chunks_of (take p.depth (bits p.key) ++ t)) m q
        read_after q =
            let a = taken_with (read v.slots) held_table.paths held_table.values read_table in
            reads node_sizes (with_node (read v.slots) (chunks_of (take p.depth (bits p.key) ++ t)) m) held_table.paths v2 a.hold q

        -- how the sizes of blocks changed
        pub blocks_after : (q : List ℕ) → BlocksBetween (read v.slots q) (read v2.slots q)
        blocks_after q =
            subst (BlocksBetween (read v.slots q)) (sym (read_after q))
            (taken_between (read v.slots) held_table.paths held_table.values (chunks_of (take p.depth (bits p.key) ++ t)) (bit_of (take p.depth (bits p.key) ++ t)) n m v2 w w2
            (taken_with (read v.slots) held_table.paths held_table.values read_table) (node_there (read v.slots) held_table.paths held_table.values read_table) q)

        pub value_above : (q : List ℕ) → length q < p.depth / 5 → read v2.slots q ≡ read v.slots q
        value_above q less =
            read_after q
            ∙ with_other (read v.slots) (chunks_of (take p.depth (bits p.key) ++ t)) m q
            (λ e. let l : length q ≡ p.depth / 5 = ap (λ (xs : List ℕ). length xs) (e ∙ key_path) ∙ path_levels in omega (arith, l, less))

        pub value_read_after : read v2.slots (chunks_of (take p.depth (bits p.key))) ≡ Some m
        value_read_after =
            read_after (chunks_of (take p.depth (bits p.key)))
            ∙ with_here (read v.slots) (chunks_of (take p.depth (bits p.key) ++ t)) m (chunks_of (take p.depth (bits p.key))) (sym key_path)

        -- there was a value
        pub some_counted : 0 < count
        some_counted =
            let a = taken held_table.reading held_table.paths held_table.values held_table.holds in
            let one : one_if (is_some (held_table.values (chunks_of (take p.depth (bits p.key) ++ t)) (bit_of (take p.depth (bits p.key) ++ t)))) ≡ 1 = ap one_if (some_there held_table.reading held_table.paths held_table.values held_table.holds) in
            omega (arith, a.counted, trie.table.counted, one)

        pub removed_is : get s.entries (take p.depth (bits p.key) ++ t) ≡ removed
        removed_is =
            shape_entries held_table.reading held_table.values held_table.paths v w held_table.holds s trie.shaped (take p.depth (bits p.key) ++ t)
            ∙ sym (before held_table.reading held_table.paths held_table.values held_table.holds)

        removed_some : is_some removed ≡ true
        removed_some =
            ap is_some (before held_table.reading held_table.paths held_table.values held_table.holds)
            ∙ some_there held_table.reading held_table.paths held_table.values held_table.holds

        pub trie_taken : count2 ≡ count - 1 → Grows v v2 24 → Grows w w2 24 →
            IsTrie width count2 v2 w2 (record { entries = without_entry s.entries (take p.depth (bits p.key) ++ t); nodes = s.nodes })
        trie_taken fewer node_space cell_space =
            let counted : count2 + one_if (is_some removed) ≡ count = (let o = ap one_if removed_some in let c = some_counted in omega (arith, o, c, fewer)) in
            let left = kept_without (take p.depth (bits p.key) ++ t) v v2 w w2 count count2 (s, trie.shaped) trie.table removed before counted taken in
            record {
              table = left.table node_space cell_space (_, left.shape);
              shaped = left.shape;
              within = λ q there. trie.within q (removed_fewer s.entries (take p.depth (bits p.key) ++ t) q there);
              nodes = AreNodes-without_entry width s.entries s.nodes (take p.depth (bits p.key) ++ t) trie.nodes;
            }
