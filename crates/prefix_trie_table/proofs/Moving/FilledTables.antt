-- A second table whose blocks were built is a table once all values have come.
use Rattle.prefix_trie_table.proofs.Prelude.{◌≡◌, ℕ, ◌/◌, ◌%◌, ◌<◌, inl, inr, Bool, true, false, cond, ◌&&◌, List, [], ◌∷◌, ◌++◌, length, Option, None, is_some, refl, sym, ap, ap₂, ◌∙◌, subst, arith, eqb-true, eq-eqb, false≢true, cases_Bool, take_at, All-weaker, All-contains_itself, get, contains_key, len, entries, entries_sorted, get-entries, begins, same_bool, value_bit, AreWithin, part_below, has_node, is_node_depth, needed, State, and-first, and-second, and-join, get-part_below, needed_for, needs_root, AreNodes-needed, find-from_Contains, Node, node_sizes, chunks_of, bit_of, read, one_if, is_start, has_value, NodesHold, Holds, no_value, filled_with, split_off, IsShapeOf, IsSkeleton, IsSecond, Store, tier_sizes, IsTrie}
use Rattle.std.specs.List.{All, Contains}
use Rattle.prefix_trie_bits.proofs.Model.Members.{needs}
use Rattle.prefix_trie_table.proofs.Lookup.DescentEnds.{prefix_some}
use Rattle.prefix_trie_table.proofs.Moving.NextValue.{long_cells}
use Rattle.prefix_trie_table.proofs.Moving.ValueCounts.{values_all}
use Rattle.prefix_trie_table.proofs.Moving.ValueWrites.{HasPlace, put_all, filled_same}
use Rattle.prefix_trie_table.proofs.Moving.SecondValues.{entry_values, entry_there, none_there}
use Rattle.prefix_trie_table.proofs.Strings.Keys.{same_above, begins-search_path}
use Rattle.prefix_trie_table.proofs.Strings.PathStrings.{string_at, string_depth, string_path, paths_steps}
use Rattle.prefix_trie_table.proofs.Strings.ChunkPlaces.{below_node, string_at as string_of}
use Rattle.prefix_trie_table.proofs.Strings.SmallFacts.{five_times, some_node}
use Rattle.prefix_trie_table.proofs.Strings.Beginnings.{is_start_take}
use Rattle.prefix_trie_table.proofs.Tree.Invariant.{some_table}
use Rattle.prefix_trie_table.proofs.Tree.Shapes.{reads_node, shape_entries, shape_of}

-- ---- the string of a place

-- a value's place is that of a string
pub string_placed : (reading : List ℕ → Option Node) (paths : List (List ℕ)) (v : Store Node) → NodesHold node_sizes reading paths v → (p : List ℕ) (b : ℕ) → b < 31 →
    has_value (reading p) b ≡ true → (s : List Bool) × (chunks_of s ≡ p) × (bit_of s ≡ b)
string_placed reading paths v hold p b small set =
    let steps = paths_steps node_sizes reading paths v hold p (let e = hold.listed p ∙ ap one_if (some_node (reading p) b set) in omega (arith, e)) in
    let r = string_of b small in
    let at = below_node (length (string_at p) / 5) (string_at p) r.0 (five_times (length (string_at p)) (length (string_at p) / 5) (string_depth p) refl) r.1 in
    (string_at p ++ r.0, at.0 ∙ string_path p steps, ap value_bit at.1 ∙ r.2)

-- ---- the second table

module _ {T : Type 0} (width count : ℕ) (v : Store Node) (w : Store (Option T)) (s : State T) (trie : IsTrie width count v w s) (q : List Bool)
    (v2 : Store Node) (w2 : Store (Option T)) (k : IsSkeleton q v v2 w2) where
  -- each cell for a value is one of an entry that is split off
  placed : (t : List Bool) → contains_key (part_below s.entries q) t ≡ has_value (k.reading (chunks_of t)) (bit_of t)
  unfolding read
  placed t =
      let u = some_table trie.table in
      ap is_some (get-part_below s.entries q t)
      ∙ both (begins q t) (get s.entries t)
      ∙ ap (λ b. begins q t && b)
      (ap is_some (shape_entries u.reading u.values u.paths v w u.holds s trie.shaped t) ∙ u.holds.cells.set_where (chunks_of t) (bit_of t)
      ∙ ap (λ o. has_value o (bit_of t)) (sym (reads_node u.reading u.values u.paths v w u.holds (chunks_of t))))
      ∙ sym (k.part.values t)
    where
      both : (b : Bool) (o : Option T) → is_some (cond b o None) ≡ (b && is_some o)
      both true o = refl
      both false o = refl

  each_placed : All (HasPlace v2 k.reading k.paths k.nodes) (entries (part_below s.entries q))
  each_placed =
      All-weaker (Contains (entries (part_below s.entries q))) (HasPlace v2 k.reading k.paths k.nodes)
      (λ e h.
      sym (placed e.0) ∙ ap is_some (get-entries (part_below s.entries q) e.0 ∙ find-from_Contains (entries (part_below s.entries q)) e (entries_sorted (part_below s.entries q)) h))
      (entries (part_below s.entries q)) (All-contains_itself (entries (part_below s.entries q)))

  abbrev values : List ℕ → ℕ → Option T
  values = entry_values v2 k.reading k.paths k.nodes (part_below s.entries q)

  abbrev full : Store (Option T)
  full = filled_with v2.slots (entries (part_below s.entries q)) w2

  full_same : full ≡ record w2 { slots = full.slots }
  full_same = filled_same v2.slots (entries (part_below s.entries q)) w2

  -- each cell has its value
  value_set : (p : List ℕ) (b : ℕ) → is_some (values p b) ≡ has_value (k.reading p) b
  value_set p b = elim (cases_Bool (has_value (k.reading p) b)) as (λ _. is_some (values p b) ≡ has_value (k.reading p) b) [
    | inl set ↦
        let t = string_placed k.reading k.paths v2 k.nodes p b (k.part.within p b set) set in
        ap₂ (λ x i. is_some (values x i)) (sym t.1) (sym t.2)
        ∙ ap is_some (sym (entry_there v2 k.reading k.paths k.nodes (part_below s.entries q) t.0)) ∙ placed t.0
        ∙ ap₂ (λ x i. has_value (k.reading x) i) t.1 t.2
    | inr clear ↦ ap is_some (none_there v2 k.reading k.paths k.nodes (entries (part_below s.entries q)) each_placed no_value p b clear) ∙ sym clear
  ]

  pub second_holds : Holds k.reading values k.paths v2 full
  second_holds = record {
    hold = k.nodes;
    cells = record {
      set_where = value_set;
      within = λ p b some. k.part.within p b (sym (value_set p b) ∙ some);
      sound = put_all v2 k.reading k.paths k.nodes (entries (part_below s.entries q)) no_value w2 each_placed k.cells;
      sizes_are = ap (λ (x : Store (Option T)). tier_sizes x.tiers) full_same ∙ k.cell_sizes_are;
    };
  }

  -- the nodes are those that the entries need
  node_there : (t : List Bool) → has_node (needed (part_below s.entries q)) t ≡ (is_node_depth t && is_some (k.reading (chunks_of t)))
  node_there t = same_bool _ _ into (λ h. from (chunks_of t) refl (and-first (is_node_depth t) (is_some (k.reading (chunks_of t))) h) (and-second (is_node_depth t) (is_some (k.reading (chunks_of t))) h))
    where
      into : has_node (needed (part_below s.entries q)) t ≡ true → (is_node_depth t && is_some (k.reading (chunks_of t))) ≡ true
      into h = elim (needed_for (part_below s.entries q) t h) as (λ _. (is_node_depth t && is_some (k.reading (chunks_of t))) ≡ true) [
        | inl root ↦ subst (λ x. (is_node_depth x && is_some (k.reading (chunks_of x))) ≡ true) (sym root) (ap is_some k.nodes.rooted)
        | inr why ↦
            and-join (is_node_depth t) (is_some (k.reading (chunks_of t))) (eq-eqb (length t % 5) 0 why.five)
            (prefix_some node_sizes k.reading k.paths v2 k.nodes (chunks_of t) (chunks_of why.key)
            (some_node (k.reading (chunks_of why.key)) (bit_of why.key) (sym (placed why.key) ∙ why.stored)) (begins-search_path t why.key why.five ∙ why.begins_it))
      ]

      from : (x : List ℕ) → chunks_of t ≡ x → is_node_depth t ≡ true → is_some (k.reading (chunks_of t)) ≡ true → has_node (needed (part_below s.entries q)) t ≡ true
      from [] e depth some =
          subst (λ u. has_node (needed (part_below s.entries q)) u ≡ true)
          (same_above [] t refl (eqb-true (length t % 5) 0 depth) (sym e)) (needs_root (part_below s.entries q))
      from (c ∷ p) e depth some =
          let why = k.needed c p (ap (λ x. is_some (k.reading x)) (sym e) ∙ some) in
          let key = string_placed k.reading k.paths v2 k.nodes ((c ∷ p) ++ why.below) why.bit (k.part.within ((c ∷ p) ++ why.below) why.bit why.is) why.is in
          let five = eqb-true (length t % 5) 0 depth in
          needs (part_below s.entries q) t key.0 five
          (placed key.0 ∙ ap₂ (λ x i. has_value (k.reading x) i) key.1 key.2 ∙ why.is)
          (sym (begins-search_path t key.0 five)
          ∙ ap₂ is_start (e ∙ sym (take_at (c ∷ p) why.below (length (c ∷ p)) refl)) key.1
          ∙ is_start_take (length (c ∷ p)) ((c ∷ p) ++ why.below))

  pub second_shape : IsShapeOf v2.slots full.slots (split_off s q)
  second_shape =
      shape_of k.reading values k.paths v2 full second_holds (split_off s q) node_there
      (entry_there v2 k.reading k.paths k.nodes (part_below s.entries q))

  split_within : AreWithin width (part_below s.entries q)
  split_within t has = trie.within t (by (begins q t) (get s.entries t) (sym (ap is_some (get-part_below s.entries q t)) ∙ has))
    where
      by : (b : Bool) (o : Option T) → is_some (cond b o None) ≡ true → is_some o ≡ true
      by true o h = h
      by false o h = absurd (false≢true h)

module _ {T : Type 0} where
  -- under the limit it is a table
  pub second_trie : (width count : ℕ) (v : Store Node) (w : Store (Option T)) (s : State T) (trie : IsTrie width count v w s) (q : List Bool)
      (v2 : Store Node) (w2 : Store (Option T)) → IsSecond q v v2 w2 →
      IsTrie width (len (part_below s.entries q)) v2 (filled_with v2.slots (entries (part_below s.entries q)) w2) (split_off s q)
  second_trie width count v w s trie q v2 w2 second =
      let k = second.skeleton in
      let holds = second_holds width count v w s trie q v2 w2 k in
      let same = filled_same v2.slots (entries (part_below s.entries q)) w2 in
      let within = split_within width count v w s trie q v2 w2 k in
      record {
        table = record {
          reading = k.reading;
          values = entry_values v2 k.reading k.paths k.nodes (part_below s.entries q);
          paths = k.paths;
          nodes = holds.hold;
          cells = holds.cells;
          cells_first = ap (λ (x : Store (Option T)). x.first) same ∙ k.cells_first;
          one_limit = ap (λ (x : Store (Option T)). x.limit) same ∙ second.cell_limit ∙ sym second.node_limit;
          nodes_within = (let n = second.nodes_within in let l = second.node_limit in omega (arith, n, l));
          cells_within = (let n = second.cells_within in let l = second.cell_limit in let e = ap (λ (x : Store (Option T)). x.limit) same in
              let long = long_cells v2.slots (entries (part_below s.entries q)) w2 in omega (arith, n, l, e, long));
          counted = sym (values_all k.reading _ k.paths v2 _ holds _ (second_shape width count v w s trie q v2 w2 k));
          sized = refl;
        };
        shaped = second_shape width count v w s trie q v2 w2 k;
        within = within;
        nodes = AreNodes-needed width (part_below s.entries q) within;
      }
