-- The second table before its values come, from what was built in new arrays.
use Rattle.prefix_trie_table.proofs.Prelude.{◌≡◌, ℕ, ◌/◌, ◌<◌, ◌≤◌, ◌==◌, Bool, true, false, cond, List, [], ◌∷◌, length, map, flat_map, slice_set, Option, None, Some, is_some, refl, sym, ap, ◌∙◌, subst, arith, append-nil, eq-eqb, get_or-set_same, length-set, false≢true, packed_block, has_node, is_node_depth, State, Node, blank_node, node_at, node_sizes, cell_sizes, chunks_of, bit_of, one_if, Holds, NodesHold, node_or_blank, child_blocks, value_blocks, IsBuilt, IsPackedNode, IsPart, IsSource, NothingBuilt, SomeValue, no_value, Builds, IsSecond, Store, UsedBlock, Sound, free_in, no_blocks, size_in, tier_sizes, size_if_any, IsTrie}
use Rattle.prefix_trie_table.proofs.Strings.BitLists.{rank-zero-all}
use Rattle.prefix_trie_table.proofs.Strings.Digits.{path-length}
use Rattle.prefix_trie_table.proofs.Strings.Paths.{same_path-not}
use Rattle.prefix_trie_table.proofs.Strings.PathStrings.{string_at, string_depth, string_path, paths_steps}
use Rattle.prefix_trie_table.proofs.Strings.SmallFacts.{both_true}
use Rattle.prefix_trie_table.proofs.Tree.Invariant.{some_table}
use Rattle.prefix_trie_table.proofs.Tree.Shapes.{root_reading, root_here, root_holds, no_values, shape_nodes}

-- ---- the table that is read

module _ {T : Type 0} (width count : ℕ) (v : Store Node) (w : Store (Option T)) (s : State T) (trie : IsTrie width count v w s) where
  -- no node is deeper than the width
  shallow : (q : List ℕ) → is_some (trie.table.reading q) ≡ true → length q ≤ width / 5
  shallow q there =
      let path : chunks_of (string_at q) ≡ q = string_path q
      (paths_steps node_sizes trie.table.reading trie.table.paths v trie.table.nodes q
      (let e = trie.table.nodes.listed q ∙ ap one_if there in omega (arith, e))) in
      let depth : is_node_depth (string_at q) ≡ true = eq-eqb _ 0 (string_depth q) in
      let is_there : has_node s.nodes (string_at q) ≡ true = shape_nodes trie.table.reading trie.table.values trie.table.paths v w (some_table trie.table).holds s trie.shaped (string_at q)
      ∙ both_true (is_node_depth (string_at q)) (is_some (trie.table.reading (chunks_of (string_at q)))) depth
      (ap (λ p. is_some (trie.table.reading p)) path ∙ there) in
      let steps : length q ≡ length (string_at q) / 5 = ap length (sym path) ∙ path-length (string_at q) in
      omega (arith, trie.nodes.within (string_at q) is_there, steps)

  -- so it is a source
  pub root_source : (n : Node) → n ≡ node_at v.slots 0 → (levels : ℕ) → levels ≡ width / 5 → IsSource v n levels
  root_source n is_root levels e = record {
    reading = trie.table.reading;
    paths = trie.table.paths;
    hold = trie.table.nodes;
    path = [];
    is = trie.table.nodes.rooted ∙ ap Some (sym is_root);
    few = λ q there. let few = shallow q there in omega (arith, few, e);
    within = λ q b h. trie.table.cells.within q b (trie.table.cells.set_where q b ∙ h);
  }

-- ---- new arrays

-- no block is free
new_none_free : (sizes : List ℕ) (size : ℕ) → free_in (map no_blocks sizes) size ≡ 0
new_none_free [] size = refl
new_none_free (s ∷ sizes) size = elim (s == size) as (λ b. cond b 0 (free_in (map no_blocks sizes) size) ≡ 0) [ true ↦ refl | false ↦ new_none_free sizes size ]

module _ {T : Type 0} (q : List Bool) (v v1 v2 : Store Node) (w1 w2 : Store (Option T)) (limit : ℕ)
    (v_is : v1 ≡ record { slots = blank_node ∷ []; first = 1; tiers = map no_blocks node_sizes; limit = limit; capacities = v1.capacities }) (v_sound : Sound blank_node [] v1)
    (w_is : w1 ≡ record { slots = []; first = 0; tiers = map no_blocks cell_sizes; limit = limit; capacities = w1.capacities }) (w_sound : Sound None [] w1)
    (same : limit ≡ v.limit) (some : 0 < limit) (bs : List (UsedBlock Node)) (cs : List (UsedBlock (Option T))) (k l : ℕ)
    (builds_nodes : Builds blank_node bs k v1 v2) (builds_cells : Builds None cs l w1 w2) where
  first_one : v2.first ≡ 1
  first_one = builds_nodes.keeps.first_is ∙ ap (λ (x : Store Node). x.first) v_is

  sizes_are : tier_sizes v2.tiers ≡ node_sizes
  sizes_are = builds_nodes.keeps.sizes ∙ ap (λ (x : Store Node). tier_sizes x.tiers) v_is

  -- a table with these nodes is the second
  second : (reading : List ℕ → Option Node) (paths : List (List ℕ)) (v3 : Store Node) → NodesHold node_sizes reading paths v3 →
      Sound None (flat_map (value_blocks cell_sizes reading no_value) paths) w2 →
      IsPart v.slots (node_at v.slots 0) q reading → ((c : ℕ) (p : List ℕ) → is_some (reading (c ∷ p)) ≡ true → SomeValue reading (c ∷ p)) →
      v3.tiers ≡ v2.tiers → v3.limit ≡ v2.limit → length v3.slots ≡ length v2.slots → IsSecond q v v3 w2
  second reading paths v3 hold cells part needed tiers limits long = record {
    skeleton = record {
      reading = reading;
      paths = paths;
      nodes = hold;
      cells = cells;
      cells_first = builds_cells.keeps.first_is ∙ ap (λ (x : Store (Option T)). x.first) w_is;
      cell_sizes_are = builds_cells.keeps.sizes ∙ ap (λ (x : Store (Option T)). tier_sizes x.tiers) w_is;
      part = part;
      needed = needed;
      no_node_free = λ j. ap (λ ts. free_in ts j) tiers
          ∙ builds_nodes.none_free (λ i. ap (λ (x : Store Node). free_in x.tiers i) v_is ∙ new_none_free node_sizes i) j;
      no_cell_free = builds_cells.none_free (λ i. ap (λ (x : Store (Option T)). free_in x.tiers i) w_is ∙ new_none_free cell_sizes i);
    };
    node_limit = limits ∙ node_limit;
    cell_limit = cell_limit;
    nodes_within =
        let l = builds_nodes.keeps.within (subst (λ (x : Store Node). length x.slots ≤ x.limit) (sym v_is) (omega (arith, some))) in omega (arith, l, long, node_limit);
    cells_within =
        let l = builds_cells.keeps.within (subst (λ (x : Store (Option T)). length x.slots ≤ x.limit) (sym w_is) (omega arith)) in omega (arith, l, cell_limit);
  }
    where
      node_limit : v2.limit ≡ v.limit
      node_limit = builds_nodes.keeps.limit_is ∙ ap (λ (x : Store Node). x.limit) v_is ∙ same

      cell_limit : w2.limit ≡ v.limit
      cell_limit = builds_cells.keeps.limit_is ∙ ap (λ (x : Store (Option T)). x.limit) w_is ∙ same

  -- if something was built, and its top put into the root's slot
  pub second_built : (levels : ℕ) (top : Node) (v3 : Store Node) → IsBuilt v.slots levels (node_at v.slots 0) q v1 v2 w1 w2 top → v3 ≡ record v2 { slots = slice_set v2.slots 0 top } →
      ((live : List (UsedBlock Node)) → 0 < v2.first → Sound blank_node live v2 → Sound blank_node live v3) → IsSecond q v v3 w2
  second_built levels top v3 built put sound =
      second built.sub built.paths v3
      (record {
        rooted = built.nodes_from.top ∙ ap Some (sym (ap (λ (x : Store Node). node_at x.slots 0) put ∙ get_or-set_same v2.slots 0 top blank_node inside));
        linked = built.nodes_from.linked;
        listed = built.nodes_from.listed;
        sound = sound _ (omega (arith, first_one)) (subst (λ bs. Sound blank_node bs v2) (append-nil (flat_map (child_blocks node_sizes built.sub) built.paths)) (built.nodes.sound [] v_sound));
        first_is = ap (λ (x : Store Node). x.first) put ∙ first_one;
        sizes_are = ap (λ (x : Store Node). tier_sizes x.tiers) put ∙ sizes_are;
      })
      (subst (λ bs. Sound None bs w2) (append-nil (flat_map (value_blocks cell_sizes built.sub no_value) built.paths)) (built.cells.sound [] w_sound))
      built.part (λ c p h. built.needed (c ∷ p) h) (ap (λ (x : Store Node). x.tiers) put) (ap (λ (x : Store Node). x.limit) put)
      (ap (λ (x : Store Node). length x.slots) put ∙ length-set v2.slots 0 top)
    where
      inside : 0 < length v2.slots
      inside = let l = builds_nodes.keeps.longer in let e = ap (λ (x : Store Node). length x.slots) v_is in omega (arith, l, e)

  -- and if nothing was
  pub second_bare : (levels : ℕ) → NothingBuilt v.slots levels (node_at v.slots 0) q v1 v2 w1 w2 → IsSecond q v v2 w2
  second_bare levels none =
      second root_reading ([] ∷ []) v2
      (record {
        rooted = root_here ∙ ap Some (sym (builds_nodes.keeps.before 0 blank_node (let e = ap (λ (x : Store Node). x.first) v_is in omega (arith, e)) ∙ ap (λ (x : Store Node). node_at x.slots 0) v_is));
        linked = new.hold.linked;
        listed = new.hold.listed;
        sound = none.nodes.sound _ new.hold.sound;
        first_is = first_one;
        sizes_are = sizes_are;
      })
      (none.cells.sound _ new.cells.sound)
      (record {
        values = λ s. sym (new.cells.set_where (chunks_of s) (bit_of s)) ∙ sym (none.none s);
        within = λ p b has. absurd (false≢true (new.cells.set_where p b ∙ has));
        packed = packed;
      })
      (λ c p there. absurd (false≢true (sym (ap is_some (none_deeper c p)) ∙ there)))
      refl refl refl
    where
      new : Holds root_reading no_values ([] ∷ []) v1 w1
      new =
          root_holds v1 w1 (ap (λ (x : Store Node). x.slots) v_is) (ap (λ (x : Store Node). x.first) v_is) (ap (λ (x : Store Node). x.tiers) v_is) v_sound
          (ap (λ (x : Store (Option T)). x.tiers) w_is) w_sound

      none_deeper : (c : ℕ) (p : List ℕ) → root_reading (c ∷ p) ≡ None
      none_deeper c p = ap (λ b. cond b (Some blank_node) None) (same_path-not (c ∷ p) [] (λ e. absurd (omega (arith, ap length e))))

      packed : (p : List ℕ) (n : Node) → root_reading p ≡ Some n → IsPackedNode n
      packed [] n e = subst IsPackedNode (ap node_or_blank (sym root_here ∙ e)) (record {
        values = subst (λ k. size_if_any k (size_in cell_sizes 0) ≡ packed_block cell_sizes k) (sym rank-zero-all) refl;
        children = subst (λ k. size_if_any k (size_in node_sizes 0) ≡ packed_block node_sizes k) (sym rank-zero-all) refl;
      })
      packed (c ∷ p) n e = absurd (false≢true (sym (ap is_some (none_deeper c p)) ∙ ap is_some e))
