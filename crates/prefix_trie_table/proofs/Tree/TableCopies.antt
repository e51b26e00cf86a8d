-- Contracts see a copy of a table as the table, with clones of its values: for `clone`.
use Rattle.prefix_trie_table.proofs.Prelude.{◌≡◌, ℕ, ◌+◌, Bool, true, false, cond, List, [], ◌∷◌, length, get_or, map, flat_map, Option, None, Some, is_some, ◌<◌, ◌≤◌, ◌⊎◌, inl, inr, refl, sym, ap, ap₂, ◌∙◌, subst, arith, eq_by_cmp, AllZip, get, len, entries, entries_sorted, from_sorted, entries-from_sorted, get-from_sorted, get-entries, len-entries, is_sorted, find, length-map, get_or_past, AllZip-get_or, length_all_zip, false≢true, cases_lt, listing_cmp, Layout, Entries, State, same_entries, same_string-is, Node, has_bit, rank, node_sizes, cell_sizes, IsCloned, AreCloned, chunks_of, bit_of, Sized, Sized-prop, Store, Tier, free_counts, Sound, SomeTable, CellsHold, read, value_in, value_of, value_blocks, IsShapeOf, Shaped, same_shape, IsTable}
use lib.Dec.{T as IsT}
use Rattle.std.specs.Option.{unwrap_or}
use Rattle.prefix_trie_table.proofs.Tree.Invariant.{some_table}
use Rattle.prefix_trie_table.proofs.Walk.KeySets.{sorted_mapped}
use Rattle.prefix_trie_table.proofs.Blocks.Copies.{paths_read, Sound-read}
use Rattle.prefix_trie_table.proofs.Lookup.Lending.{seen_of}
use Rattle.prefix_trie_table.proofs.Blocks.Capacity.{NodesHold-capacities, CellsHold-capacities}
use Rattle.prefix_trie_table.proofs.Tree.Shapes.{reads_node, reads_value}
use Rattle.prefix_trie_table.proofs.Tree.Trees.{is_none-None}

module _ {T : Type 0} where
  -- a relation between two optional values, by cases
  pub option_pairs : (R : Option T → Option T → Type 0) → R None None → ((y : T) → R None (Some y)) → ((x : T) → R (Some x) None) →
      ((x y : T) → R (Some x) (Some y)) → (x y : Option T) → R x y
  option_pairs R none no_first no_second both None None = none
  option_pairs R none no_first no_second both None (Some y) = no_first y
  option_pairs R none no_first no_second both (Some x) None = no_second x
  option_pairs R none no_first no_second both (Some x) (Some y) = both x y

  -- if the items of two lists are clones, so are those at each place
  pub clones_at : (C : T → T → Type 0) (R : Option T → Option T → Type 0) → ((x y : Option T) → R x y → IsCloned C x y) → (xs ys : List (Option T)) →
      AllZip R xs ys → (i : ℕ) → IsCloned C (get_or xs i None) (get_or ys i None)
  clones_at C R means xs ys z i = at (cases_lt i (length xs))
    where
      at : (i < length xs) ⊎ (length xs ≤ i) → IsCloned C (get_or xs i None) (get_or ys i None)
      at (inl there) = means _ _ (AllZip-get_or R xs ys i None None z there)
      at (inr past) =
          let l = length_all_zip R xs ys z in
          subst (λ o. IsCloned C o (get_or ys i None)) (sym (get_or_past xs i None past)) (get_or_past ys i None (omega arith))

  -- there is a clone exactly if there is a source
  pub cloned_there : (C : T → T → Type 0) (x y : Option T) → IsCloned C x y → is_some y ≡ is_some x
  cloned_there C None y h = ap is_some h
  cloned_there C (Some x) None h = absurd h
  cloned_there C (Some x) (Some y) h = refl

  cloned_same : (C : T → T → Type 0) → ((x y : T) → C x y → y ≡ x) → (x y : Option T) → IsCloned C x y → y ≡ x
  cloned_same C law None y h = h
  cloned_same C law (Some x) None h = absurd h
  cloned_same C law (Some x) (Some y) h = ap Some (law x y h)

  some_or : (o : Option T) (x : T) → is_some o ≡ true → Some (unwrap_or o x) ≡ o
  some_or None x h = absurd (false≢true h)
  some_or (Some y) x h = refl

  -- the entries with the values that g has for their keys
  module _ (g : List Bool → Option T) where
    abbrev put : List Bool × T → List Bool × T
    put e = (e.0, unwrap_or (g e.0) e.1)

    abbrev found : List Bool → Option T → Option T
    found q None = None
    found q (Some x) = Some (unwrap_or (g q) x)

    find_put : (q : List Bool) (es : List (List Bool × T)) → find listing_cmp q (map put es) ≡ found q (find listing_cmp q es)
    find_put q [] = refl
    find_put q (e ∷ es) = at (eq_by_cmp listing_cmp q e.0) refl (find_put q es)
      where
        at : (b : Bool) → eq_by_cmp listing_cmp q e.0 ≡ b → find listing_cmp q (map put es) ≡ found q (find listing_cmp q es) →
            cond b (Some (unwrap_or (g e.0) e.1)) (find listing_cmp q (map put es)) ≡ found q (cond b (Some e.1) (find listing_cmp q es))
        at true h rest = ap (λ k. Some (unwrap_or (g k) e.1)) (sym (same_string-is q e.0 h))
        at false h rest = rest

    abbrev put_in : Entries T → Entries T
    put_in m = from_sorted (map put (entries m))

    sorted_in : (m : Entries T) → IsT (is_sorted listing_cmp (map put (entries m)))
    sorted_in m = subst (λ b. IsT b) (sym (sorted_mapped put (λ e. refl) (entries m))) (entries_sorted m)

    get_put : (m : Entries T) → ((q : List Bool) → is_some (g q) ≡ is_some (get m q)) → (q : List Bool) → get (put_in m) q ≡ g q
    get_put m there q =
        get-from_sorted listing_cmp (map put (entries m)) q (sorted_in m) ∙ find_put q (entries m) ∙ ap (found q) (sym (get-entries m q))
        ∙ settled (get m q) refl
      where
        settled : (o : Option T) → get m q ≡ o → found q o ≡ g q
        settled None e = sym (is_none-None (g q) (there q ∙ ap is_some e))
        settled (Some x) e = some_or (g q) x (there q ∙ ap is_some e)

    len_put : (m : Entries T) → len (put_in m) ≡ len m
    len_put m =
        len-entries (put_in m) ∙ ap (λ es. length es) (entries-from_sorted listing_cmp (map put (entries m)) (sorted_in m))
        ∙ length-map (entries m) put ∙ sym (len-entries m)

-- if the items of two arrays are clones, so are the values of each node
module _ {T : Type 0} (C : T → T → Type 0) (xs ys : List (Option T)) (cloned : (i : ℕ) → IsCloned C (get_or xs i None) (get_or ys i None)) where
  in_cloned : (n : Node) (b : ℕ) → IsCloned C (value_in xs n b) (value_in ys n b)
  unfolding value_in
  in_cloned n b = pick (has_bit n.value_bitmap b)
    where
      pick : (t : Bool) → IsCloned C (cond t (get_or xs (n.value_block + rank n.value_bitmap b) None) None)
          (cond t (get_or ys (n.value_block + rank n.value_bitmap b) None) None)
      pick true = cloned (n.value_block + rank n.value_bitmap b)
      pick false = refl

  pub cells_cloned : (o : Option Node) (b : ℕ) → IsCloned C (value_of xs o b) (value_of ys o b)
  cells_cloned None b = refl
  cells_cloned (Some n) b = in_cloned n b

-- v2 and w2 are a copy of the table in v and w, with clones of its values
module _ {T : Type 0} (C : T → T → Type 0) (R : Option T → Option T → Type 0) (means : (x y : Option T) → R x y → IsCloned C x y)
    (v v2 : Store Node) (w w2 : Store (Option T)) (count : ℕ) (s : Shaped v.slots w.slots) (is : IsTable v w count s.0)
    (nodes : v2 ≡ record v { capacities = v2.capacities }) (rest : w2 ≡ record w { slots = w2.slots; capacities = w2.capacities }) (clones : AllZip R w.slots w2.slots) where
  abbrev table : SomeTable v w
  table = some_table is

  long : length w2.slots ≡ length w.slots
  long = sym (length_all_zip R w.slots w2.slots clones)

  cloned : (i : ℕ) → IsCloned C (get_or w.slots i None) (get_or w2.slots i None)
  cloned i = clones_at C R means w.slots w2.slots clones i

  there : (i : ℕ) → is_some (get_or w2.slots i None) ≡ is_some (get_or w.slots i None)
  there i = cloned_there C (get_or w.slots i None) (get_or w2.slots i None) (cloned i)

  of_cloned : (o : Option Node) (b : ℕ) → IsCloned C (value_of w.slots o b) (value_of w2.slots o b)
  of_cloned = cells_cloned C w.slots w2.slots cloned

  abbrev values : List ℕ → ℕ → Option T
  values p b = value_of w2.slots (table.reading p) b

  value_there : (p : List ℕ) (b : ℕ) → is_some (values p b) ≡ is_some (table.values p b)
  value_there p b =
      cloned_there C (value_of w.slots (table.reading p) b) (values p b) (of_cloned (table.reading p) b)
      ∙ ap is_some (ap (λ o. value_of w.slots o b) (sym (reads_node table.reading table.values table.paths v w table.holds p))
      ∙ reads_value table.reading table.values table.paths v w table.holds p b)

  cells_hold : CellsHold cell_sizes table.reading values table.paths (record w { slots = w2.slots })
  cells_hold = record {
    set_where = λ p b. value_there p b ∙ table.holds.cells.set_where p b;
    sound = subst (λ bs. Sound None bs (record w { slots = w2.slots })) (sym (paths_read w2.slots table.reading table.values table.paths))
        (Sound-read w w2.slots long there (flat_map (value_blocks cell_sizes table.reading table.values) table.paths) table.holds.cells.sound);
    sizes_are = table.holds.cells.sizes_are;
    within = λ p b h. table.holds.cells.within p b (sym (value_there p b) ∙ h);
  }

  -- the value of the copy at a bit string
  abbrev value_at : List Bool → Option T
  value_at q = value_of w2.slots (read v.slots (chunks_of q)) (bit_of q)

  stored_there : (q : List Bool) → is_some (value_at q) ≡ is_some (get s.0.entries q)
  stored_there q =
      cloned_there C (value_of w.slots (read v.slots (chunks_of q)) (bit_of q)) (value_at q) (of_cloned (read v.slots (chunks_of q)) (bit_of q))
      ∙ ap is_some (sym (s.1.1 q))

  abbrev state : State T
  state = record { entries = put_in value_at s.0.entries; nodes = s.0.nodes }

  state_is : IsShapeOf v2.slots w2.slots state
  state_is = subst (λ (y : Store Node). IsShapeOf y.slots w2.slots state) (sym nodes) (s.1.0, get_put value_at s.0.entries stored_there)

  -- the copy has a shape
  pub copied_shape : Shaped v2.slots w2.slots
  copied_shape = (state, state_is)

  copied_only : (t : Shaped v2.slots w2.slots) → t.0 ≡ state
  copied_only t = same_shape v2.slots w2.slots t.0 state t.1 state_is

  state_held : IsTable (record v { capacities = v2.capacities }) (record w { slots = w2.slots; capacities = w2.capacities }) count state
  state_held = record {
    reading = table.reading;
    values = values;
    paths = table.paths;
    nodes = NodesHold-capacities node_sizes table.reading table.paths v v2.capacities is.nodes;
    cells = CellsHold-capacities cell_sizes table.reading values table.paths (record w { slots = w2.slots }) w2.capacities cells_hold;
    counted = is.counted;
    sized = is.sized ∙ sym (len_put value_at s.0.entries);
    cells_first = is.cells_first;
    one_limit = is.one_limit;
    nodes_within = is.nodes_within;
    cells_within = (let h = is.cells_within in let l = long in omega (arith, l, h));
  }

  -- the copy is a table
  pub copied_table : (t : Shaped v2.slots w2.slots) → IsTable v2 w2 count t.0
  copied_table t =
      subst (λ (y : State T). IsTable v2 w2 count y) (sym (copied_only t))
      (subst (λ (y : Store Node). IsTable y w2 count state) (sym nodes)
      (subst (λ (y : Store (Option T)). IsTable (record v { capacities = v2.capacities }) y count state) (sym rest) state_held))

  -- the values of the copy are clones
  pub copied_entries : (t : Shaped v2.slots w2.slots) → AreCloned C s.0.entries t.0.entries
  copied_entries t q =
      let before : get s.0.entries q ≡ value_of w.slots (read v.slots (chunks_of q)) (bit_of q) = s.1.1 q in
      let after : get t.0.entries q ≡ value_at q = ap (λ (y : State T). get y.entries q) (copied_only t) ∙ get_put value_at s.0.entries stored_there q in
      subst (λ o. IsCloned C o (get t.0.entries q)) (sym before)
      (subst (λ o. IsCloned C (value_of w.slots (read v.slots (chunks_of q)) (bit_of q)) o) (sym after) (of_cloned (read v.slots (chunks_of q)) (bit_of q)))

  -- the copy has the same nodes
  pub copied_nodes : (t : Shaped v2.slots w2.slots) → t.0.nodes ≡ s.0.nodes
  copied_nodes t = ap (λ (y : State T). y.nodes) (copied_only t)

  -- the copy has as many slots
  pub copied_space : (z : Sized v.slots) (t : Shaped v2.slots w2.slots) (k : Sized v2.slots) → (seen_of v2 w2 t.0 k).space ≡ (seen_of v w s.0 z).space
  copied_space z t k = ap₂ (λ (y : Store Node) (n : ℕ). record { limit = y.limit; node_slots = length y.slots; cell_slots = n }) nodes long

  -- the blocks of the copy have the same sizes
  pub copied_sizes : Sized v.slots → Sized v2.slots
  copied_sizes z = subst (λ (y : Store Node). Sized y.slots) (sym nodes) z

  abbrev built_out : (y : Store Node) → List Tier → Sized y.slots → Layout
  built_out y ts k = record { child_blocks = k.0; value_blocks = k.1.0; free_child_blocks = free_counts y.tiers; free_value_blocks = free_counts ts }

  -- the copy has the same layout
  pub copied_layout : (z : Sized v.slots) (t : Shaped v2.slots w2.slots) (k : Sized v2.slots) → (seen_of v2 w2 t.0 k).layout ≡ (seen_of v w s.0 z).layout
  copied_layout z t k =
      ap (λ (y : Store (Option T)). built_out v2 y.tiers k) rest
      ∙ subst (λ (y : Store Node). (k : Sized y.slots) → built_out y w.tiers k ≡ built_out v w.tiers z) (sym nodes) (λ k. ap (built_out v w.tiers) (Sized-prop v.slots k z)) k

  -- if clones are equal to their sources, contracts see the same
  pub copied_same : (z : Sized v.slots) → ((x y : T) → C x y → y ≡ x) → (t : Shaped v2.slots w2.slots) (k : Sized v2.slots) →
      seen_of v2 w2 t.0 k ≡ seen_of v w s.0 z
  copied_same z law t k =
      let values : t.0.entries ≡ s.0.entries = same_entries t.0.entries s.0.entries (λ q. cloned_same C law (get s.0.entries q) (get t.0.entries q) (copied_entries t q)) in
      λ i. record { entries = values i; nodes = copied_nodes t i; space = copied_space z t k i; layout = copied_layout z t k i; build = (nodes i).slots }
