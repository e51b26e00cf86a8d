-- The shape of the arrays, which is what contracts see of them, before and after an insertion.
use Rattle.prefix_trie_table.proofs.Prelude.{◌≡◌, ℕ, ◌+◌, ◌<◌, ◌%◌, Bool, true, false, cond, ◌&&◌, ◌||◌, List, [], ◌∷◌, ◌++◌, length, get_or, map, Option, None, Some, is_some, Result, Ok, Err, MatchResult, IfOk, refl, sym, ap, ap₂, ◌∙◌, subst, arith, inl, inr, eqb-true, false≢true, cases_Bool, cases_lt, and_parts, get, get-insert, get-empty, len-insert, len-empty, contains_key, len, begins, same_bool, listing_total, same_string, no_entries, with_entry, has_node, is_node_depth, nodes_above, root_alone, with_needed, State, has-with_nodes, any-node_above, has-root_alone, same_string-is, is-same_string, Node, has_bit, rank, blank_node, node_at, node_sizes, cell_sizes, chunks_of, bit_of, Store, Sound, no_blocks, tier_sizes, read, value_in, value_of, same_path, one_if, is_start, Holds, EntryAdded, value_blocks_of, has_child, has_value, with_value, entry_count, SomeTable, IsShapeOf, Shaped, same_shape, IsTable, Grows}
use Rattle.prefix_trie_table.specs.Forest.{held, size_in}
use Rattle.prefix_trie_table.proofs.Tree.Invariant.{some_table}
use Rattle.prefix_trie_table.proofs.Strings.Bits.{has_bit-zero}
use Rattle.prefix_trie_table.proofs.Strings.BitLists.{rank-zero-all}
use Rattle.prefix_trie_table.proofs.Strings.Paths.{same_path-itself, same_path-not, same_path-true, snoc_not_nil}
use Rattle.prefix_trie_table.proofs.Strings.Keys.{same_key, same_above, begins-search_path}
use Rattle.prefix_trie_table.proofs.Tree.Trees.{reads, is_none-None}
use Rattle.prefix_trie_table.proofs.Tree.Children.{blank_blocks, bits-zero}
use Rattle.prefix_trie_table.proofs.Tree.Values.{value_is_there}

module _ {T : Type 0} where
  pub value_in-there : (cells : List (Option T)) (n : Node) (b : ℕ) → has_bit n.value_bitmap b ≡ true →
      value_in cells n b ≡ get_or cells (n.value_block + rank n.value_bitmap b) None
  unfolding value_in
  value_in-there cells n b h = ap (λ s. cond s (get_or cells (n.value_block + rank n.value_bitmap b) None) None) h

  value_in-missing : (cells : List (Option T)) (n : Node) (b : ℕ) → has_bit n.value_bitmap b ≡ false → value_in cells n b ≡ None
  unfolding value_in
  value_in-missing cells n b h = ap (λ s. cond s (get_or cells (n.value_block + rank n.value_bitmap b) None) None) h

  module _ (reading : List ℕ → Option Node) (values : List ℕ → ℕ → Option T) (paths : List (List ℕ)) (v : Store Node) (w : Store (Option T))
      (holds : Holds reading values paths v w) where
    value_at_node : (q : List ℕ) (b : ℕ) (o : Option Node) → reading q ≡ o → value_of w.slots o b ≡ values q b
    value_at_node q b None e = sym (is_none-None (values q b) (holds.cells.set_where q b ∙ ap (λ o. has_value o b) e))
    value_at_node q b (Some n) e = elim (cases_Bool (has_bit n.value_bitmap b)) as (λ _. value_in w.slots n b ≡ values q b) [
      | inl hit ↦ value_in-there w.slots n b hit ∙ (value_is_there cell_sizes node_sizes reading paths v holds.hold values w holds.cells q n b e hit).1
      | inr miss ↦ value_in-missing w.slots n b miss ∙ sym (is_none-None (values q b) (holds.cells.set_where q b ∙ ap (λ o. has_value o b) e ∙ miss))
    ]

    -- reading along a path gives its node
    pub reads_node : (q : List ℕ) → read v.slots q ≡ reading q
    reads_node q = reads node_sizes reading paths v holds.hold q

    -- reading a value along its path gives the value
    pub reads_value : (q : List ℕ) (b : ℕ) → value_of w.slots (read v.slots q) b ≡ values q b
    reads_value q b = ap (λ o. value_of w.slots o b) (reads_node q) ∙ value_at_node q b (reading q) refl

    -- nodes and entries that agree with the readings are the shape of the arrays
    pub shape_of : (s : State T) → ((q : List Bool) → has_node s.nodes q ≡ (is_node_depth q && is_some (reading (chunks_of q)))) →
        ((q : List Bool) → get s.entries q ≡ values (chunks_of q) (bit_of q)) → IsShapeOf v.slots w.slots s
    shape_of s nodes entries = (
      λ q. nodes q ∙ ap (λ o. is_node_depth q && is_some o) (sym (reads_node (chunks_of q))),
      λ q. entries q
          ∙ sym (reads_value (chunks_of q) (bit_of q)),
    )

    -- the shape has exactly the nodes that are read
    pub shape_nodes : (s : State T) → IsShapeOf v.slots w.slots s → (q : List Bool) → has_node s.nodes q ≡ (is_node_depth q && is_some (reading (chunks_of q)))
    shape_nodes s is q = is.0 q ∙ ap (λ o. is_node_depth q && is_some o) (reads_node (chunks_of q))

    -- the shape has exactly the values that are read
    pub shape_entries : (s : State T) → IsShapeOf v.slots w.slots s → (q : List Bool) → get s.entries q ≡ values (chunks_of q) (bit_of q)
    shape_entries s is q = is.1 q ∙ reads_value (chunks_of q) (bit_of q)

  -- the shape after an insertion
  abbrev pub shape_with : State T → List Bool → T → State T
  shape_with s key x = record { entries = with_entry s.entries key x; nodes = with_needed s.nodes key }

  module _ (reading : List ℕ → Option Node) (values : List ℕ → ℕ → Option T) (paths : List (List ℕ)) (v v2 : Store Node) (w w2 : Store (Option T))
      (holds : Holds reading values paths v w) where
    -- the shape after an entry was added
    pub shape_added : (key : List Bool) (x : T) (s : State T) → IsShapeOf v.slots w.slots s →
        EntryAdded reading values paths (chunks_of key) (bit_of key) (Some x) v2 w2 → IsShapeOf v2.slots w2.slots (shape_with s key x)
    shape_added key x s is a = shape_of a.later (with_value values (chunks_of key) (bit_of key) (Some x)) a.paths v2 w2 a.holds (shape_with s key x)
        (λ q. has-with_nodes s.nodes (nodes_above key) q
        ∙ ap₂ (λ a b. a || b) (any-node_above q key) (shape_nodes reading values paths v w holds s is q) ∙ at_depth q (is_node_depth q) refl
        ∙ ap (λ t. is_node_depth q && t) (sym (a.grown (chunks_of q))))
        (λ q. get-insert listing_total s.entries key x q ∙ ap₂ (λ t o. cond t (Some x) o) (same_key q key) (shape_entries reading values paths v w holds s is q))
      where
        both : (a b c : Bool) → a ≡ c → (a || b) ≡ (b || c)
        both true true c e = refl
        both true false c e = e
        both false true c e = refl
        both false false c e = e

        at_depth : (q : List Bool) (d : Bool) → is_node_depth q ≡ d →
            ((d && begins q key) || (d && is_some (reading (chunks_of q)))) ≡ (d && (is_some (reading (chunks_of q)) || is_start (chunks_of q)
            (chunks_of key)))
        at_depth q false e = refl
        at_depth q true e = both (begins q key) (is_some (reading (chunks_of q))) (is_start (chunks_of q) (chunks_of key))
            (sym (begins-search_path q key (eqb-true (length q % 5) 0 e)))

    -- the shape if nothing was added
    pub shape_kept : (s : State T) → IsShapeOf v.slots w.slots s → Holds reading values paths v2 w2 → IsShapeOf v2.slots w2.slots s
    shape_kept s is later = shape_of reading values paths v2 w2 later s (shape_nodes reading values paths v w holds s is)
        (shape_entries reading values paths v w holds s is)

-- the readings of a table with the root alone
abbrev pub root_reading : List ℕ → Option Node
root_reading q = cond (same_path q []) (Some blank_node) None

root_below : (q : List ℕ) (c : ℕ) → root_reading (q ++ c ∷ []) ≡ None
root_below q c = ap (λ b. cond b (Some blank_node) None) (same_path-not (q ++ c ∷ []) [] (snoc_not_nil q c))

-- the root of such a table is blank
pub root_here : root_reading [] ≡ Some blank_node
root_here = ap (λ b. cond b (Some blank_node) None) (same_path-itself [])

-- such a table has no entries
pub root_counted : entry_count root_reading ([] ∷ []) ≡ 0
root_counted = omega (arith, rank-zero-all)

module _ {T : Type 0} where
  -- the readings of no values
  abbrev pub no_values : List ℕ → ℕ → Option T
  no_values q b = None

  -- two new arrays hold the root alone
  pub root_holds : (v : Store Node) (w : Store (Option T)) → v.slots ≡ blank_node ∷ [] → v.first ≡ 1 → v.tiers ≡ map no_blocks node_sizes →
      Sound blank_node [] v → w.tiers ≡ map no_blocks cell_sizes → Sound None [] w → Holds root_reading no_values ([] ∷ []) v w
  root_holds v w slots first tiers sound cell_tiers cell_sound = record {
    hold = record {
      rooted = root_here ∙ ap (λ xs. Some (node_at xs 0)) (sym slots);
      linked = λ p c. ap is_some (root_below p c) ∙ sym (no_child (same_path p []) c);
      listed = λ q. count (same_path q []);
      sound = subst (λ bs. Sound blank_node (bs ++ []) v) (sym (blank_blocks node_sizes root_reading [] root_here)) sound;
      first_is = first;
      sizes_are = ap tier_sizes tiers;
    };
    cells = record {
      set_where = λ p b. sym (no_value (same_path p []) b);
      sound = subst (λ bs. Sound None (bs ++ []) w)
          (sym (ap (value_blocks_of cell_sizes no_values []) root_here
          ∙ ap (λ bs. held 0 0 (size_in cell_sizes 0) (map (no_values []) bs)) bits-zero)) cell_sound;
      sizes_are = ap tier_sizes cell_tiers;
      within = λ p b some. absurd (false≢true some);
    };
  }
    where
      no_child : (b : Bool) (c : ℕ) → has_child (cond b (Some blank_node) None) c ≡ false
      no_child true c = has_bit-zero c
      no_child false c = refl

      no_value : (b : Bool) (c : ℕ) → has_value (cond b (Some blank_node) None) c ≡ false
      no_value true c = has_bit-zero c
      no_value false c = refl

      count : (b : Bool) → one_if b + 0 ≡ one_if (is_some (cond b (Some blank_node) None))
      count true = refl
      count false = refl

  -- the shape of a table with the root alone
  abbrev pub root_shape : State T
  root_shape = record { entries = no_entries; nodes = root_alone }

  -- it is the shape of two new arrays
  pub shaped_root : (v : Store Node) (w : Store (Option T)) → Holds root_reading no_values ([] ∷ []) v w → IsShapeOf v.slots w.slots root_shape
  shaped_root v w holds = shape_of root_reading no_values ([] ∷ []) v w holds root_shape
      (λ q. has-root_alone q ∙ at_root q ∙ ap (λ b. is_node_depth q && b) (either (same_path (chunks_of q) [])))
      (λ q. get-empty _ q)
    where
      either : (b : Bool) → b ≡ is_some (cond b (Some blank_node) None)
      either true = refl
      either false = refl

      at_root : (q : List Bool) → same_string q [] ≡ (is_node_depth q && same_path (chunks_of q) [])
      at_root q = same_bool _ _
          (λ h. let e : q ≡ [] = same_string-is q [] h in subst (λ x. (is_node_depth x && same_path (chunks_of x) []) ≡ true) (sym e) refl)
          (λ h. let w = and_parts (is_node_depth q) (same_path (chunks_of q) []) h in
          is-same_string q [] (same_above q [] (eqb-true (length q % 5) 0 w.0) refl (same_path-true (chunks_of q) [] w.1)))

-- a limit that is not 0 is at least 1
pub some_limit : (limit : ℕ) → (limit ≡ 0 → ⊥) → 0 < limit
some_limit limit h = elim (cases_lt 0 limit) as (λ _. 0 < limit) [
  | inl some ↦ some
  | inr none ↦ absurd (h (omega (arith, none)))
]

-- a new table
module _ {T : Type 0} (v : Store Node) (w : Store (Option T)) (limit : ℕ)
    (v_is : v ≡ record { slots = blank_node ∷ []; first = 1; tiers = map no_blocks node_sizes; limit = limit; capacities = v.capacities }) (v_sound : Sound blank_node [] v)
    (w_is : w ≡ record { slots = []; first = 0; tiers = map no_blocks cell_sizes; limit = limit; capacities = w.capacities }) (w_sound : Sound None [] w) where
  -- its arrays hold the root alone
  pub new_holds : Holds root_reading no_values ([] ∷ []) v w
  new_holds =
      root_holds v w (ap (λ (x : Store Node). x.slots) v_is) (ap (λ (x : Store Node). x.first) v_is) (ap (λ (x : Store Node). x.tiers) v_is) v_sound
      (ap (λ (x : Store (Option T)). x.tiers) w_is) w_sound

  -- its shape is that of the root alone
  pub new_shape : IsShapeOf v.slots w.slots root_shape
  new_shape = shaped_root v w new_holds

  -- it has no other shape
  pub new_only : (s : Shaped v.slots w.slots) → s.0 ≡ root_shape
  new_only s = same_shape v.slots w.slots s.0 root_shape s.1 new_shape

  -- it is a table without entries
  pub new_table : 0 < limit → (s : Shaped v.slots w.slots) → IsTable v w 0 s.0
  new_table some s = record {
    reading = root_reading;
    values = no_values;
    paths = [] ∷ [];
    nodes = new_holds.hold;
    cells = new_holds.cells;
    counted = sym root_counted;
    sized = sym (ap (λ (x : State T). len x.entries) (new_only s) ∙ len-empty _ T);
    cells_first = ap (λ (x : Store (Option T)). x.first) w_is;
    one_limit = ap (λ (x : Store (Option T)). x.limit) w_is ∙ sym (ap (λ (x : Store Node). x.limit) v_is);
    nodes_within = (let n = ap (λ (x : Store Node). length x.slots) v_is in let l = ap (λ (x : Store Node). x.limit) v_is in omega (arith, n, l, some));
    cells_within = (let n = ap (λ (x : Store (Option T)). length x.slots) w_is in omega (arith, n));
  }

-- the number of entries after an insertion, which is one more or the same
one_more : (c n l : ℕ) (b : Bool) → c ≡ l → n + one_if b ≡ c + 1 → n ≡ cond b l (l + 1)
one_more c n l true e f = omega (arith, e, f)
one_more c n l false e f = omega (arith, e, f)

-- an insertion, and what it leaves of the table
module _ {T : Type 0} (key : List Bool) (x : T) (v v2 : Store Node) (w w2 : Store (Option T)) (count count2 : ℕ) (s : Shaped v.slots w.slots)
    (is : IsTable v w count s.0) where
  held_by : Holds is.reading is.values is.paths v w
  held_by = (some_table is).holds

  entry_is : get s.0.entries key ≡ is.values (chunks_of key) (bit_of key)
  entry_is = shape_entries is.reading is.values is.paths v w held_by s.0 s.1 key

  module _ {E : Type 0} where
    -- what the insertion says about the nodes and values of the old arrays
    abbrev pub Leaves : Result (Option T) E → Type 0
    Leaves r =
        (reading : List ℕ → Option Node) (paths : List (List ℕ)) (values : List ℕ → ℕ → Option T) → Holds reading values paths v w
        → MatchResult r (λ before. (before ≡ values (chunks_of key) (bit_of key)) ×
        EntryAdded reading values paths (chunks_of key) (bit_of key) (Some x) v2 w2) (λ _. Holds reading values paths v2 w2)

    -- how the insertion changes the number of entries
    abbrev pub Counts : Result (Option T) E → Type 0
    Counts r = MatchResult r (λ before. count2 + one_if (is_some before) ≡ count + 1) (λ _. count2 ≡ count)

    -- the shape that the insertion leaves
    abbrev pub shape_left : Result (Option T) E → State T
    shape_left (Ok before) = shape_with s.0 key x
    shape_left (Err e) = s.0

    -- the arrays have that shape
    pub left_is : (r : Result (Option T) E) → Leaves r → IsShapeOf v2.slots w2.slots (shape_left r)
    left_is (Ok before) left = shape_added is.reading is.values is.paths v v2 w w2 held_by key x s.0 s.1
        (left is.reading is.paths is.values held_by).1
    left_is (Err e) left = shape_kept is.reading is.values is.paths v v2 w w2 held_by s.0 s.1
        (left is.reading is.paths is.values held_by)

    -- so the arrays have a shape
    pub left_shape : (r : Result (Option T) E) → Leaves r → Shaped v2.slots w2.slots
    left_shape r left = (shape_left r, left_is r left)

    -- they have no other shape
    pub left_only : (r : Result (Option T) E) → Leaves r → (t : Shaped v2.slots w2.slots) → t.0 ≡ shape_left r
    left_only r left t = same_shape v2.slots w2.slots t.0 (shape_left r) t.1 (left_is r left)

    counted_left : (r : Result (Option T) E) → Leaves r → Counts r → (t : SomeTable v2 w2) × (count2 ≡ entry_count t.reading t.paths)
    counted_left (Ok before) left counts =
        let a = left is.reading is.paths is.values held_by in
        let had : one_if (is_some before) ≡ one_if (is_some (is.values (chunks_of key) (bit_of key))) = ap (λ o. one_if (is_some o)) a.0 in (
          record { reading = a.1.later; values = with_value is.values (chunks_of key) (bit_of key) (Some x); paths = a.1.paths; holds = a.1.holds },
          (let n = a.1.counted in let h = is.counted in omega (arith, n, h, had, counts)),
        )
    counted_left (Err e) left counts = (
      record { reading = is.reading; values = is.values; paths = is.paths; holds = left is.reading is.paths is.values held_by },
      counts ∙ is.counted,
    )

    sized_left : (r : Result (Option T) E) → Leaves r → Counts r → count2 ≡ len (shape_left r).entries
    sized_left (Ok before) left counts =
        let a = left is.reading is.paths is.values held_by in
        let had : is_some before ≡ contains_key s.0.entries key = ap is_some (a.0 ∙ sym entry_is) in
        one_more count count2 (len s.0.entries) (is_some before) is.sized counts ∙ ap (λ b. cond b (len s.0.entries) (len s.0.entries + 1)) had
        ∙ sym (len-insert listing_total s.0.entries key x)
    sized_left (Err e) left counts = counts ∙ is.sized

    -- they are a table
    pub table_left : (r : Result (Option T) E) → Leaves r → Counts r → Grows v v2 56 → Grows w w2 31 → (t : Shaped v2.slots w2.slots) →
        IsTable v2 w2 count2 t.0
    table_left r left counts nodes cells t = let held = counted_left r left counts in record {
      reading = held.0.reading;
      values = held.0.values;
      paths = held.0.paths;
      nodes = held.0.holds.hold;
      cells = held.0.holds.cells;
      counted = held.1;
      sized = sized_left r left counts ∙ ap (λ (y : State T). len y.entries) (sym (left_only r left t));
      cells_first = cells.first_is ∙ is.cells_first;
      one_limit = cells.limit_is ∙ is.one_limit ∙ sym nodes.limit_is;
      nodes_within = nodes.within is.nodes_within;
      cells_within = cells.within is.cells_within;
    }

    -- the result is the previous value
    pub before_left : (r : Result (Option T) E) → Leaves r → IfOk r (λ before. before ≡ get s.0.entries key)
    before_left (Ok before) left = (left is.reading is.paths is.values held_by).0 ∙ sym entry_is
    before_left (Err e) left = tt
