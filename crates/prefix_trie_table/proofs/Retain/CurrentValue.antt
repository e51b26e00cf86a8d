-- The value at a bit of the current node: its slot, its key, and what calling the test on it leaves.
use Rattle.prefix_trie_table.proofs.Prelude.{◌≡◌, ℕ, ◌+◌, ◌-◌, ◌/◌, ◌<◌, ◌≤◌, Bool, true, false, cond, List, [], ◌∷◌, ◌++◌, length, take, get_or, Option, None, Some, is_some, sym, ap, ap₂, ◌∙◌, subst, arith, get_or_default, get, digits, zeros, length-digits, take-extend, has, value_bit, CallableOnEachEntry, without_entry, listing_at_places, State, Node, Site, rank, Store, Grows, IsTrie, read, value_in, value_of, NodesHold, CellsHold, IsSlot, node_sizes, cell_sizes, ValueTaken, IsSite, RetainsTo, BlocksBetween}
use Rattle.prefix_trie_table.proofs.Tree.Invariant.{some_table}
use Rattle.prefix_trie_table.proofs.Retain.TestCallsBelow.{may_ask_value, value_stays, value_goes}
use Rattle.prefix_trie_table.proofs.Retain.RetainedTables.{here_length, here_whole, key_path, key_bit, bit_set, some_there, site_stays, some_counted, removed_is, value_above, blocks_after, value_read_after, trie_taken}
use Rattle.prefix_trie_table.proofs.Tree.Shapes.{shape_entries}
use Rattle.prefix_trie_table.proofs.Tree.Subtrees.{value_inside, value_fits}

module _ {K T : Type 0} (IsKey : K → Type 0) (bits : K → List Bool) (width : ℕ) (v : Store Node) (p : Site K) (node : Node) (at : IsSite IsKey bits width v p node)
    (bits_length : (k : K) → IsKey k → length (bits k) ≡ width) (count : ℕ) (w : Store (Option T)) (s : State T) (trie : IsTrie width count v w s)
    (bit n x : ℕ) (small : bit < 31) (few : n ≤ 4) (bit_is : value_bit (digits n x) ≡ bit) (set : has node.value_bitmap bit ≡ true) where
  long : length (bits p.key) ≡ width
  long = bits_length p.key at.key

  pub short : length (digits n x) ≤ 4
  short = let l = length-digits n x in omega (arith, l, few)

  set_there : has node.value_bitmap (value_bit (digits n x)) ≡ true
  set_there = ap (has node.value_bitmap) bit_is ∙ set

  slot_same : (slot : ℕ) → slot ≡ node.value_block + rank node.value_bitmap bit → node.value_block + rank node.value_bitmap (value_bit (digits n x)) ≡ slot
  slot_same slot is = ap (λ b. node.value_block + rank node.value_bitmap b) bit_is ∙ sym is

  pub value_slot : (slot : ℕ) → slot ≡ node.value_block + rank node.value_bitmap bit → slot < length w.slots
  value_slot slot is =
      subst (λ k. k < length w.slots) (slot_same slot is)
      (value_inside width v (record { count = count; cells = w; shape = s }) trie (take p.depth (bits p.key)) node
      (here_whole IsKey bits width v p node at long) at.is_there (digits n x) short set_there)

  cell_is : get s.entries (take p.depth (bits p.key) ++ digits n x) ≡ get_or w.slots (node.value_block + rank node.value_bitmap (value_bit (digits n x))) None
  unfolding value_in
  cell_is =
      trie.shaped.1 (take p.depth (bits p.key) ++ digits n x)
      ∙ ap₂ (value_of w.slots)
      (ap (read v.slots) (key_path IsKey bits width v p node at long count w s trie (digits n x) short set_there) ∙ at.is_there)
      (key_bit IsKey bits width v p node at long count w s trie (digits n x) short set_there)
      ∙ ap (λ b. cond b (get_or w.slots (node.value_block + rank node.value_bitmap (value_bit (digits n x))) None) None)
      (bit_set IsKey bits width v p node at long count w s trie (digits n x) short set_there)

  -- the value in the slot is the stored one
  pub value_got : (slot : ℕ) (o : Option T) → slot ≡ node.value_block + rank node.value_bitmap bit → o ≡ get_or w.slots slot o →
      get s.entries (take p.depth (bits p.key) ++ digits n x) ≡ o
  value_got slot o is held =
      cell_is ∙ ap (λ k. get_or w.slots k None) (slot_same slot is)
      ∙ get_or_default w.slots slot None o (value_slot slot is) ∙ sym held

  -- there is a value
  pub value_some : is_some (get s.entries (take p.depth (bits p.key) ++ digits n x)) ≡ true
  value_some =
      ap is_some (shape_entries trie.table.reading trie.table.values trie.table.paths v w (some_table trie.table).holds s trie.shaped (take p.depth (bits p.key) ++ digits n x))
      ∙ some_there IsKey bits width v p node at long count w s trie (digits n x) short set_there
      trie.table.reading trie.table.paths trie.table.values (some_table trie.table).holds

  pub value_space : p.depth + n ≤ width
  value_space =
      let h = value_fits width v (record { count = count; cells = w; shape = s }) trie (take p.depth (bits p.key)) node
      (here_whole IsKey bits width v p node at long) at.is_there (digits n x) short set_there in
      omega (arith, h, here_length IsKey bits width v p node at long, length-digits n x)

  pub key_taken : (key : K) → bits key ≡ take p.depth (bits p.key) ++ digits n x ++ zeros (width - (p.depth + n)) → take (p.depth + n) (bits key) ≡ take p.depth (bits p.key) ++ digits n x
  key_taken key extended = take-extend (bits p.key) (bits key) width p.depth n x long value_space extended

  module _ (path : List Bool) (path_is : path ≡ take p.depth (bits p.key) ++ digits n x)
      {F : Type 0} (may_return : F → List Bool → T → Bool → F → Type 0) (accepts : F → List Bool → T → Type 0) (value : T)
      (got : get s.entries (take p.depth (bits p.key) ++ digits n x) ≡ Some value) (f : F) where
    pub may_ask_here : CallableOnEachEntry may_return accepts f (listing_at_places s.entries (take p.depth (bits p.key)) (digits n x ∷ [])) → accepts f path value
    may_ask_here may =
        subst (λ k. accepts f k value) (sym path_is) (may_ask_value may_return accepts (take p.depth (bits p.key)) (digits n x) short s value got f may)

    -- if the result is true, everything stays
    pub stays_here : (g : F) (b : Bool) → may_return f path value b g → b ≡ true →
        RetainsTo may_return accepts width (take p.depth (bits p.key)) (digits n x ∷ []) f s g count v w
    stays_here g b called is = record {
      after = s;
      trie = trie;
      retains =
          value_stays may_return accepts (take p.depth (bits p.key)) (digits n x) short s value got f g
          (subst (λ k. may_return f k value true g) path_is (subst (λ c. may_return f path value c g) is called));
    }

    -- if the result is false, the entry is removed
    pub goes_here : (g : F) (b : Bool) (count2 : ℕ) (v2 : Store Node) (w2 : Store (Option T)) → may_return f path value b g → b ≡ false →
        IsTrie width count2 v2 w2 (record { entries = without_entry s.entries (take p.depth (bits p.key) ++ digits n x); nodes = s.nodes }) →
        RetainsTo may_return accepts width (take p.depth (bits p.key)) (digits n x ∷ []) f s g count2 v2 w2
    goes_here g b count2 v2 w2 called is later = record {
      after = record { entries = without_entry s.entries (take p.depth (bits p.key) ++ digits n x); nodes = s.nodes };
      trie = later;
      retains =
          value_goes may_return accepts (take p.depth (bits p.key)) (digits n x) short s value got f g
          (subst (λ k. may_return f k value false g) path_is (subst (λ c. may_return f path value c g) is called));
    }

  -- the value that is removed from its slot
  module _ (removed : Option T) (m : Node) (v2 : Store Node) (w2 : Store (Option T))
      (gives : (reading : List ℕ → Option Node) (paths : List (List ℕ)) (values : List ℕ → ℕ → Option T) (q : List ℕ) (k : Node) → NodesHold node_sizes reading paths v →
      CellsHold cell_sizes reading values paths w → IsSlot reading q p.slot → reading q ≡ Some k → removed ≡ values q bit)
      (takes : (reading : List ℕ → Option Node) (paths : List (List ℕ)) (values : List ℕ → ℕ → Option T) (q : List ℕ) (k : Node) → NodesHold node_sizes reading paths v →
      CellsHold cell_sizes reading values paths w → IsSlot reading q p.slot → reading q ≡ Some k →
      ValueTaken reading paths values q bit k m v2 w w2) where
    gives_here : (reading : List ℕ → Option Node) (paths : List (List ℕ)) (values : List ℕ → ℕ → Option T) (q : List ℕ) (k : Node) → NodesHold node_sizes reading paths v →
        CellsHold cell_sizes reading values paths w → IsSlot reading q p.slot → reading q ≡ Some k → removed ≡ values q (value_bit (digits n x))
    gives_here reading paths values q k hold cells slot is = gives reading paths values q k hold cells slot is ∙ ap (values q) (sym bit_is)

    takes_here : (reading : List ℕ → Option Node) (paths : List (List ℕ)) (values : List ℕ → ℕ → Option T) (q : List ℕ) (k : Node) → NodesHold node_sizes reading paths v →
        CellsHold cell_sizes reading values paths w → IsSlot reading q p.slot → reading q ≡ Some k →
        ValueTaken reading paths values q (value_bit (digits n x)) k m v2 w w2
    takes_here reading paths values q k hold cells slot is =
        subst (λ b. ValueTaken reading paths values q b k m v2 w w2) (sym bit_is) (takes reading paths values q k hold cells slot is)

    pub counted_here : 0 < count
    counted_here = some_counted IsKey bits width v p node at long count w s trie (digits n x) short set_there removed m v2 w2 0 gives_here takes_here

    -- it is the stored value
    pub taken_here : get s.entries (take p.depth (bits p.key) ++ digits n x) ≡ removed
    taken_here = removed_is IsKey bits width v p node at long count w s trie (digits n x) short set_there removed m v2 w2 0 gives_here takes_here

    pub above_here : (q : List ℕ) → length q < p.depth / 5 → read v2.slots q ≡ read v.slots q
    above_here = value_above IsKey bits width v p node at long count w s trie (digits n x) short set_there removed m v2 w2 0 gives_here takes_here

    pub blocks_here : (q : List ℕ) → BlocksBetween (read v.slots q) (read v2.slots q)
    blocks_here = blocks_after IsKey bits width v p node at long count w s trie (digits n x) short set_there removed m v2 w2 0 gives_here takes_here

    pub site_here : IsSite IsKey bits width v2 p m
    site_here =
        site_stays IsKey bits width v p node at long v2 m above_here
        (value_read_after IsKey bits width v p node at long count w s trie (digits n x) short set_there removed m v2 w2 0 gives_here takes_here)

    pub trie_goes : (count2 : ℕ) → count2 ≡ count - 1 → Grows v v2 24 → Grows w w2 24 →
        IsTrie width count2 v2 w2 (record { entries = without_entry s.entries (take p.depth (bits p.key) ++ digits n x); nodes = s.nodes })
    trie_goes count2 = trie_taken IsKey bits width v p node at long count w s trie (digits n x) short set_there removed m v2 w2 count2 gives_here takes_here
