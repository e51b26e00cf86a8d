-- What a table has at the places of a node and under them: for walks and `retain`.
use Rattle.prefix_trie_table.proofs.Prelude.{◌≡◌, ℕ, ◌+◌, ◌%◌, ◌^◌, ◌<◌, ◌≤◌, Bool, true, false, cond, List, [], ◌∷◌, ◌++◌, length, drop, get_or, Option, None, Some, is_some, refl, sym, ap, ap₂, ◌∙◌, subst, arith, inl, inr, append-nil, length-append, ◌==◌, false≢true, cases_lt, le-ltb, get, number, begins, begins-rest, number-lt, has, value_bit, is_in, places, has_node, is_node_depth, listing_below, listing_at_place, listing_at_places, value_bit-small, listing_by_node_places, listing_at_value, listing_at_no_value, listing_at_child, listing_below_none, Node, has_bit, rank, node_at, node_sizes, cell_sizes, chunks_of, bit_of, Store, read, read_from, below, child, child_slot, has_value, value_of, at_root, Tree, IsTrie}
use Rattle.std.proofs.lemmas.Bool.{lt-ltb}
use Rattle.prefix_trie_table.proofs.Strings.SmallFacts.{both_true, no_or_yes}
use Rattle.prefix_trie_table.proofs.Tree.Invariant.{some_table}
use Rattle.prefix_trie_table.proofs.Strings.Bits.{has_bit-is}
use Rattle.prefix_trie_table.proofs.Tree.Trees.{is_none-None, reads, slot_holds, read-snoc, child-there, child-missing, child_is_there}
use Rattle.prefix_trie_table.proofs.Tree.Values.{value_is_there}
use Rattle.prefix_trie_table.proofs.Tree.Shapes.{reads_node, shape_entries}
use Rattle.prefix_trie_table.proofs.Lookup.EntryMatches.{has_nodes}
use Rattle.prefix_trie_table.proofs.Strings.Digits.{short_path, five_path, search_paths-append}
pub use Rattle.prefix_trie_table.proofs.Strings.Digits.{path-append}

-- from a missing node, every path leads to nothing
pub read_from-none : (nodes : List Node) (p : List ℕ) → read_from nodes None p ≡ None
read_from-none nodes [] = refl
read_from-none nodes (c ∷ p) = read_from-none nodes p

read_from-append : (nodes : List Node) (at : Option Node) (p q : List ℕ) → read_from nodes at (p ++ q) ≡ read_from nodes (read_from nodes at p) q
read_from-append nodes at [] q = refl
read_from-append nodes at (c ∷ p) q = read_from-append nodes (below nodes at c) p q

-- there is no node under a missing node
pub read-missing : (nodes : List Node) (p q : List ℕ) → read nodes p ≡ None → read nodes (p ++ q) ≡ None
unfolding read
read-missing nodes p q h = read_from-append nodes (Some (node_at nodes 0)) p q ∙ ap (λ o. read_from nodes o q) h ∙ read_from-none nodes q

some-is : {X : Type 0} (o : Option X) → is_some o ≡ true → (x : X) × (o ≡ Some x)
some-is None h = absurd (false≢true h)
some-is (Some x) h = (x, refl)

pub is_in-value : (values children : ℕ) (s : List Bool) → length s < 5 → is_in values children s ≡ has values (value_bit s)
is_in-value values children s h = ap (λ c. cond c (has values (value_bit s)) (has children (number s))) (lt-ltb (length s) 5 h)

pub is_in-child : (values children : ℕ) (s : List Bool) → length s ≡ 5 → is_in values children s ≡ has children (number s)
is_in-child values children s h = ap (λ c. cond c (has values (value_bit s)) (has children (number s))) (le-ltb (length s) 5 (omega arith))

-- the number of a child is below 32
pub number-small : (s : List Bool) → length s ≡ 5 → number s < 32
number-small s h = subst (λ n. number s < 2 ^ n) h (number-lt s)

module _ {T : Type 0} (width : ℕ) (v : Store Node) (t : Tree T) (tree : IsTrie width t.count v t.cells t.shape) where
  -- nothing is stored under a string without a node
  pub nothing_below : (q : List Bool) → length q % 5 ≡ 0 → read v.slots (chunks_of q) ≡ None → listing_below t.shape.entries q ≡ []
  nothing_below q whole missing = listing_below_none t.shape.entries q (λ k has. no_or_yes (begins q k) (λ e.
      let search_path : chunks_of k ≡ chunks_of q ++ chunks_of (drop (length q) k) = ap chunks_of (begins-rest q k e) ∙ path-append q (drop (length q) k) whole in
      let none : read v.slots (chunks_of k) ≡ None = ap (read v.slots) search_path ∙ read-missing v.slots (chunks_of q) (chunks_of (drop (length q) k)) missing in
      absurd (false≢true (sym (ap is_some (tree.shaped.1 k ∙ ap (λ o. value_of t.cells.slots o (bit_of k)) none)) ∙ has))))

  -- no node has value bit 31
  pub few_at : (p : List ℕ) (n : Node) → read v.slots p ≡ Some n → has_bit n.value_bitmap 31 ≡ false
  few_at p n is =
      let h = has_nodes v t.cells (some_table tree.table) in h.1 p n (sym (reads node_sizes h.0.reading h.0.paths v h.0.hold p) ∙ is)

  -- the root has a slot
  pub root_inside : 0 < length v.slots
  root_inside =
      let h = tree.table.nodes in
      (slot_holds node_sizes tree.table.reading tree.table.paths v h [] 0 (node_at v.slots 0) at_root h.rooted).1

  module _ (q : List Bool) (n : Node) (whole : length q % 5 ≡ 0) (is_there : read v.slots (chunks_of q) ≡ Some n) where
    node_is : tree.table.reading (chunks_of q) ≡ Some n
    node_is = sym (reads_node tree.table.reading tree.table.values tree.table.paths v t.cells (some_table tree.table).holds (chunks_of q)) ∙ is_there

    -- ---- a place of less than five bits

    module _ (s : List Bool) (short : length s ≤ 4) where
      bit_small : value_bit s < 32
      bit_small = let h = value_bit-small s short in omega (arith, h)

      value_is : get t.shape.entries (q ++ s) ≡ tree.table.values (chunks_of q) (value_bit s)
      value_is =
          shape_entries tree.table.reading tree.table.values tree.table.paths v t.cells (some_table tree.table).holds t.shape tree.shaped (q ++ s)
          ∙ ap₂ tree.table.values
          (path-append q s whole ∙ ap (λ p. chunks_of q ++ p) (short_path s short).0 ∙ append-nil (chunks_of q))
          (ap value_bit ((search_paths-append q s whole).1 ∙ (short_path s short).1))

      has_value_is : is_some (tree.table.values (chunks_of q) (value_bit s)) ≡ has n.value_bitmap (value_bit s)
      has_value_is =
          tree.table.cells.set_where (chunks_of q) (value_bit s) ∙ ap (λ o. has_value o (value_bit s)) node_is
          ∙ has_bit-is n.value_bitmap (value_bit s) bit_small

      -- if the bit is clear, nothing is stored
      no_value_there : has n.value_bitmap (value_bit s) ≡ false → get t.shape.entries (q ++ s) ≡ None
      no_value_there clear = value_is ∙ is_none-None (tree.table.values (chunks_of q) (value_bit s)) (has_value_is ∙ clear)

      module _ (set : has n.value_bitmap (value_bit s) ≡ true) where
        -- if the bit is set, a value is stored
        value_there : (x : T) × (get t.shape.entries (q ++ s) ≡ Some x)
        value_there = some-is (get t.shape.entries (q ++ s)) (ap is_some value_is ∙ has_value_is ∙ set)

        cell_there : (get_or t.cells.slots (n.value_block + rank n.value_bitmap (value_bit s)) None ≡ tree.table.values (chunks_of q) (value_bit s))
            × (n.value_block + rank n.value_bitmap (value_bit s) < length t.cells.slots)
        cell_there =
            let h = value_is_there cell_sizes node_sizes tree.table.reading tree.table.paths v tree.table.nodes tree.table.values t.cells tree.table.cells (chunks_of q) n (value_bit s) node_is (has_bit-is n.value_bitmap (value_bit s) bit_small ∙ set) in
            (h.1, h.2)

        -- the stored value
        pub stored_value : T
        stored_value = value_there.0

        pub value_read : get_or t.cells.slots (n.value_block + rank n.value_bitmap (value_bit s)) None ≡ Some stored_value
        unfolding stored_value
        value_read = cell_there.0 ∙ sym value_is ∙ value_there.1

        pub value_inside : n.value_block + rank n.value_bitmap (value_bit s) < length t.cells.slots
        value_inside = cell_there.1

        -- the listing has the value at this place
        pub value_listed : listing_at_place t.shape.entries q s ≡ (q ++ s, stored_value) ∷ []
        unfolding stored_value
        value_listed = listing_at_value t.shape.entries q s value_there.0 short value_there.1

        -- the key is within the width
        pub value_fits : length q + length s ≤ width
        value_fits =
            let h = tree.within (q ++ s) (ap is_some value_there.1) in omega (arith, h, length-append q s)

    -- ---- a place of five bits

    module _ (s : List Bool) (five : length s ≡ 5) where
      child_small : number s < 32
      child_small = number-small s five

      longer : length (q ++ s) % 5 ≡ 0
      longer = omega (arith, whole, length-append q s, five)

      child_read : read v.slots (chunks_of (q ++ s)) ≡ child v.slots n (number s)
      child_read =
          ap (read v.slots) (path-append q s whole ∙ ap (λ p. chunks_of q ++ p) (five_path s five)) ∙ read-snoc v.slots (chunks_of q) (number s)
          ∙ ap (λ o. below v.slots o (number s)) is_there

      no_child_there : has n.child_bitmap (number s) ≡ false → listing_below t.shape.entries (q ++ s) ≡ []
      no_child_there clear =
          nothing_below (q ++ s) longer
          (child_read ∙ child-missing v.slots n (number s) (has_bit-is n.child_bitmap (number s) child_small ∙ clear))

      module _ (set : has n.child_bitmap (number s) ≡ true) where
        child_set : has_bit n.child_bitmap (number s) ≡ true
        child_set = has_bit-is n.child_bitmap (number s) child_small ∙ set

        -- if the bit is set, there is a child
        pub child_is : read v.slots (chunks_of (q ++ s)) ≡ Some (node_at v.slots (child_slot n (number s)))
        child_is = child_read ∙ child-there v.slots n (number s) child_set

        pub child_inside : child_slot n (number s) < length v.slots
        child_inside = (child_is_there node_sizes tree.table.reading tree.table.paths v tree.table.nodes (chunks_of q) n (number s) node_is child_set).2

        -- the child has no value bit 31
        pub child_few : has_bit (node_at v.slots (child_slot n (number s))).value_bitmap 31 ≡ false
        child_few = few_at (chunks_of (q ++ s)) (node_at v.slots (child_slot n (number s))) child_is

        -- the string of the child is within the width
        pub child_fits : length q + 5 ≤ width
        child_fits =
            let there : has_node t.shape.nodes (q ++ s) ≡ true = tree.shaped.0 (q ++ s) ∙ both_true (is_node_depth (q ++ s)) _ (ap (λ k. k == 0) longer) (ap is_some child_is) in
            let h = tree.nodes.within (q ++ s) there in omega (arith, h, length-append q s, five)

    -- ---- all places

    pub unset : (s : List Bool) → length s ≤ 5 → is_in n.value_bitmap n.child_bitmap s ≡ false → listing_at_place t.shape.entries q s ≡ []
    unset s most clear = elim (cases_lt (length s) 5) as (λ _. listing_at_place t.shape.entries q s ≡ []) [
      | inl l ↦
          let short : length s ≤ 4 = omega arith in
          listing_at_no_value t.shape.entries q s short (no_value_there s short (sym (is_in-value n.value_bitmap n.child_bitmap s l) ∙ clear))
      | inr g ↦
          let five : length s ≡ 5 = omega arith in
          listing_at_child t.shape.entries q s five ∙ no_child_there s five (sym (is_in-child n.value_bitmap n.child_bitmap s five) ∙ clear)
    ]

    -- what is under a node is what is at its places
    pub all_places : listing_at_places t.shape.entries q (places n.value_bitmap n.child_bitmap) ≡ listing_below t.shape.entries q
    all_places = listing_by_node_places t.shape.entries q n.value_bitmap n.child_bitmap unset
