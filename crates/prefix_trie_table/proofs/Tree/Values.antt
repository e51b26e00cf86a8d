-- The values of an array, read by paths, after changes of nodes and of values.
use Rattle.prefix_trie_table.proofs.Prelude.{◌≡◌, ◌≢◌, ℕ, ◌+◌, ◌<◌, ◌≤◌, ◌⊎◌, inl, inr, true, false, cond, List, [], ◌∷◌, ◌++◌, length, get_or, set, insert, remove, map, flat_map, Option, None, Some, is_some, refl, sym, ap, ◌∙◌, subst, arith, length-insert, Node, has_bit, bits, rank, Store, UsedBlock, Sound, block, one_if, times, without, has_value, has_child, NodesHold, CellsHold, value_blocks, value_blocks_of, with_child, with_child_removed, with_node, with_value, blank_node}
use Rattle.std.proofs.lemmas.List.{length-set}
use Rattle.prefix_trie_table.specs.Forest.{held, size_in, tier_sizes}
use Rattle.prefix_trie_table.proofs.Blocks.Soundness.{Sound-set, slot_of_block, block_inside, fits_block}
use Rattle.prefix_trie_table.proofs.Strings.Bits.{has_bit-below, has_bit-zero}
use Rattle.prefix_trie_table.proofs.Strings.BitLists.{map_get, map_set, map_same, map_insert, map_remove}
use Rattle.prefix_trie_table.proofs.Strings.Paths.{same_path-equal, same_path-not, snoc_inj, flat_map_same}
use Rattle.prefix_trie_table.proofs.Tree.Trees.{is_none-None, held_some, node_first, node_back, listed_once, times_out_same}
use Rattle.prefix_trie_table.proofs.Tree.Children.{bits-zero, bits-none, same_or, number_or, changed_below, changed_here, changed_other, with_here, with_other, changed, not_listed}

-- the value that was replaced, and the other values
module _ {T : Type 0} (values : List ℕ → ℕ → Option T) (p : List ℕ) (b : ℕ) (x : Option T) where
  value_here : (q : List ℕ) (i : ℕ) → q ++ i ∷ [] ≡ p ++ b ∷ [] → with_value values p b x q i ≡ x
  value_here q i e = ap (λ t. cond t x (values q i)) (same_path-equal (q ++ i ∷ []) (p ++ b ∷ []) e)

  value_other : (q : List ℕ) (i : ℕ) → (q ++ i ∷ [] ≢ p ++ b ∷ []) → with_value values p b x q i ≡ values q i
  value_other q i ne = ap (λ t. cond t x (values q i)) (same_path-not (q ++ i ∷ []) (p ++ b ∷ []) ne)

  blocks_other : (sizes : List ℕ) (q : List ℕ) → q ≢ p → (o : Option Node) → value_blocks_of sizes (with_value values p b x) q o ≡ value_blocks_of sizes values q o
  blocks_other sizes q ne None = refl
  blocks_other sizes q ne (Some k) =
      ap (held k.value_tier k.value_block (size_in sizes k.value_tier))
      (map_same (values q) (with_value values p b x q) k.value_bitmap k.value_bitmap (λ i. refl)
      (λ i. value_other q i (λ e. ne (snoc_inj q p i b e).0)))

module _ {T : Type 0} (sizes node_sizes : List ℕ) (nodes : List ℕ → Option Node) (paths : List (List ℕ)) (v : Store Node)
    (hold : NodesHold node_sizes nodes paths v) (values : List ℕ → ℕ → Option T) where
  abbrev items_of : List ℕ → Node → List (Option T)
  items_of p n = map (values p) (bits n.value_bitmap)

  abbrev block_of : List ℕ → Node → UsedBlock (Option T)
  block_of p n = block n.value_tier n.value_block (size_in sizes n.value_tier) (items_of p n)

  -- the values of one node are listed first
  held_first : (w : Store (Option T)) → Sound None (flat_map (value_blocks sizes nodes values) paths) w → (p : List ℕ) (n : Node) → nodes p ≡ Some n →
      Sound None (held n.value_tier n.value_block (size_in sizes n.value_tier) (items_of p n) ++ flat_map (value_blocks sizes nodes values) (without p paths)) w
  held_first w sound p n e =
      let h : 0 < times p paths = (let t = listed_once node_sizes nodes paths v hold p n e in omega arith) in
      subst (λ o. Sound None (value_blocks_of sizes values p o ++ flat_map (value_blocks sizes nodes values) (without p paths)) w) e
      (node_first sizes nodes paths None (value_blocks sizes nodes values) w p h sound)

  -- they are in one block, if the node has any
  block_first : (w : Store (Option T)) → Sound None (flat_map (value_blocks sizes nodes values) paths) w → (p : List ℕ) (n : Node) → nodes p ≡ Some n →
      0 < length (items_of p n) → Sound None (block_of p n ∷ flat_map (value_blocks sizes nodes values) (without p paths)) w
  block_first w sound p n e some =
      subst (λ bs. Sound None (bs ++ flat_map (value_blocks sizes nodes values) (without p paths)) w)
      (held_some n.value_tier n.value_block (size_in sizes n.value_tier) (items_of p n) some) (held_first w sound p n e)

  -- the node at p holds another list, and all other nodes hold what they held
  pub cells_changed : (p : List ℕ) (n : Node) (own : List (UsedBlock (Option T))) (later : List ℕ → Option Node) (after : List ℕ → ℕ → Option T)
      (u : Store (Option T))
      → nodes p ≡ Some n → value_blocks sizes later after p ≡ own →
      ((q : List ℕ) → q ≢ p → value_blocks sizes later after q ≡ value_blocks sizes nodes values q)
      → Sound None (own ++ flat_map (value_blocks sizes nodes values) (without p paths)) u → Sound None (flat_map (value_blocks sizes later after) paths) u
  cells_changed p n own later after u is own_is others sound =
      let once : times p paths ≡ 1 = listed_once node_sizes nodes paths v hold p n is in
      let rest : flat_map (value_blocks sizes later after) (without p paths) ≡ flat_map (value_blocks sizes nodes values) (without p paths) = flat_map_same (value_blocks sizes nodes values) (value_blocks sizes later after) (without p paths)
      (λ q h. others q (not_listed p (without p paths) (times_out_same p paths once) q h)) in
      node_back sizes later paths None (value_blocks sizes later after) u p (omega arith)
      (subst (λ bs. Sound None (bs ++ flat_map (value_blocks sizes later after) (without p paths)) u) (sym own_is)
      (subst (λ bs. Sound None (own ++ bs) u) (sym rest) sound))

  -- a stored value is replaced in its block
  pub value_put : (w : Store (Option T)) → Sound None (flat_map (value_blocks sizes nodes values) paths) w → (p : List ℕ) (n : Node) (b : ℕ) (x : Option T)
      (later : List ℕ → Option Node) → nodes p ≡ Some n → has_bit n.value_bitmap b ≡ true → later p ≡ Some n → ((q : List ℕ) → q ≢ p → later q ≡ nodes q)
      → Sound None (flat_map (value_blocks sizes later (with_value values p b x)) paths) (record w { slots = set w.slots (n.value_block + rank n.value_bitmap b) x })
  value_put w sound p n b x later is bit here others =
      let small = has_bit-below n.value_bitmap b bit in
      let g = map_get (values p) n.value_bitmap b None small bit in
      let put : List (Option T) = set (items_of p n) (rank n.value_bitmap b) x in
      let own : value_blocks sizes later (with_value values p b x) p ≡ block n.value_tier n.value_block (size_in sizes n.value_tier) put ∷ [] = ap (value_blocks_of sizes (with_value values p b x) p) here
      ∙ ap (held n.value_tier n.value_block (size_in sizes n.value_tier))
      (map_set (values p) (with_value values p b x p) n.value_bitmap b small bit (λ i ne. value_other values p b x p i (λ e. ne (snoc_inj p p i b e).1))
      ∙ ap (set (items_of p n) (rank n.value_bitmap b)) (value_here values p b x p b refl))
      ∙ held_some n.value_tier n.value_block (size_in sizes n.value_tier) put
      (let y = g.0 in let l = length-set (items_of p n) (rank n.value_bitmap b) x in omega arith) in
      cells_changed p n (block n.value_tier n.value_block (size_in sizes n.value_tier) put ∷ []) later (with_value values p b x)
      (record w { slots = set w.slots (n.value_block + rank n.value_bitmap b) x }) is own
      (λ q ne. ap (value_blocks_of sizes (with_value values p b x) q) (others q ne) ∙ blocks_other values p b x sizes q ne (nodes q))
      (Sound-set None (block_of p n) (flat_map (value_blocks sizes nodes values) (without p paths)) w (rank n.value_bitmap b) x g.0
      (block_first w sound p n is (let y = g.0 in omega arith)))

  module _ (w : Store (Option T)) (cells : CellsHold sizes nodes values paths w) where
    -- the values of one node are listed first
    pub values_first : (p : List ℕ) (n : Node) → nodes p ≡ Some n →
        Sound None (held n.value_tier n.value_block (size_in sizes n.value_tier) (map (values p) (bits n.value_bitmap)) ++ flat_map
        (value_blocks sizes nodes values) (without p paths)) w
    values_first p n e = held_first w cells.sound p n e

    -- in which slot a value is
    pub value_is_there : (p : List ℕ) (n : Node) (b : ℕ) → nodes p ≡ Some n → has_bit n.value_bitmap b ≡ true
        → (rank n.value_bitmap b < length (map (values p) (bits n.value_bitmap))) ×
        (get_or w.slots (n.value_block + rank n.value_bitmap b) None ≡ values p b) × (n.value_block + rank n.value_bitmap b < length w.slots)
    value_is_there p n b e bit =
        let g = map_get (values p) n.value_bitmap b None (has_bit-below n.value_bitmap b bit) bit in
        let s = block_first w cells.sound p n e (let x = g.0 in omega arith) in
        let at = block_inside None (block_of p n) (flat_map (value_blocks sizes nodes values) (without p paths)) w s in
        let fits : length (items_of p n) ≤ size_in sizes n.value_tier = fits_block None (block_of p n) (flat_map (value_blocks sizes nodes values) (without p paths)) w s in (
          g.0,
          slot_of_block None (block_of p n) (flat_map (value_blocks sizes nodes values) (without p paths)) w (rank n.value_bitmap b) None g.0 s
              ∙ g.1,
          (let x = g.0 in let y = at.before in omega arith),
        )

    -- the node n at p becomes m, which has the same values, and a child without values is added or removed
    module _ (p : List ℕ) (n m : Node) (is : nodes p ≡ Some n) (same_bits : m.value_bitmap ≡ n.value_bitmap)
        (same_block : m.value_block ≡ n.value_block) (same_tier : m.value_tier ≡ n.value_tier) where
      own_same : value_blocks_of sizes values p (Some m) ≡ value_blocks sizes nodes values p
      own_same = (λ i. held (same_tier i) (same_block i) (size_in sizes (same_tier i)) (map (values p) (bits (same_bits i))))
          ∙ sym (ap (value_blocks_of sizes values p) is)

      has_same : (b : ℕ) → has_value (Some m) b ≡ has_value (nodes p) b
      has_same b = ap (λ k. has_bit k b) same_bits ∙ sym (ap (λ o. has_value o b) is)

      -- the child c becomes o, and neither has values
      module _ (c : ℕ) (o : Option Node) (bare : (b : ℕ) → has_value o b ≡ has_value (nodes (p ++ c ∷ [])) b) where
        blocks_same : (q : List ℕ) → q ≢ p ++ c ∷ [] → (q ≡ p) ⊎ (q ≢ p) → value_blocks sizes (changed nodes p m c o) values q ≡ value_blocks sizes nodes values q
        blocks_same q nr (inl e) = ap (value_blocks_of sizes values q) (changed_here nodes p m c o q e)
            ∙ ap (λ y. value_blocks_of sizes values y (Some m)) e ∙ own_same ∙ ap (value_blocks sizes nodes values) (sym e)
        blocks_same q nr (inr ne) = ap (value_blocks_of sizes values q) (changed_other nodes p m c o q ne nr)

        values_same : (q : List ℕ) (b : ℕ) → (q ≡ p ++ c ∷ []) ⊎ (q ≢ p ++ c ∷ []) → (q ≡ p) ⊎ (q ≢ p) → has_value (changed nodes p m c o q) b ≡ has_value (nodes q) b
        values_same q b (inl f) at = ap (λ x. has_value x b) (changed_below nodes p m c o q f) ∙ bare b ∙ ap (λ y. has_value (nodes y) b) (sym f)
        values_same q b (inr nr) (inl e) = ap (λ x. has_value x b) (changed_here nodes p m c o q e) ∙ has_same b ∙ ap (λ y. has_value (nodes y) b) (sym e)
        values_same q b (inr nr) (inr ne) = ap (λ x. has_value x b) (changed_other nodes p m c o q ne nr)

        -- all other nodes have the blocks that they had
        rest_same : (ps : List (List ℕ)) → times (p ++ c ∷ []) ps ≡ 0 →
            flat_map (value_blocks sizes (changed nodes p m c o) values) ps ≡ flat_map (value_blocks sizes nodes values) ps
        rest_same ps none = flat_map_same (value_blocks sizes nodes values) (value_blocks sizes (changed nodes p m c o) values) ps
            (λ q h. blocks_same q (not_listed (p ++ c ∷ []) ps none q h) (same_or q p))

        cells_around : (after : List (List ℕ)) → Sound None (flat_map (value_blocks sizes (changed nodes p m c o) values) after) w →
            CellsHold sizes (changed nodes p m c o) values after w
        cells_around after sound = record {
          set_where = λ q b. cells.set_where q b ∙ sym (values_same q b (same_or q (p ++ c ∷ [])) (same_or q p));
          sound = sound;
          sizes_are = cells.sizes_are;
          within = cells.within;
        }

      -- adding a blank child leaves the values
      pub cells_with_child : (c : ℕ) → has_bit n.child_bitmap c ≡ false → CellsHold sizes (with_child nodes p m c) values ((p ++ c ∷ []) ∷ paths) w
      cells_with_child c missing =
          let gone : nodes (p ++ c ∷ []) ≡ None = is_none-None (nodes (p ++ c ∷ [])) (hold.linked p c ∙ ap (λ o. has_child o c) is ∙ missing) in
          let bare : (b : ℕ) → has_value (Some blank_node) b ≡ has_value (nodes (p ++ c ∷ [])) b = λ b. has_bit-zero b ∙ sym (ap (λ x. has_value x b) gone) in
          let new : value_blocks sizes (with_child nodes p m c) values (p ++ c ∷ []) ≡ [] = ap (value_blocks_of sizes values (p ++ c ∷ [])) (changed_below nodes p m c (Some blank_node) (p ++ c ∷ []) refl)
          ∙ ap (λ bs. held 0 0 (size_in sizes 0) (map (values (p ++ c ∷ [])) bs)) bits-zero in
          let rest = rest_same c (Some blank_node) bare paths (hold.listed (p ++ c ∷ []) ∙ ap (λ o. one_if (is_some o)) gone) in
          cells_around c (Some blank_node) bare ((p ++ c ∷ []) ∷ paths) (subst (λ bs. Sound None bs w) (sym (λ i. new i ++ rest i)) cells.sound)

      -- removing a child that has no values leaves the values
      pub cells_lacking_child : (c : ℕ) (leaf : Node) → nodes (p ++ c ∷ []) ≡ Some leaf → ((i : ℕ) → has_bit leaf.value_bitmap i ≡ false) →
          CellsHold sizes (with_child_removed nodes p m c) values (without (p ++ c ∷ []) paths) w
      cells_lacking_child c leaf there bare =
          let once : times (p ++ c ∷ []) paths ≡ 1 = listed_once node_sizes nodes paths v hold (p ++ c ∷ []) leaf there in
          let gone : (b : ℕ) → has_value None b ≡ has_value (nodes (p ++ c ∷ [])) b = λ b. sym (ap (λ x. has_value x b) there ∙ bare b) in
          let none : value_blocks sizes nodes values (p ++ c ∷ []) ≡ [] = ap (value_blocks_of sizes values (p ++ c ∷ [])) there
          ∙ ap (λ bs. held leaf.value_tier leaf.value_block (size_in sizes leaf.value_tier) (map (values (p ++ c ∷ [])) bs))
          (bits-none leaf.value_bitmap bare) in
          let rest = rest_same c None gone (without (p ++ c ∷ []) paths) (times_out_same (p ++ c ∷ []) paths once) in
          cells_around c None gone (without (p ++ c ∷ []) paths) (subst (λ bs. Sound None bs w) (λ i. none i ++ sym rest i)
          (node_first sizes nodes paths None (value_blocks sizes nodes values) w (p ++ c ∷ []) (omega arith) cells.sound))

    -- the node n at p becomes m, and its values change only at bit b
    module _ (p : List ℕ) (n m : Node) (b : ℕ) (x : Option T) (is : nodes p ≡ Some n)
        (bits_stay : (i : ℕ) → i ≢ b → has_bit m.value_bitmap i ≡ has_bit n.value_bitmap i) (bit : has_bit m.value_bitmap b ≡ is_some x)
        (small : b < 31) where
      others_same : (q : List ℕ) → q ≢ p → value_blocks sizes (with_node nodes p m) (with_value values p b x) q ≡ value_blocks sizes nodes values q
      others_same q ne = ap (value_blocks_of sizes (with_value values p b x) q) (with_other nodes p m q ne) ∙ blocks_other values p b x sizes q ne (nodes q)

      where_set : (q : List ℕ) (i : ℕ) → (q ≡ p) ⊎ (q ≢ p) → (i ≡ b) ⊎ (i ≢ b) → is_some (with_value values p b x q i) ≡ has_value (with_node nodes p m q) i
      where_set q i (inl e) (inl f) = ap is_some (value_here values p b x q i (λ j. e j ++ f j ∷ [])) ∙ sym bit ∙ ap (has_bit m.value_bitmap) (sym f)
          ∙ sym (ap (λ o. has_value o i) (with_here nodes p m q e))
      where_set q i (inl e) (inr nf) = ap is_some (value_other values p b x q i (λ g. nf (snoc_inj q p i b g).1)) ∙ cells.set_where q i
          ∙ ap (λ o. has_value o i) (ap nodes e ∙ is) ∙ sym (bits_stay i nf) ∙ sym (ap (λ o. has_value o i) (with_here nodes p m q e))
      where_set q i (inr ne) f = ap is_some (value_other values p b x q i (λ g. ne (snoc_inj q p i b g).0)) ∙ cells.set_where q i
          ∙ sym (ap (λ o. has_value o i) (with_other nodes p m q ne))

      few : (q : List ℕ) (i : ℕ) → is_some (with_value values p b x q i) ≡ true → (q ++ i ∷ [] ≡ p ++ b ∷ []) ⊎ (q ++ i ∷ [] ≢ p ++ b ∷ []) → i < 31
      few q i some (inl e) = (let f : i ≡ b = (snoc_inj q p i b e).1 in omega arith)
      few q i some (inr ne) = cells.within q i (sym (ap is_some (value_other values p b x q i ne)) ∙ some)

      changed_in : (u : Store (Option T)) → tier_sizes u.tiers ≡ sizes → Sound None (flat_map (value_blocks sizes (with_node nodes p m) (with_value values p b x)) paths) u →
          CellsHold sizes (with_node nodes p m) (with_value values p b x) paths u
      changed_in u same sound = record {
        set_where = λ q i. where_set q i (same_or q p) (number_or i b);
        sound = sound;
        sizes_are = same;
        within = λ q i some. few q i some (same_or (q ++ i ∷ []) (p ++ b ∷ []));
      }

      changed_to : (own : List (UsedBlock (Option T))) (u : Store (Option T)) → tier_sizes u.tiers ≡ sizes →
          held m.value_tier m.value_block (size_in sizes m.value_tier) (map (with_value values p b x p) (bits m.value_bitmap)) ≡ own
          → Sound None (own ++ flat_map (value_blocks sizes nodes values) (without p paths)) u →
          CellsHold sizes (with_node nodes p m) (with_value values p b x) paths u
      changed_to own u same own_is sound = changed_in u same (cells_changed p n own (with_node nodes p m) (with_value values p b x) u is
          (ap (value_blocks_of sizes (with_value values p b x) p) (with_here nodes p m p refl) ∙ own_is) others_same sound)

      -- a value is added
      pub value_added : (u : Store (Option T)) → b < 32 → has_bit n.value_bitmap b ≡ false → is_some x ≡ true → tier_sizes u.tiers ≡ sizes
          → Sound None (block m.value_tier m.value_block (size_in sizes m.value_tier)
          (insert (map (values p) (bits n.value_bitmap)) (rank n.value_bitmap b) x) ∷ flat_map (value_blocks sizes nodes values) (without p paths))
          u
          → CellsHold sizes (with_node nodes p m) (with_value values p b x) paths u
      value_added u digit missing some same sound =
          let grown = map_insert (values p) (with_value values p b x p) n.value_bitmap m.value_bitmap b digit missing (bit ∙ some) bits_stay
          (λ i ne. value_other values p b x p i (λ e. ne (snoc_inj p p i b e).1)) in
          let items : map (with_value values p b x p) (bits m.value_bitmap) ≡ insert (map (values p) (bits n.value_bitmap)) (rank n.value_bitmap b) x =
          grown.1 ∙ ap (insert (map (values p) (bits n.value_bitmap)) (rank n.value_bitmap b)) (value_here values p b x p b refl) in
          changed_to (block m.value_tier m.value_block (size_in sizes m.value_tier)
          (insert (map (values p) (bits n.value_bitmap)) (rank n.value_bitmap b) x) ∷ []) u same
          (ap (held m.value_tier m.value_block (size_in sizes m.value_tier)) items
          ∙ held_some m.value_tier m.value_block (size_in sizes m.value_tier)
          (insert (map (values p) (bits n.value_bitmap)) (rank n.value_bitmap b) x)
          (let l = length-insert (map (values p) (bits n.value_bitmap)) (rank n.value_bitmap b) x grown.0 in omega arith)) sound

      -- a value is removed
      pub value_removed : (u : Store (Option T)) → b < 32 → has_bit n.value_bitmap b ≡ true → is_some x ≡ false → tier_sizes u.tiers ≡ sizes
          → Sound None (held m.value_tier m.value_block (size_in sizes m.value_tier)
          (remove (map (values p) (bits n.value_bitmap)) (rank n.value_bitmap b)) ++ flat_map (value_blocks sizes nodes values) (without p paths)) u
          → CellsHold sizes (with_node nodes p m) (with_value values p b x) paths u
      value_removed u digit there none same sound =
          changed_to (held m.value_tier m.value_block (size_in sizes m.value_tier) (remove (map (values p) (bits n.value_bitmap)) (rank n.value_bitmap b))) u same
          (ap (held m.value_tier m.value_block (size_in sizes m.value_tier))
          (map_remove (values p) (with_value values p b x p) n.value_bitmap m.value_bitmap b digit there (bit ∙ none) bits_stay
          (λ i ne. value_other values p b x p i (λ e. ne (snoc_inj p p i b e).1)))) sound

    -- a value is replaced
    pub value_replaced : (p : List ℕ) (n : Node) (b : ℕ) (x : Option T) → nodes p ≡ Some n → has_bit n.value_bitmap b ≡ true → is_some x ≡ true
        → CellsHold sizes (with_node nodes p n) (with_value values p b x) paths (record w { slots = set w.slots (n.value_block + rank n.value_bitmap b) x })
    value_replaced p n b x is bit some =
        let small : b < 31 = cells.within p b (cells.set_where p b ∙ ap (λ o. has_value o b) is ∙ bit) in
        changed_in p n n b x is (λ i ne. refl) (bit ∙ sym some) small _ cells.sizes_are
        (value_put w cells.sound p n b x (with_node nodes p n) is bit (with_here nodes p n p refl) (with_other nodes p n))
