-- Calling a test under a child of the current node, and removing the child if nothing is left in it: for the loop of
-- `retain`.
use Rattle.prefix_trie_table.proofs.Prelude.{◌≡◌, ◌↔◌, ℕ, ◌+◌, ◌-◌, ◌/◌, ◌%◌, ◌<◌, ◌≤◌, Bool, true, false, not, ◌&&◌, List, [], ◌∷◌, ◌++◌, length, take, Option, None, Some, is_some, refl, sym, ap, ◌∙◌, subst, arith, inl, inr, length-append, append-nil, eqb-true, false≢true, begins, number, digits, zeros, begins-append, begins-trans, digits-number, length-digits, number-bits, take-extend, same_string, has, is_in, places, Place, CallableOnEachEntry, listing_at_place, listing_at_places, listing_below, has_node, is_node_depth, State, and-second, same_string-is, is-same_string, has-removed, listing_at_child, Node, Site, has_bit, rank, node_at, node_sizes, chunks_of, Store, read, child_slot, Holds, SomeTable, IsSlot, at_child, NodesHold, entry_count, without, with_child_removed, IsBare, IsStocked, ChildDropped, Drops, none, more, IsPlaceOf, HasPlace, IsSite, Needs, RetainsTo, PreservesBelow, BlocksBetween, IsTrie, Grows, IsShapeOf}
use Rattle.std.specs.List.{Contains}
use Rattle.std.specs.FinMap.{remove}
use Rattle.prefix_trie_bits.specs.declared.node.Place.TheVariants.{Child as ChildPlace}
use Rattle.prefix_trie_table.proofs.Strings.SmallFacts.{no_or_yes}
use Rattle.prefix_trie_table.proofs.Tree.Invariant.{some_table}
use Rattle.prefix_trie_table.proofs.Removal.SizeBounds.{blocks_then, dropped_between, stays_grown, stays_then}
use Rattle.prefix_trie_table.proofs.Retain.TestCallsBelow.{child_asked, needed_below}
use Rattle.prefix_trie_table.proofs.Strings.BareBitmaps.{some_bit}
use Rattle.prefix_trie_table.proofs.Strings.Bits.{has_bit-is, has_bit-below}
use Rattle.prefix_trie_table.proofs.Tree.Children.{changed_below, changed_here, changed_other, some_stays}
use Rattle.prefix_trie_table.proofs.Strings.Keys.{same_above}
use Rattle.prefix_trie_table.proofs.Strings.ChunkPlaces.{step_below, string_at}
use Rattle.prefix_trie_table.proofs.Retain.CurrentPlaces.{value_iff, child_iff, nothing_at, none_below_it}
use Rattle.prefix_trie_table.proofs.Removal.Pruning.{drops_cells, drops_count}
use Rattle.prefix_trie_table.proofs.Removal.GrowthBounds.{bounds_growth_nodes, bounds_growth_then}
use Rattle.prefix_trie_table.proofs.Retain.RetainedTables.{are_nodes, read_held, here_length, here_whole, here_levels, path_levels, site_stays}
use Rattle.prefix_trie_table.proofs.Tree.Shapes.{reads_node, shape_of, shape_entries}
use Rattle.prefix_trie_table.proofs.Tree.Subtrees.{child_is, child_inside, child_few, child_fits, few_at, all_places, is_in-child, number-small}
use Rattle.prefix_trie_table.proofs.Walk.NextPlaces.{place-child}
use Rattle.prefix_trie_table.proofs.Tree.Trees.{reads}
use Rattle.prefix_trie_table.proofs.Removal.AllBelow.{and-false}

longer_not : (s u : List Bool) → length u ≡ 5 → s ++ u ≡ s → ⊥
longer_not s u five e = absurd (omega (arith, ap length e, length-append s u, five))

module _ {K T : Type 0} (IsKey : K → Type 0) (bits : K → List Bool) (width : ℕ) (bits_length : (k : K) → IsKey k → length (bits k) ≡ width) (v : Store Node) (p : Site K) (n : Node)
    (at : IsSite IsKey bits width v p n) (count : ℕ) (w : Store (Option T)) (s : State T) (trie : IsTrie width count v w s) {seat : Place} (held : HasPlace n seat)
    (c : ℕ) (child : seat ≡ ChildPlace c) (slot : ℕ) (slot_is : slot ≡ child_slot n c) where
  long : length (bits p.key) ≡ width
  long = bits_length p.key at.key

  -- the string of the child's place
  abbrev t : List Bool
  t = held.string

  five : length t ≡ 5
  five = (place-child t c held.short (sym child ∙ held.is)).0

  c_is : c ≡ number t
  c_is = (place-child t c held.short (sym child ∙ held.is)).1

  set : has n.child_bitmap c ≡ true
  set = ap (has n.child_bitmap) c_is ∙ sym (is_in-child n.value_bitmap n.child_bitmap t five) ∙ held.set

  whole : length (take p.depth (bits p.key)) % 5 ≡ 0
  whole = here_whole IsKey bits width v p n at long

  set_there : has n.child_bitmap (number t) ≡ true
  set_there = ap (has n.child_bitmap) (sym c_is) ∙ set

  pub child_small : c < 32
  child_small = let h = number-small t five in omega (arith, h, c_is)

  slot_same : child_slot n (number t) ≡ slot
  slot_same = ap (child_slot n) (sym c_is) ∙ sym slot_is

  pub lower_inside : slot < length v.slots
  lower_inside = subst (λ k. k < length v.slots) slot_same (child_inside width v (record { count = count; cells = w; shape = s }) trie (take p.depth (bits p.key)) n whole at.is_there t five set_there)

  pub lower_few : has_bit (node_at v.slots slot).value_bitmap 31 ≡ false
  lower_few =
      subst (λ k. has_bit (node_at v.slots k).value_bitmap 31 ≡ false) slot_same
      (child_few width v (record { count = count; cells = w; shape = s }) trie (take p.depth (bits p.key)) n whole at.is_there t five set_there)

  pub lower_fits : p.depth + 5 ≤ width
  lower_fits =
      let h = child_fits width v (record { count = count; cells = w; shape = s }) trie (take p.depth (bits p.key)) n whole at.is_there t five set_there in
      omega (arith, h, here_length IsKey bits width v p n at long)

  search_path : chunks_of (take p.depth (bits p.key) ++ t) ≡ chunks_of (take p.depth (bits p.key)) ++ c ∷ []
  search_path =
      ap (λ u. chunks_of (take p.depth (bits p.key) ++ u)) (sym (digits-number t) ∙ (λ i. digits (five i) (sym c_is i)))
      ∙ step_below (p.depth / 5) (take p.depth (bits p.key)) c (here_levels IsKey bits width v p n at long) child_small

  -- the bit of the child is set
  pub child_there : has_bit n.child_bitmap c ≡ true
  child_there = has_bit-is n.child_bitmap c child_small ∙ set

  -- the child, with its key
  module _ (key : K) (is_key : IsKey key) (extended : bits key ≡ take p.depth (bits p.key) ++ digits 5 c ++ zeros (width - (p.depth + 5)))
      (lower : Node) (lower_is : lower ≡ node_at v.slots slot) where
    abbrev b : Site K
    b = record { slot = slot; key = key; depth = p.depth + 5 }

    long_b : length (bits b.key) ≡ width
    long_b = bits_length key is_key

    pub lower_string : take b.depth (bits b.key) ≡ take p.depth (bits p.key) ++ t
    lower_string =
        take-extend (bits p.key) (bits b.key) width p.depth 5 c long lower_fits extended
        ∙ ap (λ u. take p.depth (bits p.key) ++ u) ((λ i. digits (sym five i) (c_is i)) ∙ digits-number t)

    pub lower_site : IsSite IsKey bits width v b lower
    lower_site = record {
      key = is_key;
      level = at.level + 1;
      depth_is = (let d = at.depth_is in omega (arith, d));
      within = lower_fits;
      is_there =
          ap (λ u. read v.slots (chunks_of u)) lower_string
          ∙ child_is width v (record { count = count; cells = w; shape = s }) trie (take p.depth (bits p.key)) n whole at.is_there t five set_there
          ∙ ap (λ k. Some (node_at v.slots k)) slot_same ∙ ap Some (sym lower_is);
      slot_is =
          subst (λ k. IsSlot (read v.slots) (chunks_of (take b.depth (bits b.key))) k)
          (sym slot_is)
          (subst (λ q. IsSlot (read v.slots) q (child_slot n c)) (sym (ap chunks_of lower_string ∙ search_path))
          (at_child (chunks_of (take p.depth (bits p.key))) c n at.is_there child_there));
    }

    -- everything at the place is under the child
    pub may_ask_lower : {F : Type 0} (may_return : F → List Bool → T → Bool → F → Type 0) (accepts : F → List Bool → T → Type 0) (f : F) (ts : List (List Bool)) →
        ts ≡ places lower.value_bitmap lower.child_bitmap → CallableOnEachEntry may_return accepts f (listing_at_places s.entries (take p.depth (bits p.key)) (t ∷ [])) →
        CallableOnEachEntry may_return accepts f (listing_at_places s.entries (take b.depth (bits b.key)) ts)
    may_ask_lower may_return accepts f ts all may =
        subst (CallableOnEachEntry may_return accepts f)
        (append-nil (listing_at_place s.entries (take p.depth (bits p.key)) t) ∙ listing_at_child s.entries (take p.depth (bits p.key)) t five
        ∙ ap (listing_below s.entries) (sym lower_string)
        ∙ sym (all_places width v (record { count = count; cells = w; shape = s }) trie (take b.depth (bits b.key)) lower (here_whole IsKey bits width v b lower lower_site long_b) lower_site.is_there)
        ∙ ap (listing_at_places s.entries (take b.depth (bits b.key))) (sym all)) may

    -- what the calls under the child left
    module _ {F : Type 0} (may_return : F → List Bool → T → Bool → F → Type 0) (accepts : F → List Bool → T → Type 0) (ts : List (List Bool))
        (all : ts ≡ places lower.value_bitmap lower.child_bitmap) (each : (u : List Bool) → Contains ts u ↔ IsPlaceOf lower u)
        (f g : F) (count2 : ℕ) (v2 : Store Node) (w2 : Store (Option T)) (to : RetainsTo may_return accepts width (take b.depth (bits b.key)) ts f s g count2 v2 w2)
        (left : Node) (later : IsSite IsKey bits width v2 b left) (preserves : PreservesBelow (b.depth / 5) v v2 w w2) where
      deeper : p.depth / 5 < b.depth / 5
      deeper = let d = at.depth_is in omega (arith, d)

      -- the current node did not change
      pub still_site : IsSite IsKey bits width v2 p n
      still_site =
          site_stays IsKey bits width v p n at long v2 n (λ q less. preserves.above q (omega (arith, less, deeper)))
          (preserves.above (chunks_of (take p.depth (bits p.key))) (omega (arith, path_levels IsKey bits width v p n at long, deeper)) ∙ at.is_there)

      -- no array is shorter, and the nodes above are unchanged
      pub still_preserved : PreservesBelow (p.depth / 5) v v2 w w2
      still_preserved = record {
        above = λ q less. preserves.above q (omega (arith, less, deeper));
        nodes = preserves.nodes;
        cells = preserves.cells;
        bounds_growth = preserves.bounds_growth;
        blocks = preserves.blocks;
      }

      whole_b : length (take b.depth (bits b.key)) % 5 ≡ 0
      whole_b = here_whole IsKey bits width v b lower lower_site long_b

      unset_b : (u : List Bool) → length u ≤ 5 → is_in lower.value_bitmap lower.child_bitmap u ≡ false → listing_at_place s.entries (take b.depth (bits b.key)) u ≡ []
      unset_b = nothing_at IsKey bits width v b lower lower_site long_b count w s trie

      bare_b : (u q : List Bool) → length u ≡ 5 → is_in lower.value_bitmap lower.child_bitmap u ≡ false → begins (take b.depth (bits b.key) ++ u) q ≡ true → has_node s.nodes q ≡ true → ⊥
      bare_b = none_below_it IsKey bits width v b lower lower_site long_b count w s trie

      below_needed : (q : List Bool) → begins (take b.depth (bits b.key)) q ≡ true → (q ≡ take b.depth (bits b.key) → ⊥) → has_node to.after.nodes q ≡ true → Needs to.after.entries q
      below_needed =
          needed_below may_return accepts (take b.depth (bits b.key)) lower.value_bitmap lower.child_bitmap ts all (λ u m. (each u).0 m) (λ u h k. (each u).1 (h, k)) f g s to.after to.retains unset_b bare_b whole_b trie.nodes.depths

      -- a child with a value or with a child of its own is needed
      stocked_needed : IsStocked left → Needs to.after.entries (take b.depth (bits b.key))
      stocked_needed (inl some) =
          let bit = some_bit left.value_bitmap some in
          let within = has_bit-below left.value_bitmap bit.0 bit.1 in
          let last = few_at width v2 (record { count = count2; cells = w2; shape = to.after }) to.trie (chunks_of (take b.depth (bits b.key))) left later.is_there in
          let small : bit.0 < 31 = low bit.0 within (λ e. false≢true (sym last ∙ ap (has_bit left.value_bitmap) (sym e) ∙ bit.1)) in
          let r = string_at bit.0 small in
          record {
            key = take b.depth (bits b.key) ++ r.0;
            stored =
                value_iff IsKey bits width v2 b left later long_b count2 w2 to.after to.trie r.0 r.1
                ∙ ap (has left.value_bitmap) r.2 ∙ sym (has_bit-is left.value_bitmap bit.0 within) ∙ bit.1;
            goes_on = begins-append (take b.depth (bits b.key)) r.0;
          }
        where
          low : (i : ℕ) → i < 32 → (i ≡ 31 → ⊥) → i < 31
          low i h ne = omega (arith, h, ne)
      stocked_needed (inr some) =
          let bit = some_bit left.child_bitmap some in
          let within = has_bit-below left.child_bitmap bit.0 bit.1 in
          let there : has_node to.after.nodes (take b.depth (bits b.key) ++ digits 5 bit.0) ≡ true = child_iff IsKey bits width v2 b left later long_b count2 w2 to.after to.trie (digits 5 bit.0) (length-digits 5 bit.0)
          ∙ ap (has left.child_bitmap) (number-bits 5 bit.0 within) ∙ sym (has_bit-is left.child_bitmap bit.0 within) ∙ bit.1 in
          let need = below_needed (take b.depth (bits b.key) ++ digits 5 bit.0) (begins-append (take b.depth (bits b.key)) (digits 5 bit.0))
          (λ e. longer_not (take b.depth (bits b.key)) (digits 5 bit.0) (length-digits 5 bit.0) e) there in
          record {
            key = need.key;
            stored = need.stored;
            goes_on = begins-trans (take b.depth (bits b.key)) (take b.depth (bits b.key) ++ digits 5 bit.0) need.key (begins-append (take b.depth (bits b.key)) (digits 5 bit.0)) need.goes_on;
          }

      -- such a child stays
      pub child_stays : IsStocked left → RetainsTo may_return accepts width (take p.depth (bits p.key)) (t ∷ []) f s g count2 v2 w2
      child_stays some = record {
        after = to.after;
        trie = to.trie;
        retains =
            child_asked may_return accepts (take b.depth (bits b.key)) lower.value_bitmap lower.child_bitmap ts all (λ u m. (each u).0 m) (λ u h k. (each u).1 (h, k)) f g s to.after to.retains unset_b bare_b whole_b trie.nodes.depths
            (take p.depth (bits p.key)) t five lower_string to.after.nodes (λ q h. h) (λ q ne. refl) (λ there. stocked_needed some);
      }

      -- a child with neither is removed
      module _ (bare : IsBare left) (m : Node) (v3 : Store Node)
          (dropped : (reading : List ℕ → Option Node) (paths : List (List ℕ)) (q : List ℕ) (k leaf : Node) → NodesHold node_sizes reading paths v2 →
          IsSlot reading q p.slot → reading q ≡ Some k → reading (q ++ c ∷ []) ≡ Some leaf → rank leaf.child_bitmap 32 ≡ 0 →
          ChildDropped reading paths q c k m v2 v3)
          (space : Grows v2 v3 24) where
        abbrev table2 : SomeTable v2 w2
        table2 = some_table to.trie.table

        abbrev here : List ℕ
        here = chunks_of (take p.depth (bits p.key))

        read2 : Holds (read v2.slots) table2.values table2.paths v2 w2
        read2 = read_held table2.reading table2.values table2.paths v2 w2 table2.holds

        search_path_b : chunks_of (take b.depth (bits b.key)) ≡ here ++ c ∷ []
        search_path_b = ap chunks_of lower_string ∙ search_path

        leaf_is : read v2.slots (here ++ c ∷ []) ≡ Some left
        leaf_is = ap (read v2.slots) (sym search_path_b) ∙ later.is_there

        one : ChildDropped (read v2.slots) table2.paths here c n m v2 v3
        one = dropped (read v2.slots) table2.paths here n left read2.hold still_site.slot_is still_site.is_there leaf_is bare.no_children

        drops : Drops (read v2.slots) table2.paths (with_child_removed (read v2.slots) here m c) (without (here ++ c ∷ []) table2.paths)
        drops = more (read v2.slots) table2.paths v2 here c n m left none read2.hold still_site.is_there leaf_is bare one.values

        held3 : Holds (with_child_removed (read v2.slots) here m c) table2.values (without (here ++ c ∷ []) table2.paths) v3 w2
        held3 = record { hold = one.hold; cells = drops_cells table2.values w2 (read v2.slots) table2.paths (with_child_removed (read v2.slots) here m c) (without (here ++ c ∷ []) table2.paths) drops read2.cells }

        counted3 : count2 ≡ entry_count (with_child_removed (read v2.slots) here m c) (without (here ++ c ∷ []) table2.paths)
        counted3 =
            to.trie.table.counted
            ∙ ap (λ (h : List ℕ → Option Node). entry_count h table2.paths) (λ i q. sym (reads_node table2.reading table2.values table2.paths v2 w2 table2.holds q) i)
            ∙ sym (drops_count (read v2.slots) table2.paths (with_child_removed (read v2.slots) here m c) (without (here ++ c ∷ []) table2.paths) drops)

        abbrev state3 : State T
        state3 = record { entries = to.after.entries; nodes = remove to.after.nodes (take b.depth (bits b.key)) }

        removed_is : (q : List Bool) → has_node (remove to.after.nodes (take b.depth (bits b.key))) q ≡ (not (same_string q (take b.depth (bits b.key))) && has_node to.after.nodes q)
        removed_is q = has-removed to.after.nodes (take b.depth (bits b.key)) q

        nodes3 : (q : List Bool) → has_node (remove to.after.nodes (take b.depth (bits b.key))) q ≡ (is_node_depth q && is_some (with_child_removed (read v2.slots) here m c (chunks_of q)))
        nodes3 q = removed_is q ∙ by (same_string q (take b.depth (bits b.key))) refl
          where
            other : (a : Bool) → is_node_depth q ≡ a → same_string q (take b.depth (bits b.key)) ≡ false →
                (a && is_some (read v2.slots (chunks_of q))) ≡ (a && is_some (with_child_removed (read v2.slots) here m c (chunks_of q)))
            other false deep e = refl
            other true deep e = sym (some_stays (read v2.slots) here n m c None still_site.is_there (chunks_of q)
                (λ same. false≢true (sym e ∙ is-same_string q (take b.depth (bits b.key)) (same_above q (take b.depth (bits b.key)) (eqb-true (length q % 5) 0 deep) whole_b (same ∙ sym search_path_b)))))

            by : (a : Bool) → same_string q (take b.depth (bits b.key)) ≡ a →
                (not a && has_node to.after.nodes q) ≡ (is_node_depth q && is_some (with_child_removed (read v2.slots) here m c (chunks_of q)))
            by true e =
                sym (and-false (is_node_depth q))
                ∙ ap (λ o. is_node_depth q && is_some o)
                (sym (changed_below (read v2.slots) here m c None (chunks_of q) (ap chunks_of (same_string-is q (take b.depth (bits b.key)) e) ∙ search_path_b)))
            by false e = to.trie.shaped.0 q ∙ other (is_node_depth q) refl e

        shape3 : IsShapeOf v3.slots w2.slots state3
        shape3 =
            shape_of (with_child_removed (read v2.slots) here m c) table2.values (without (here ++ c ∷ []) table2.paths) v3 w2 held3 state3 nodes3
            (shape_entries table2.reading table2.values table2.paths v2 w2 table2.holds to.after to.trie.shaped)

        still_there : (q : List Bool) → has_node (remove to.after.nodes (take b.depth (bits b.key))) q ≡ true → has_node to.after.nodes q ≡ true
        still_there q there = and-second (not (same_string q (take b.depth (bits b.key)))) (has_node to.after.nodes q) (sym (removed_is q) ∙ there)

        trie3 : IsTrie width count2 v3 w2 state3
        trie3 = record {
          table = record {
            reading = with_child_removed (read v2.slots) here m c;
            values = table2.values;
            paths = without (here ++ c ∷ []) table2.paths;
            nodes = held3.hold;
            cells = held3.cells;
            counted = counted3;
            sized = to.trie.table.sized;
            cells_first = to.trie.table.cells_first;
            one_limit = to.trie.table.one_limit ∙ sym space.limit_is;
            nodes_within = space.within to.trie.table.nodes_within;
            cells_within = to.trie.table.cells_within;
          };
          shaped = shape3;
          within = to.trie.within;
          nodes = are_nodes width v3 w2 state3 shape3 (λ q there. to.trie.nodes.within q (still_there q there));
        }

        pub child_goes : RetainsTo may_return accepts width (take p.depth (bits p.key)) (t ∷ []) f s g count2 v3 w2
        child_goes = record {
          after = state3;
          trie = trie3;
          retains =
              child_asked may_return accepts (take b.depth (bits b.key)) lower.value_bitmap lower.child_bitmap ts all (λ u m. (each u).0 m) (λ u h k. (each u).1 (h, k)) f g s to.after to.retains unset_b bare_b whole_b trie.nodes.depths
              (take p.depth (bits p.key)) t five lower_string (remove to.after.nodes (take b.depth (bits b.key))) still_there
              (λ q ne. removed_is q ∙ ap (λ a. not a && has_node to.after.nodes q) (not_same q ne))
              (λ there. absurd (false≢true (sym (removed_is (take b.depth (bits b.key))
              ∙ ap (λ a. not a && has_node to.after.nodes (take b.depth (bits b.key))) (is-same_string (take b.depth (bits b.key)) (take b.depth (bits b.key)) refl)) ∙ there)));
        }
          where
            not_same : (q : List Bool) → (q ≡ take b.depth (bits b.key) → ⊥) → same_string q (take b.depth (bits b.key)) ≡ false
            not_same q ne = no_or_yes (same_string q (take b.depth (bits b.key))) (λ e. ne (same_string-is q (take b.depth (bits b.key)) e))

        read3 : (q : List ℕ) → read v3.slots q ≡ with_child_removed (read v2.slots) here m c q
        read3 q = reads node_sizes (with_child_removed (read v2.slots) here m c) (without (here ++ c ∷ []) table2.paths) v3 one.hold q

        above3 : (q : List ℕ) → length q < p.depth / 5 → read v3.slots q ≡ read v.slots q
        above3 q less =
            read3 q
            ∙ changed_other (read v2.slots) here m c None q
            (λ e. let l : length q ≡ length here = ap (λ (xs : List ℕ). length xs) e in let k = path_levels IsKey bits width v p n at long in omega (arith, l, k, less))
            (λ e. let l : length q ≡ length here + 1 = ap (λ (xs : List ℕ). length xs) e ∙ length-append here (c ∷ []) in let k = path_levels IsKey bits width v p n at long in omega (arith, l, k, less))
            ∙ preserves.above q (omega (arith, less, deeper))

        pub site3 : IsSite IsKey bits width v3 p m
        site3 = site_stays IsKey bits width v p n at long v3 m above3 (read3 here ∙ changed_here (read v2.slots) here m c None here refl)

        pub lasts3 : PreservesBelow (p.depth / 5) v v3 w w2
        lasts3 = record {
          above = above3;
          nodes = stays_then v v2 v3 preserves.nodes (stays_grown v2 v3 24 space);
          cells = preserves.cells;
          bounds_growth = bounds_growth_then v v2 v3 _ _ _ preserves.bounds_growth (bounds_growth_nodes v2 v3 (length w2.slots) one.bounds_growth);
          blocks = λ x. blocks_then _ _ _ (preserves.blocks x)
              (subst (BlocksBetween (read v2.slots x)) (sym (read3 x))
              (dropped_between (read v2.slots) table2.paths here c n m left v2 v3 one still_site.is_there leaf_is bare x));
        }
