-- The next place of a spot gives an entry or a child: for `next_at`.
use Rattle.prefix_trie_table.proofs.Prelude.{◌≡◌, ℕ, ◌+◌, ◌-◌, ◌%◌, ◌<◌, ◌≤◌, Bool, true, false, List, ◌∷◌, ◌++◌, length, take, drop, get_or, None, Some, refl, sym, ap, ap₂, ◌∙◌, subst, arith, length-append, append_assoc, IsStrictlySortedBy, take-append-le, take-take, take_at, drop_at, All-head, All-tail, number, digits, zeros, length-digits, digits-number, listing_cmp, has, value_bit, is_in, places, to_come, Places, listing_below, listing_at_places, listing_at_child, Node, Seat, Spot, has_bit, node_at, chunks_of, seat_of, value_seat, Store, read, child_slot, Tree, IsSpot, IsPlaceOf, IsOther, IsPassed, still, GivesSeat, weight, IsTrie}
use Rattle.std.specs.List.{All}
use Rattle.std.proofs.lemmas.List.{length-take-le}
use Rattle.prefix_trie_table.specs.Blocks.Cells.{without_sizes}
use Rattle.prefix_trie_table.specs.Walking.Walks.{EndsAt, slot_of}
use Rattle.prefix_trie_table.proofs.Walk.NextPlaces.{moved_on, weight_is, weight-child, still_is, extended_by, filled_by, child_digits}
use Rattle.prefix_trie_table.proofs.Walk.Stacks.{others_after, spot_as}
use Rattle.prefix_trie_table.proofs.Strings.SmallFacts.{whole_levels}
use Rattle.prefix_trie_table.proofs.Lookup.NodeSeats.{seat_below}
use Rattle.prefix_trie_table.proofs.Tree.Subtrees.{is_in-value, is_in-child, stored_value, value_read, value_inside, value_listed, value_fits, child_is, child_inside, child_few, child_fits, all_places}

-- ---- a spot

module _ (width : ℕ) (v : Store Node) (search_path : List Bool) (p : Spot) (at : IsSpot width v.slots search_path p) (long : length search_path ≡ width) where
  pub string-length : length (take p.depth search_path) ≡ p.depth
  string-length = length-take-le p.depth search_path at.long

  whole : length (take p.depth search_path) % 5 ≡ 0
  whole = whole_levels (length (take p.depth search_path)) at.level (string-length ∙ at.depth_is)

  module _ (s : List Bool) (later : Places) (first : to_come p.places ≡ s ∷ to_come later) where
    here : IsPlaceOf at.node s
    here = subst (λ n. IsPlaceOf n s) at.node_is (All-head (IsPlaceOf p.node) s (to_come later) (subst (All (IsPlaceOf p.node)) first at.each))

    pub goes_on : IsSpot width v.slots search_path (record p { places = later })
    goes_on = spot_as at refl at.long at.is_there refl (All-tail (IsPlaceOf p.node) s (to_come later) (subst (All (IsPlaceOf p.node)) first at.each))

    module _ {T : Type 0} (t : Tree T) (tree : IsTrie width t.count v t.cells t.shape) where
      -- the next place is that of a value
      module _ (short : length s ≤ 4) where
        set : has at.node.value_bitmap (value_bit s) ≡ true
        set = sym (is_in-value at.node.value_bitmap at.node.child_bitmap s (omega arith)) ∙ here.1

        pub value_space : p.depth + length s ≤ width
        value_space =
            let h = value_fits width v t tree (take p.depth search_path) at.node whole at.is_there s short set in omega (arith, h, string-length)

        module _ {K : Type 0} (IsKey : K → Type 0) (bits : K → List Bool) (key : K) (is_key : IsKey key) (n x : ℕ) (is : s ≡ digits n x)
            (extended : bits key ≡ take p.depth search_path ++ digits n x ++ zeros (width - (p.depth + n))) where
          n_is : length s ≡ n
          n_is = ap length is ∙ length-digits n x

          fits : p.depth + n ≤ width
          fits = let h = value_space in omega (arith, h, n_is)

          taken : take (p.depth + n) (bits key) ≡ take p.depth search_path ++ s
          taken = extended_by search_path (bits key) width p.depth n x s long fits is extended

          -- the key ends at the spot
          pub ends_here : EndsAt search_path p (take (p.depth + n) (bits key))
          ends_here =
              let l : length (take (p.depth + n) (bits key)) ≡ p.depth + length s = ap length taken ∙ length-append (take p.depth search_path) s ∙ ap (λ d. d + length s) string-length in
              record {
                whole = omega (arith, l);
                last = omega (arith, l, short);
                same_above = ap (take p.depth) taken ∙ take-append-le p.depth (take p.depth search_path) s (omega (arith, string-length)) ∙ take-take p.depth p.depth search_path (omega arith);
              }

          filled : bits key ≡ take (p.depth + n) (bits key) ++ zeros (width - (p.depth + n))
          filled = filled_by search_path (bits key) width p.depth n x long fits extended

          -- what the step gives
          module _ (seat : Seat) (seat_is : seat ≡ value_seat p.node (value_bit s)) where
            own_seat : seat ≡ value_seat at.node (value_bit s)
            own_seat = seat_is ∙ ap (λ n. value_seat n (value_bit s)) at.node_is

            pub gives_value : GivesSeat IsKey bits width t key (p.depth + n) seat (still t.shape.entries search_path p) (still t.shape.entries search_path (moved_on p later))
            gives_value =
                let x = stored_value width v t tree (take p.depth search_path) at.node whole at.is_there s short set in
                record {
                  value = x;
                  is_there = subst (λ k. slot_of k < length t.cells.slots) (sym own_seat) (value_inside width v t tree (take p.depth search_path) at.node whole at.is_there s short set);
                  reads = ap (λ k. get_or t.cells.slots (slot_of k) None) own_seat ∙ value_read width v t tree (take p.depth search_path) at.node whole at.is_there s short set;
                  gives = record {
                    is_key = is_key;
                    short = fits;
                    first =
                        still_is p s later first t.shape.entries search_path
                        ∙ ap (λ es. es ++ still t.shape.entries search_path (moved_on p later)) (value_listed width v t tree (take p.depth search_path) at.node whole at.is_there s short set)
                        ∙ ap (λ k. (k, x) ∷ still t.shape.entries search_path (moved_on p later)) (sym taken);
                    filled = filled;
                  };
                }

            -- where the seat is that of its key
            pub value_seated : seat_of v.slots (take (p.depth + n) (bits key)) ≡ Some seat
            value_seated =
                ap (seat_of v.slots) taken ∙ seat_below v.slots at.level (take p.depth search_path) s at.node (string-length ∙ at.depth_is) short at.is_there set
                ∙ ap Some (sym own_seat)

      -- the next place is that of a child
      module _ (five : length s ≡ 5) where
        bit_set : has at.node.child_bitmap (number s) ≡ true
        bit_set = sym (is_in-child at.node.value_bitmap at.node.child_bitmap s five) ∙ here.1

        pub child_space : p.depth + 5 ≤ width
        child_space =
            let h = child_fits width v t tree (take p.depth search_path) at.node whole at.is_there s five bit_set in omega (arith, h, string-length)

        -- which is passed
        pub child_passed : IsStrictlySortedBy listing_cmp (to_come p.places) → (b : ℕ) → b ≡ number s → (key rest : List Bool) →
            key ≡ take p.depth search_path ++ digits 5 b ++ rest → IsPassed key (record p { places = later })
        unfolding IsStrictlySortedBy
        child_passed sorted b b_is key rest extended =
            let child : take 5 (drop p.depth key) ≡ s = ap (λ k. take 5 (drop p.depth k)) (extended ∙ append_assoc (take p.depth search_path) (digits 5 b) rest) ∙ ap (take 5) (drop_at (take p.depth search_path) (digits 5 b ++ rest) p.depth string-length)
            ∙ take_at (digits 5 b) rest 5 (length-digits 5 b) ∙ ap₂ digits (sym five) b_is ∙ digits-number s in
            subst (λ c. All (IsOther c) (to_come later)) (sym child) (others_after s (to_come later) (subst (IsStrictlySortedBy listing_cmp) first sorted).0)

        module _ (b slot : ℕ) (b_is : b ≡ number s) (slot_is : slot ≡ child_slot p.node b) where
          own_slot : slot ≡ child_slot at.node (number s)
          own_slot = slot_is ∙ ap (λ n. child_slot n b) at.node_is ∙ ap (child_slot at.node) b_is

          pub child_here : (slot < length v.slots) × (has_bit (node_at v.slots slot).value_bitmap 31 ≡ false)
          child_here =
              subst (λ k. (k < length v.slots) × (has_bit (node_at v.slots k).value_bitmap 31 ≡ false)) (sym own_slot) (
                child_inside width v t tree (take p.depth search_path) at.node whole at.is_there s five bit_set,
                child_few width v t tree (take p.depth search_path) at.node whole at.is_there s five bit_set,
              )

          -- the child, with all its places
          module _ (below : List Bool) (c : Spot) (reach : length below ≡ width)
              (extended : below ≡ take p.depth search_path ++ digits 5 b ++ zeros (width - (p.depth + 5)))
              (depth_is : c.depth ≡ p.depth + 5) (node_is : c.node ≡ without_sizes (node_at v.slots slot))
              (all : to_come c.places ≡ places c.node.value_bitmap c.node.child_bitmap) (each : All (IsPlaceOf c.node) (to_come c.places)) where
            child_string : take c.depth below ≡ take p.depth search_path ++ s
            child_string =
                ap (λ k. take k below) depth_is ∙ extended_by search_path below width p.depth 5 b s long child_space (sym (child_digits s b five b_is)) extended

            child_node : read v.slots (chunks_of (take c.depth below)) ≡ Some (node_at v.slots slot)
            child_node =
                ap (λ u. read v.slots (chunks_of u)) child_string
                ∙ child_is width v t tree (take p.depth search_path) at.node whole at.is_there s five bit_set
                ∙ ap (λ k. Some (node_at v.slots k)) (sym own_slot)

            pub child_spot : IsSpot width v.slots below c
            child_spot = record {
              node = node_at v.slots slot;
              level = at.level + 1;
              depth_is = depth_is ∙ (let e = at.depth_is in omega (arith, e));
              within = (let h = child_space in omega (arith, h, depth_is));
              long = (let h = child_space in omega (arith, h, depth_is, reach));
              is_there = child_node;
              node_is = node_is;
              each = each;
            }

            child_whole : length (take c.depth below) % 5 ≡ 0
            child_whole = ap (λ u. length u % 5) child_string ∙ omega (arith, whole, five, length-append (take p.depth search_path) s)

            pub child_still : still t.shape.entries search_path p ≡ still t.shape.entries below c ++ still t.shape.entries search_path (moved_on p later)
            child_still =
                still_is p s later first t.shape.entries search_path
                ∙ ap (λ es. es ++ still t.shape.entries search_path (moved_on p later))
                (listing_at_child t.shape.entries (take p.depth search_path) s five ∙ ap (listing_below t.shape.entries) (sym child_string)
                ∙ sym (ap (listing_at_places t.shape.entries (take c.depth below)) (all ∙ ap (λ n. places n.value_bitmap n.child_bitmap) node_is) ∙ all_places width v t tree (take c.depth below) (node_at v.slots slot) child_whole child_node))

            pub child_lighter : width ≤ 128 → weight c + weight (moved_on p later) < weight p
            child_lighter small =
                let space = child_space in
                let h = weight-child p.depth c.depth (is_in c.node.value_bitmap c.node.child_bitmap) (to_come c.places) depth_is (omega (arith, space, depth_is, small)) all in
                omega (arith, h, weight_is p s later first)
