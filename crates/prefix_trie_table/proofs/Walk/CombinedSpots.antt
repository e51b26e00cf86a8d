-- The next place of two nodes gives a key or a child: for `next_at_both`.
use Rattle.prefix_trie_table.proofs.Prelude.{◌≡◌, ℕ, ◌+◌, ◌-◌, ◌*◌, ◌<◌, ◌≤◌, Bool, true, false, List, [], ◌∷◌, ◌++◌, length, take, filter, Option, Some, inl, inr, refl, sym, ap, ap₂, ◌∙◌, subst, arith, length-append, length-take-le, length-digits, All-head, All-tail, get, number, digits, zeros, value_bit, strings, to_come, Places, Entries, listing, listing_at_places, listing_at_value, listing_at_child, listing_of_root, some-value, Node, Seat, Store, has_bit, node_at, chunks_of, seat_of, seat_in, read, child, child_slot, Tree}
use Rattle.std.specs.List.{All}
use Rattle.prefix_trie_table.specs.Blocks.Cells.{without_sizes}
use Rattle.prefix_trie_table.specs.declared.table.combined_spot.Combination.{Combination}
use Rattle.prefix_trie_table.specs.declared.table.combined_spot.CombinedSpot.{CombinedSpot}
use Rattle.prefix_trie_table.specs.Walking.Combined.{GivesCombined, IsCombined, IsFilled, IsCombinedPlace, IsCombinedSpot, IsCombinedStack, CombinedTrees, is_combined, combined_pending, combined_still, combined_weight, kept_node}
use Rattle.prefix_trie_table.proofs.Tree.Trees.{read-nil}
use Rattle.prefix_trie_table.proofs.Walk.NextPlaces.{moved_on, weight_is, weight-child, still_is, extended_by, filled_by, child_digits}
use Rattle.prefix_trie_table.proofs.Walk.CombinedNodes.{one_of, seat_in_node, seat_if_bit, child_bit, child_kept, kept_few, seat_fits, child_there, stored_if_combined, all_combined_places}

-- the spot afterwards
abbrev pub combined_moved : CombinedSpot → Places → CombinedSpot
combined_moved p later = record p { spot = moved_on p.spot later }

-- a spot serves for another key with the same bits down to it
pub combined_moves : (width : ℕ) (left right : List Node) (combination : Combination) (key other : List Bool) (p : CombinedSpot) → IsCombinedSpot width left right combination key p →
    p.spot.depth ≤ length other → take p.spot.depth other ≡ take p.spot.depth key → IsCombinedSpot width left right combination other p
combined_moves width left right combination key other p i long same = record {
  level = i.level;
  depth_is = i.depth_is;
  within = i.within;
  long = long;
  left_is = i.left_is ∙ sym (ap (λ u. kept_node (read left (chunks_of u))) same);
  right_is = i.right_is ∙ sym (ap (λ u. kept_node (read right (chunks_of u))) same);
  each = i.each;
}

pub combined_still-same : {X : Type 0} (both : Entries X) (key other : List Bool) (p : CombinedSpot) → take p.spot.depth other ≡ take p.spot.depth key →
    combined_still both other p ≡ combined_still both key p
combined_still-same both key other p same = ap (λ u. listing_at_places both u (to_come p.spot.places)) same

module _ (width : ℕ) (v w : Store Node) (combination : Combination) (search_path : List Bool) (p : CombinedSpot)
    (at : IsCombinedSpot width v.slots w.slots combination search_path p) (reach : length search_path ≡ width) where
  abbrev path : List Bool
  path = take p.spot.depth search_path

  string-length : length path ≡ p.spot.depth
  string-length = length-take-le p.spot.depth search_path at.long

  levels : length path ≡ 5 * at.level
  levels = string-length ∙ at.depth_is

  module _ (s : List Bool) (later : Places) (first : to_come p.spot.places ≡ s ∷ to_come later) where
    pub goes_on : IsCombinedSpot width v.slots w.slots combination search_path (combined_moved p later)
    goes_on = record {
      level = at.level;
      depth_is = at.depth_is;
      within = at.within;
      long = at.long;
      left_is = at.left_is;
      right_is = at.right_is;
      each = All-tail (IsCombinedPlace combination p.spot.node p.right) s (to_come later) (subst (All (IsCombinedPlace combination p.spot.node p.right)) first at.each);
    }

    -- the place is one of the two nodes
    chosen : is_combined combination (kept_node (read v.slots (chunks_of path))) (kept_node (read w.slots (chunks_of path))) s ≡ true
    chosen =
        sym (ap₂ (λ l r. is_combined combination l r s) at.left_is at.right_is)
        ∙ (All-head (IsCombinedPlace combination p.spot.node p.right) s (to_come later) (subst (All (IsCombinedPlace combination p.spot.node p.right)) first at.each)).1

    module _ {T U : Type 0} (l : Tree T) (r : Tree U) (trees : CombinedTrees width v w l r) where
      -- ---- the next place is that of a value
      module _ (short : length s ≤ 4) where
        pub value_space : p.spot.depth + length s ≤ width
        value_space = elim (one_of combination _ _ chosen) as (λ _. p.spot.depth + length s ≤ width) [
          | inl h ↦ let f = seat_fits v at.level path levels width l trees.left_is s (seat_if_bit v at.level path levels s short ∙ h) in omega (arith, f, string-length)
          | inr h ↦ let f = seat_fits w at.level path levels width r trees.right_is s (seat_if_bit w at.level path levels s short ∙ h) in omega (arith, f, string-length)
        ]

        module _ {K : Type 0} (IsKey : K → Type 0) (bits : K → List Bool) (key : K) (is_key : IsKey key) (n x : ℕ) (is : s ≡ digits n x)
            (extended : bits key ≡ path ++ digits n x ++ zeros (width - (p.spot.depth + n))) (bit : ℕ) (bit_is : bit ≡ value_bit s) (on_left on_right : Option Seat)
            (left_seat : on_left ≡ seat_in (Some p.spot.node) bit) (right_seat : on_right ≡ seat_in (Some p.right) bit) where
          fits : p.spot.depth + n ≤ width
          fits = let h = value_space in let l = ap length is ∙ length-digits n x in omega (arith, h, l)

          taken : take (p.spot.depth + n) (bits key) ≡ path ++ s
          taken = extended_by search_path (bits key) width p.spot.depth n x s reach fits is extended

          pub key_filled : IsFilled IsKey bits width key (p.spot.depth + n)
          key_filled = record { is_key = is_key; short = fits; filled = filled_by search_path (bits key) width p.spot.depth n x reach fits extended }

          -- the seats are those of the key
          pub left_seated : seat_of v.slots (take (p.spot.depth + n) (bits key)) ≡ on_left
          left_seated = ap (seat_of v.slots) taken ∙ seat_in_node v at.level path levels s short ∙ ap₂ (λ m b. seat_in (Some m) b) (sym at.left_is) (sym bit_is) ∙ sym left_seat

          pub right_seated : seat_of w.slots (take (p.spot.depth + n) (bits key)) ≡ on_right
          right_seated = ap (seat_of w.slots) taken ∙ seat_in_node w at.level path levels s short ∙ ap₂ (λ m b. seat_in (Some m) b) (sym at.right_is) (sym bit_is) ∙ sym right_seat

          module _ {X : Type 0} (both : Entries X) (combined : IsCombined combination v.slots w.slots both) where
            stored : (y : X) × (get both (path ++ s) ≡ Some y)
            stored = some-value (get both (path ++ s)) (stored_if_combined v w combination both combined at.level path levels s short ∙ chosen)

            pub gives_key : GivesCombined both (take (p.spot.depth + n) (bits key)) (combined_still both search_path p) (combined_still both search_path (combined_moved p later))
            gives_key = record {
              value = stored.0;
              first =
                  still_is p.spot s later first both search_path
                  ∙ ap (λ es. es ++ combined_still both search_path (combined_moved p later)) (listing_at_value both path s stored.0 short stored.1)
                  ∙ ap (λ k. (k, stored.0) ∷ combined_still both search_path (combined_moved p later)) (sym taken);
              stored = ap (get both) taken ∙ stored.1;
            }

      -- ---- the next place is that of a child
      module _ (five : length s ≡ 5) where
        pub child_space : p.spot.depth + 5 ≤ width
        child_space = elim (one_of combination _ _ chosen) as (λ _. p.spot.depth + 5 ≤ width) [
          | inl h ↦ let f = (child_there v at.level path levels width l trees.left_is s five (sym (child_bit v at.level path levels s five) ∙ h)).1 in omega (arith, f, string-length)
          | inr h ↦ let f = (child_there w at.level path levels width r trees.right_is s five (sym (child_bit w at.level path levels s five) ∙ h)).1 in omega (arith, f, string-length)
        ]

        child_levels : length (path ++ s) ≡ 5 * (at.level + 1)
        child_levels = omega (arith, levels, five, length-append path s)

        module _ (b : ℕ) (b_is : b ≡ number s) where
          -- the slot of a child is in its array
          pub left_inside : has_bit p.spot.node.child_bitmap b ≡ true → child_slot p.spot.node b < length v.slots
          left_inside h =
              subst (λ n. child_slot n b < length v.slots) (sym at.left_is) (subst (λ k. child_slot (kept_node (read v.slots (chunks_of path))) k < length v.slots) (sym b_is)
              (child_there v at.level path levels width l trees.left_is s five (sym (ap₂ (λ (n : Node) k. has_bit n.child_bitmap k) at.left_is b_is) ∙ h)).0)

          pub right_inside : has_bit p.right.child_bitmap b ≡ true → child_slot p.right b < length w.slots
          right_inside h =
              subst (λ n. child_slot n b < length w.slots) (sym at.right_is) (subst (λ k. child_slot (kept_node (read w.slots (chunks_of path))) k < length w.slots) (sym b_is)
              (child_there w at.level path levels width r trees.right_is s five (sym (ap₂ (λ (n : Node) k. has_bit n.child_bitmap k) at.right_is b_is) ∙ h)).0)

          -- the walk keeps the child of each node, or a blank one
          left_kept : kept_node (child v.slots p.spot.node b) ≡ kept_node (read v.slots (chunks_of (path ++ s)))
          left_kept = ap₂ (λ n k. kept_node (child v.slots n k)) at.left_is b_is ∙ sym (child_kept v at.level path levels s five)

          right_kept : kept_node (child w.slots p.right b) ≡ kept_node (read w.slots (chunks_of (path ++ s)))
          right_kept = ap₂ (λ n k. kept_node (child w.slots n k)) at.right_is b_is ∙ sym (child_kept w at.level path levels s five)

          -- which has no value bit 31
          pub left_few : (n : Node) → n ≡ kept_node (child v.slots p.spot.node b) → has_bit n.value_bitmap 31 ≡ false
          left_few n is = ap (λ (m : Node). has_bit m.value_bitmap 31) (is ∙ left_kept) ∙ kept_few v (at.level + 1) (path ++ s) child_levels width l trees.left_is

          pub right_few : (n : Node) → n ≡ kept_node (child w.slots p.right b) → has_bit n.value_bitmap 31 ≡ false
          right_few n is = ap (λ (m : Node). has_bit m.value_bitmap 31) (is ∙ right_kept) ∙ kept_few w (at.level + 1) (path ++ s) child_levels width r trees.right_is

          -- the spot of the children, with all their places
          module _ (below : List Bool) (c : CombinedSpot) (reaches : length below ≡ width) (extended : below ≡ path ++ digits 5 b ++ zeros (width - (p.spot.depth + 5)))
              (depth_is : c.spot.depth ≡ p.spot.depth + 5) (left_is : c.spot.node ≡ kept_node (child v.slots p.spot.node b)) (right_is : c.right ≡ kept_node (child w.slots p.right b))
              (all : to_come c.spot.places ≡ filter (is_combined combination c.spot.node c.right) (strings 5))
              (each : All (IsCombinedPlace combination c.spot.node c.right) (to_come c.spot.places)) where
            child_string : take c.spot.depth below ≡ path ++ s
            child_string =
                ap (λ k. take k below) depth_is ∙ extended_by search_path below width p.spot.depth 5 b s reach child_space (sym (child_digits s b five b_is)) extended

            pub child_spot : IsCombinedSpot width v.slots w.slots combination below c
            child_spot = record {
              level = at.level + 1;
              depth_is = depth_is ∙ (let e = at.depth_is in omega (arith, e));
              within = (let h = child_space in omega (arith, h, depth_is));
              long = (let h = child_space in omega (arith, h, depth_is, reaches));
              left_is = left_is ∙ left_kept ∙ sym (ap (λ u. kept_node (read v.slots (chunks_of u))) child_string);
              right_is = right_is ∙ right_kept ∙ sym (ap (λ u. kept_node (read w.slots (chunks_of u))) child_string);
              each = each;
            }

            pub child_still : {X : Type 0} (both : Entries X) → IsCombined combination v.slots w.slots both →
                combined_still both search_path p ≡ combined_still both below c ++ combined_still both search_path (combined_moved p later)
            child_still both combined =
                still_is p.spot s later first both search_path
                ∙ ap (λ es. es ++ combined_still both search_path (combined_moved p later))
                (listing_at_child both path s five
                ∙ sym (all_combined_places v w combination both combined (at.level + 1) (path ++ s) child_levels)
                ∙ sym (ap₂ (listing_at_places both) child_string (all ∙ ap₂ (λ m n. filter (is_combined combination m n) (strings 5)) (left_is ∙ left_kept) (right_is ∙ right_kept))))

            pub child_lighter : width ≤ 128 → combined_weight c + combined_weight (combined_moved p later) < combined_weight p
            child_lighter small =
                let space = child_space in
                let h = weight-child p.spot.depth c.spot.depth (is_combined combination c.spot.node c.right) (to_come c.spot.places) depth_is (omega (arith, space, depth_is, small)) all in
                omega (arith, h, weight_is p.spot s later first)

-- ---- the spot of the roots

module _ (width : ℕ) (v w : Store Node) (combination : Combination) (search_path : List Bool) (c : CombinedSpot) (depth_is : c.spot.depth ≡ 0)
    (left_is : c.spot.node ≡ without_sizes (node_at v.slots 0)) (right_is : c.right ≡ without_sizes (node_at w.slots 0)) where
  root_string : take c.spot.depth search_path ≡ []
  root_string = ap (λ n. take n search_path) depth_is

  root_kept : (nodes : List Node) → kept_node (read nodes (chunks_of (take c.spot.depth search_path))) ≡ without_sizes (node_at nodes 0)
  root_kept nodes = ap kept_node (ap (λ u. read nodes (chunks_of u)) root_string ∙ read-nil nodes)

  pub root_stack : All (IsCombinedPlace combination c.spot.node c.right) (to_come c.spot.places) → IsCombinedStack width v.slots w.slots combination search_path (c ∷ [])
  root_stack each = (
    depth_is,
    record {
      level = 0;
      depth_is = depth_is;
      within = omega (arith, depth_is);
      long = omega (arith, depth_is);
      left_is = left_is ∙ sym (root_kept v.slots);
      right_is = right_is ∙ sym (root_kept w.slots);
      each = each;
    },
    tt,
  )

  -- everything is to come
  pub root_pending : {X : Type 0} (both : Entries X) → IsCombined combination v.slots w.slots both →
      to_come c.spot.places ≡ filter (is_combined combination c.spot.node c.right) (strings 5) → combined_pending both search_path (c ∷ []) ≡ listing both
  root_pending both combined all =
      ap₂ (listing_at_places both) root_string
      (all ∙ ap₂ (λ m n. filter (is_combined combination m n) (strings 5)) (left_is ∙ sym (root_kept v.slots) ∙ ap (λ u. kept_node (read v.slots (chunks_of u))) root_string)
      (right_is ∙ sym (root_kept w.slots) ∙ ap (λ u. kept_node (read w.slots (chunks_of u))) root_string))
      ∙ all_combined_places v w combination both combined 0 [] refl ∙ listing_of_root both
