-- The places of two nodes with one path, and what two tables have there.
use Rattle.prefix_trie_table.proofs.Prelude.{◌≡◌, ℕ, ◌+◌, ◌*◌, ◌%◌, ◌<◌, ◌≤◌, Bool, true, false, cond, ◌⊎◌, nat_lt, List, [], ◌++◌, length, length-append, drop, Option, None, Some, is_some, refl, sym, ap, ap₂, ◌∙◌, arith, inl, inr, filter, false≢true, cases_lt, contains_key, get, number, begins, begins-rest, has, value_bit, is_in, strings, Entries, listing_below, listing_at_place, listing_at_places, value_bit-small, and-first, and-second, or-cases, listing_at_no_value, listing_at_child, listing_below_none, Node, Store, has_bit, blank_node, chunks_of, bit_of, seat_of, seat_in, value_seat, read, child, child_slot, below, Shaped, Tree, IsTable, IsTrie}
use Rattle.prefix_trie_bits.proofs.Model.NodeListings.{listing_by_some_places}
use Rattle.prefix_trie_table.specs.Walking.Combined.{IsCombination, IsCombined, is_chosen, is_combined, kept_node}
use Rattle.prefix_trie_table.specs.declared.table.combined_spot.Combination.{Combination}
use Rattle.prefix_trie_table.specs.declared.table.combined_spot.Combination.TheVariants.{Union, Intersection}
use Rattle.prefix_trie_table.proofs.Strings.Bits.{has_bit-is, has_bit-zero}
use Rattle.prefix_trie_table.proofs.Strings.Digits.{path-append}
use Rattle.prefix_trie_table.proofs.Strings.ChunkPlaces.{below_node, five_below}
use Rattle.prefix_trie_table.proofs.Strings.SmallFacts.{no_or_yes, whole_levels}
use Rattle.prefix_trie_table.proofs.Lookup.Locations.{stored_if}
use Rattle.prefix_trie_table.proofs.Tree.Subtrees.{is_in-value, is_in-child, number-small, child_inside, child_fits, few_at, read-missing}
use Rattle.prefix_trie_table.proofs.Tree.Trees.{is_none-None, read-snoc, child-missing}

-- ---- chosen bits

-- what is chosen is in one of the two
pub one_of : (combination : Combination) (a b : Bool) → is_chosen combination a b ≡ true → (a ≡ true) ⊎ (b ≡ true)
one_of Union a b h = or-cases a b h
one_of Intersection a b h = inl (and-first a b h)

-- if two bits are not chosen and two others are, then one of the others is set where its bit is not
none_of : (combination : Combination) (a b x y : Bool) → is_chosen combination a b ≡ false → is_chosen combination x y ≡ true →
    ((a ≡ false) × (x ≡ true)) ⊎ ((b ≡ false) × (y ≡ true))
none_of Union false false x y none some = elim (or-cases x y some) as (λ _. ((false ≡ false) × (x ≡ true)) ⊎ ((false ≡ false) × (y ≡ true))) [ inl h ↦ inl (refl, h) | inr h ↦ inr (refl, h) ]
none_of Union false true x y none some = absurd (false≢true (sym none))
none_of Union true b x y none some = absurd (false≢true (sym none))
none_of Intersection false b x y none some = inl (refl, and-first x y some)
none_of Intersection true b x y none some = inr (none, and-second x y some)

-- the places of bitmaps with the chosen bits are those of both nodes
pub combined-bits : (combination : Combination) (values children : ℕ) (l r : Node) → ((k : ℕ) → has values k ≡ is_chosen combination (has l.value_bitmap k) (has r.value_bitmap k)) →
    ((k : ℕ) → has children k ≡ is_chosen combination (has l.child_bitmap k) (has r.child_bitmap k)) → (s : List Bool) → is_in values children s ≡ is_combined combination l r s
combined-bits combination values children l r vs cs s =
    ap₂ (λ x y. cond (nat_lt (length s) 5) x y) (vs (value_bit s)) (cs (number s))
    ∙ go (nat_lt (length s) 5) (has l.value_bitmap (value_bit s)) (has l.child_bitmap (number s)) (has r.value_bitmap (value_bit s)) (has r.child_bitmap (number s))
  where
    go : (t a b x y : Bool) → cond t (is_chosen combination a x) (is_chosen combination b y) ≡ is_chosen combination (cond t a b) (cond t x y)
    go true a b x y = refl
    go false a b x y = refl

-- ---- one table

module _ (v : Store Node) (level : ℕ) (q : List Bool) (long : length q ≡ 5 * level) where
  whole : length q % 5 ≡ 0
  whole = whole_levels (length q) level long

  -- the node at the path, as a walk keeps it
  abbrev kept_at : Node
  kept_at = kept_node (read v.slots (chunks_of q))

  -- a string of less than five bits below the path has a seat if the node has its bit
  module _ (s : List Bool) (short : length s ≤ 4) where
    pub seat_in_node : seat_of v.slots (q ++ s) ≡ seat_in (Some kept_at) (value_bit s)
    unfolding seat_of
    seat_in_node =
        let at = below_node level q s long short in
        ap₂ (λ p r. seat_in (read v.slots p) (value_bit r)) at.0 at.1 ∙ go (read v.slots (chunks_of q))
      where
        go : (o : Option Node) → seat_in o (value_bit s) ≡ seat_in (Some (kept_node o)) (value_bit s)
        go None = sym (ap (λ t. cond t (Some (value_seat blank_node (value_bit s))) None) (has_bit-zero (value_bit s)))
        go (Some n) = refl

    pub seat_if_bit : is_some (seat_of v.slots (q ++ s)) ≡ is_in kept_at.value_bitmap kept_at.child_bitmap s
    seat_if_bit =
        ap is_some seat_in_node ∙ go (has_bit kept_at.value_bitmap (value_bit s))
        ∙ has_bit-is kept_at.value_bitmap (value_bit s) (let h = value_bit-small s short in omega (arith, h))
        ∙ sym (is_in-value kept_at.value_bitmap kept_at.child_bitmap s (omega (arith, short)))
      where
        go : (t : Bool) → is_some (cond t (Some (value_seat kept_at (value_bit s))) None) ≡ t
        go true = refl
        go false = refl

  -- a string of five bits below the path is that of a child if the node has its bit
  module _ (s : List Bool) (five : length s ≡ 5) where
    pub child_bit : is_in kept_at.value_bitmap kept_at.child_bitmap s ≡ has_bit kept_at.child_bitmap (number s)
    child_bit =
        is_in-child kept_at.value_bitmap kept_at.child_bitmap s five ∙ sym (has_bit-is kept_at.child_bitmap (number s) (number-small s five))

    longer : length (q ++ s) ≡ 5 * (level + 1)
    longer = omega (arith, long, length-append q s, five)

    child_read : read v.slots (chunks_of (q ++ s)) ≡ below v.slots (read v.slots (chunks_of q)) (number s)
    child_read = ap (read v.slots) (five_below level q s long five) ∙ read-snoc v.slots (chunks_of q) (number s)

    -- the walk keeps this node for the child
    pub child_kept : kept_node (read v.slots (chunks_of (q ++ s))) ≡ kept_node (child v.slots kept_at (number s))
    unfolding child
    child_kept = ap kept_node child_read ∙ go (read v.slots (chunks_of q))
      where
        go : (o : Option Node) → kept_node (below v.slots o (number s)) ≡ kept_node (child v.slots (kept_node o) (number s))
        go None = sym (ap kept_node (child-missing v.slots blank_node (number s) (has_bit-zero (number s))))
        go (Some n) = refl

    -- without a child, no string below has a seat
    pub no_seat_below : is_in kept_at.value_bitmap kept_at.child_bitmap s ≡ false → (k : List Bool) → is_some (seat_of v.slots k) ≡ true → begins (q ++ s) k ≡ false
    unfolding seat_of
    no_seat_below clear k there = no_or_yes (begins (q ++ s) k) (λ e.
        let rest = drop (length (q ++ s)) k in
        let search_path : chunks_of k ≡ chunks_of (q ++ s) ++ chunks_of rest = ap chunks_of (begins-rest (q ++ s) k e) ∙ path-append (q ++ s) rest (whole_levels (length (q ++ s)) (level + 1) longer) in
        let none : read v.slots (chunks_of k) ≡ None = ap (read v.slots) search_path ∙ read-missing v.slots (chunks_of (q ++ s)) (chunks_of rest) (child_read ∙ missing (read v.slots (chunks_of q)) (sym child_bit ∙ clear)) in
        false≢true (sym (ap (λ o. is_some (seat_in o (bit_of k))) none) ∙ there))
      where
        missing : (o : Option Node) → has_bit (kept_node o).child_bitmap (number s) ≡ false → below v.slots o (number s) ≡ None
        missing None h = refl
        missing (Some n) h = child-missing v.slots n (number s) h

  module _ {T : Type 0} (width : ℕ) (t : Tree T) (tree : IsTrie width t.count v t.cells t.shape) where
    -- a node that the walk keeps has no value bit 31
    pub kept_few : has_bit kept_at.value_bitmap 31 ≡ false
    kept_few = go (read v.slots (chunks_of q)) refl
      where
        go : (o : Option Node) → read v.slots (chunks_of q) ≡ o → has_bit (kept_node o).value_bitmap 31 ≡ false
        go None e = has_bit-zero 31
        go (Some n) e = few_at width v t tree (chunks_of q) n e

    -- a seat is that of a string within the width
    pub seat_fits : (s : List Bool) → is_some (seat_of v.slots (q ++ s)) ≡ true → length q + length s ≤ width
    seat_fits s there =
        let h = tree.within (q ++ s) (stored_if v t.cells t.count (t.shape, tree.shaped) tree.table (q ++ s) ∙ there) in omega (arith, h, length-append q s)

    module _ (s : List Bool) (five : length s ≡ 5) (set : has_bit kept_at.child_bitmap (number s) ≡ true) where
      -- the slot of a child is in the array, and its string within the width
      pub child_there : (child_slot kept_at (number s) < length v.slots) × (length q + 5 ≤ width)
      child_there = go (read v.slots (chunks_of q)) refl set
        where
          go : (o : Option Node) → read v.slots (chunks_of q) ≡ o → has_bit (kept_node o).child_bitmap (number s) ≡ true → (child_slot (kept_node o) (number s) < length v.slots) × (length q + 5 ≤ width)
          go None e h = absurd (false≢true (sym (has_bit-zero (number s)) ∙ h))
          go (Some n) e h =
              let bit : has n.child_bitmap (number s) ≡ true = sym (has_bit-is n.child_bitmap (number s) (number-small s five)) ∙ h in (
                child_inside width v t tree q n whole e s five bit,
                child_fits width v t tree q n whole e s five bit,
              )

-- ---- two tables

module _ {X : Type 0} (v w : Store Node) (combination : Combination) (both : Entries X) (is : IsCombined combination v.slots w.slots both) (level : ℕ) (q : List Bool) (long : length q ≡ 5 * level) where
  abbrev left : Node
  left = kept_at v level q long

  abbrev right : Node
  right = kept_at w level q long

  pub stored_if_combined : (s : List Bool) → length s ≤ 4 → contains_key both (q ++ s) ≡ is_combined combination left right s
  stored_if_combined s short = is (q ++ s) ∙ ap₂ (is_chosen combination) (seat_if_bit v level q long s short) (seat_if_bit w level q long s short)

  -- nothing is at a place that is not chosen
  unset : (s : List Bool) → length s ≤ 5 → is_combined combination left right s ≡ false → listing_at_place both q s ≡ []
  unset s most clear = elim (cases_lt (length s) 5) as (λ _. listing_at_place both q s ≡ []) [
    | inl l ↦
        let short : length s ≤ 4 = omega arith in
        listing_at_no_value both q s short (is_none-None (get both (q ++ s)) (stored_if_combined s short ∙ clear))
    | inr g ↦
        let five : length s ≡ 5 = omega arith in
        listing_at_child both q s five ∙ listing_below_none both (q ++ s) (λ k there.
        elim (none_of combination _ _ _ _ clear (sym (is k) ∙ there)) as (λ _. begins (q ++ s) k ≡ false) [
          | inl h ↦ no_seat_below v level q long s five h.0 k h.1
          | inr h ↦ no_seat_below w level q long s five h.0 k h.1
        ])
  ]

  -- so the chosen places have all that is below the path
  pub all_combined_places : listing_at_places both q (filter (is_combined combination left right) (strings 5)) ≡ listing_below both q
  all_combined_places = listing_by_some_places both q (is_combined combination left right) unset

-- the keys of two tables are those of their nodes
pub combined_of : {T U X : Type 0} (v w : Store Node) (cs : Store (Option T)) (ds : Store (Option U)) (m n : ℕ) (l : Shaped v.slots cs.slots) (r : Shaped w.slots ds.slots) → IsTable v cs m l.0 → IsTable w ds n r.0 →
    (left : Entries T) (right : Entries U) → l.0.entries ≡ left → r.0.entries ≡ right → (combination : Combination) (both : Entries X) → IsCombination combination left right both → IsCombined combination v.slots w.slots both
combined_of v w cs ds m n l r table table2 es fs left_is right_is combination both is = λ s.
    is s
    ∙ ap₂ (is_chosen combination)
    (ap (λ x. contains_key x s) (sym left_is) ∙ stored_if v cs m l table s)
    (ap (λ x. contains_key x s) (sym right_is) ∙ stored_if w ds n r table2 s)
