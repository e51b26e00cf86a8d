-- The values of two strings are in two cells.
use Rattle.prefix_trie_table.proofs.Prelude.{◌≡◌, ◌≢◌, ℕ, ◌+◌, ◌<◌, ◌⊎◌, inl, inr, Bool, true, List, [], ◌∷◌, ◌++◌, length, get_or, map, flat_map, Option, None, Some, sym, ap, ◌∙◌, subst, arith, All-head, IsPermutation-cons, Node, Seat, has_bit, bits, rank, node_sizes, cell_sizes, chunks_of, bit_of, Store, UsedBlock, Sound, block, extent, free_extents, tier_sizes, SomeTable, times, without, value_blocks, value_blocks_of, IsSeat}
use Rattle.prefix_trie_table.specs.Forest.{size_in}
use Rattle.prefix_trie_table.proofs.Strings.Bits.{has_bit-below}
use Rattle.prefix_trie_table.proofs.Strings.BitLists.{map_get}
use Rattle.prefix_trie_table.proofs.Tree.Children.{same_or}
use Rattle.prefix_trie_table.proofs.Strings.Digits.{string_is}
use Rattle.prefix_trie_table.proofs.Strings.Paths.{flat_map_out}
use Rattle.prefix_trie_table.proofs.Blocks.Soundness.{Sound-permuted, fits_block}
use Rattle.prefix_trie_table.proofs.Blocks.Tilings.{Disjoint, others_apart}
use Rattle.prefix_trie_table.proofs.Tree.Trees.{held_some, listed_once, times_out}
use Rattle.prefix_trie_table.proofs.Tree.Values.{values_first}

-- two bits have two ranks
ranks_differ : (bitmap b c : ℕ) → has_bit bitmap b ≡ true → has_bit bitmap c ≡ true → b ≢ c → rank bitmap b ≢ rank bitmap c
ranks_differ bitmap b c h k ne e =
    let first = (map_get (λ i. i) bitmap b 0 (has_bit-below bitmap b h) h).1 in
    let second = (map_get (λ i. i) bitmap c 0 (has_bit-below bitmap c k) k).1 in
    ne (sym first ∙ ap (λ i. get_or (map (λ i. i) (bits bitmap)) i 0) e ∙ second)

module _ {T : Type 0} (v : Store Node) (w : Store (Option T)) (t : SomeTable v w) where
  -- the block of a node's values
  abbrev own : List ℕ → Node → UsedBlock (Option T)
  own p n = block n.value_tier n.value_block (size_in cell_sizes n.value_tier) (map (t.values p) (bits n.value_bitmap))

  abbrev blocks_at : List ℕ → List (UsedBlock (Option T))
  blocks_at = value_blocks cell_sizes t.reading t.values

  -- is one block if it has a value
  own_block : (p : List ℕ) (n : Node) (b : ℕ) → t.reading p ≡ Some n → has_bit n.value_bitmap b ≡ true → blocks_at p ≡ own p n ∷ []
  own_block p n b is bit =
      let g = map_get (t.values p) n.value_bitmap b None (has_bit-below n.value_bitmap b bit) bit in
      ap (value_blocks_of cell_sizes t.values p) is
      ∙ held_some n.value_tier n.value_block (size_in cell_sizes n.value_tier) (map (t.values p) (bits n.value_bitmap)) (let x = g.0 in omega arith)

  -- a place of a block comes before its end
  place_below : (p : List ℕ) (n : Node) (b : ℕ) (live : List (UsedBlock (Option T))) → has_bit n.value_bitmap b ≡ true → Sound None (own p n ∷ live) w →
      rank n.value_bitmap b < size_in cell_sizes n.value_tier
  place_below p n b live bit sound =
      let g = map_get (t.values p) n.value_bitmap b None (has_bit-below n.value_bitmap b bit) bit in
      let fits = fits_block None (own p n) live w sound in (let x = g.0 in omega arith)

  -- values of two nodes are in two blocks
  blocks_differ : (p q : List ℕ) (n m : Node) (b c : ℕ) → t.reading p ≡ Some n → t.reading q ≡ Some m → has_bit n.value_bitmap b ≡ true → has_bit m.value_bitmap c ≡ true →
      q ≢ p → n.value_block + rank n.value_bitmap b ≢ m.value_block + rank m.value_bitmap c
  blocks_differ p q n m b c is at bit bit2 ne same =
      let others = without p t.paths in
      let rest = flat_map blocks_at (without q others) in
      let once : times p t.paths ≡ 1 = listed_once node_sizes t.reading t.paths v t.holds.hold p n is in
      let once2 : times q t.paths ≡ 1 = listed_once node_sizes t.reading t.paths v t.holds.hold q m at in
      let there : times q others ≡ times q t.paths = times_out p q t.paths (omega (arith, once)) ne in
      let first : Sound None (own p n ∷ flat_map blocks_at others) w = subst (λ bs. Sound None (bs ++ flat_map blocks_at others) w) (sym (ap (value_blocks_of cell_sizes t.values p) is) ∙ own_block p n b is bit)
      (values_first cell_sizes node_sizes t.reading t.paths v t.holds.hold t.values w t.holds.cells p n is) in
      let both : Sound None (own p n ∷ own q m ∷ rest) w = subst (λ bs. Sound None (own p n ∷ (bs ++ rest)) w) (own_block q m c at bit2)
      (Sound-permuted None (own p n ∷ flat_map blocks_at others) (own p n ∷ (blocks_at q ++ rest)) w
      (IsPermutation-cons (own p n) (flat_map blocks_at others) (blocks_at q ++ rest) (flat_map_out blocks_at q others (omega (arith, there, once2)))) first) in
      let swapped : Sound None (own q m ∷ flat_map blocks_at (without q t.paths)) w = subst (λ bs. Sound None (bs ++ flat_map blocks_at (without q t.paths)) w) (sym (ap (value_blocks_of cell_sizes t.values q) at) ∙ own_block q m c at bit2)
      (values_first cell_sizes node_sizes t.reading t.paths v t.holds.hold t.values w t.holds.cells q m at) in
      let apart : Disjoint (extent (own p n)) (extent (own q m)) = All-head (Disjoint (extent (own p n))) (extent (own q m)) (map extent rest ++ free_extents w.tiers)
      (others_apart (tier_sizes w.tiers) w.first (length w.slots) (extent (own p n)) (extent (own q m) ∷ map extent rest) (free_extents w.tiers) both.blocks) in
      let small = place_below p n b (own q m ∷ rest) bit both in
      let small2 = place_below q m c (flat_map blocks_at (without q t.paths)) bit2 swapped in
      absurd (omega (arith, apart, same, small, small2))

  -- so two strings have two seats
  pub seats_differ : (q s : List Bool) (x y : Seat) → IsSeat t.reading (chunks_of q) (bit_of q) x → IsSeat t.reading (chunks_of s) (bit_of s) y → q ≢ s →
      x.slot ≢ y.slot
  seats_differ q s x y a b ne same = at (same_or (chunks_of s) (chunks_of q))
    where
      at : (chunks_of s ≡ chunks_of q) ⊎ (chunks_of s ≢ chunks_of q) → ⊥
      at (inl search_path) =
          let both : Some b.node ≡ Some a.node = sym b.is ∙ ap t.reading search_path ∙ a.is in
          let node : b.node ≡ a.node = cc in
          let bits_differ : bit_of q ≢ bit_of s = (λ e. ne (string_is q s (sym search_path) e)) in
          let slots : a.node.value_block + rank a.node.value_bitmap (bit_of q) ≡ a.node.value_block + rank a.node.value_bitmap (bit_of s) = sym a.slot_is ∙ same ∙ b.slot_is ∙ ap (λ (n : Node). n.value_block + rank n.value_bitmap (bit_of s)) node in
          ranks_differ a.node.value_bitmap (bit_of q) (bit_of s) a.set (subst (λ (n : Node). has_bit n.value_bitmap (bit_of s) ≡ true) node b.set) bits_differ
          (omega (arith, slots))
      at (inr apart) =
          blocks_differ (chunks_of q) (chunks_of s) a.node b.node (bit_of q) (bit_of s) a.is b.is a.set b.set apart (sym a.slot_is ∙ same ∙ b.slot_is)
