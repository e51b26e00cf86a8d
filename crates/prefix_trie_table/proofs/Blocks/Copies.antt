-- Arrays whose values are clones of those of other arrays: for `clone`.
use Rattle.prefix_trie_table.proofs.Prelude.{◌≡◌, ℕ, zero, suc, ◌+◌, ◌-◌, ◌<◌, Bool, true, false, eqb, cond, List, [], ◌∷◌, ◌++◌, length, get_or, map, flat_map, replicate, take, drop, Option, None, Some, is_some, refl, sym, ap, ◌∙◌, subst, arith, length-append, drop-drop, range_with_len, take-add, ext_get_or, get_or-replicate, length-replicate, length-map, length_push, drop-take, drop_at, map-append, All-map, All-weaker, fill_by_all, length-map-range_with_len, map-range_with_len_more, Node, has_bit, if_set, bits_below, bits, rank, run, AreBlocksOf, Store, UsedBlock, Sound, IsOfTier, HoldsItems, IsVacant, tier_at, tier_sizes, extent, of_size, free_extents, held, size_in, cell_sizes, value_blocks, value_blocks_of, value_in, value_of}
use Rattle.std.proofs.lemmas.List.{append-nil}
use Rattle.prefix_trie_bits.specs.Calls.Blocks.{Block as Extent}
use Rattle.prefix_trie_table.proofs.Blocks.RunLemmas.{length-run, get_or-run}
use Rattle.prefix_trie_table.proofs.Blocks.SlotSums.{sum_by-mapped}
use Rattle.prefix_trie_table.proofs.Blocks.Soundness.{All-both, All-extent, all_inside}
use Rattle.prefix_trie_table.proofs.Blocks.Tilings.{Within, All-append_left, All-append_right}
use Rattle.prefix_trie_table.proofs.Tree.Shapes.{value_in-there}
use Rattle.prefix_trie_table.proofs.Tree.Trees.{is_none-None}

-- the items at the set bits of a bitmap are those at the ranks of the bits, in order
ranked : {Y : Type 0} (g f : ℕ → Y) (bitmap n : ℕ) → ((b : ℕ) → has_bit bitmap b ≡ true → g b ≡ f (rank bitmap b)) →
    map g (bits_below bitmap n) ≡ map f (range_with_len 0 (length (bits_below bitmap n)))
unfolding rank
ranked g f bitmap zero same = refl
ranked g f bitmap (suc n) same = map-append g (bits_below bitmap n) (if_set (has_bit bitmap n) n) ∙ last (ranked g f bitmap n same) (has_bit bitmap n) refl
  where
    last : map g (bits_below bitmap n) ≡ map f (range_with_len 0 (length (bits_below bitmap n))) → (s : Bool) → has_bit bitmap n ≡ s →
        map g (bits_below bitmap n) ++ map g (if_set s n) ≡ map f (range_with_len 0 (length (bits_below bitmap n ++ if_set s n)))
    last ih false e =
        append-nil (map g (bits_below bitmap n)) ∙ ih
        ∙ ap (λ xs. map f (range_with_len 0 (length xs))) (sym (append-nil (bits_below bitmap n)))
    last ih true e =
        (λ i. ih i ++ same n e i ∷ [])
        ∙ sym (ap (λ k. map f (range_with_len 0 k)) (length_push (bits_below bitmap n) n)
        ∙ map-range_with_len_more f 0 (length (bits_below bitmap n)) (length (bits_below bitmap n)) (omega arith))

module _ {T : Type 0} (ys : List (Option T)) where
  -- n items from a slot on
  abbrev read_items : ℕ → ℕ → List (Option T)
  read_items start n = map (λ i. get_or ys (start + i) None) (range_with_len 0 n)

  -- a block with the items that the copy has in its slots
  abbrev pub read_block : UsedBlock (Option T) → UsedBlock (Option T)
  read_block b = record b { items = read_items b.start (length b.items) }

  module _ (reading : List ℕ → Option Node) (values : List ℕ → ℕ → Option T) where
    node_read : (p : List ℕ) (o : Option Node) → reading p ≡ o →
        value_blocks_of cell_sizes (λ q b. value_of ys (reading q) b) p o ≡ map read_block (value_blocks_of cell_sizes values p o)
    unfolding bits
    node_read p None e = refl
    node_read p (Some n) e = listed (map (values p) (bits n.value_bitmap)) _
        (ap (λ o. map (λ b. value_of ys o b) (bits n.value_bitmap)) e
        ∙ ranked (value_in ys n) (λ i. get_or ys (n.value_block + i) None) n.value_bitmap 32 (λ b h. value_in-there ys n b h)
        ∙ ap (read_items n.value_block) (sym (length-map (bits n.value_bitmap) (values p))))
      where
        listed : (us zs : List (Option T)) → zs ≡ read_items n.value_block (length us) →
            held n.value_tier n.value_block (size_in cell_sizes n.value_tier) zs ≡ map read_block (held n.value_tier n.value_block (size_in cell_sizes n.value_tier) us)
        listed [] zs is = ap (held n.value_tier n.value_block (size_in cell_sizes n.value_tier)) is
        listed (u ∷ us) zs is = ap (held n.value_tier n.value_block (size_in cell_sizes n.value_tier)) is

    -- the blocks of all values, read from the copy
    pub paths_read : (paths : List (List ℕ)) →
        flat_map (value_blocks cell_sizes reading (λ q b. value_of ys (reading q) b)) paths ≡ map read_block (flat_map (value_blocks cell_sizes reading values) paths)
    paths_read [] = refl
    paths_read (p ∷ paths) =
        (λ i. node_read p (reading p) refl i ++ paths_read paths i)
        ∙ sym (map-append read_block (value_blocks cell_sizes reading values p) (flat_map (value_blocks cell_sizes reading values) paths))

-- the copy has a value at exactly the slots where the array has one
module _ {T : Type 0} (v : Store (Option T)) (ys : List (Option T)) (long : length ys ≡ length v.slots)
    (kept : (i : ℕ) → is_some (get_or ys i None) ≡ is_some (get_or v.slots i None)) where
  vacant_stays : (first : ℕ) (e : Extent) → Within first (length v.slots) e → IsVacant None v.slots e → IsVacant None ys e
  vacant_stays first e inside h =
      let before = inside.before in
      let l : length (run ys e.start e.size) ≡ e.size = length-run ys e.start e.size (omega arith) in
      ext_get_or None (run ys e.start e.size) (replicate e.size None) (l ∙ sym (length-replicate e.size None))
      (λ i within.
      let small : i < e.size = omega arith in
      let none : get_or v.slots (e.start + i) None ≡ None = sym (get_or-run v.slots e.start e.size i None small) ∙ ap (λ zs. get_or zs i None) h ∙ get_or-replicate e.size i None None small in
      get_or-run ys e.start e.size i None small ∙ is_none-None (get_or ys (e.start + i) None) (kept (e.start + i) ∙ ap is_some none)
      ∙ sym (get_or-replicate e.size i None None small))

  -- the block in the copy holds the copied items
  items_read : (first : ℕ) (b : UsedBlock (Option T)) → Within first (length v.slots) (extent b) → HoldsItems None v.slots b → HoldsItems None ys (read_block ys b)
  items_read first b inside h =
      let c : ℕ = length b.items in
      let m : ℕ = b.size - length b.items in
      let n = length-append b.items (replicate m None) in
      let fits : c + m ≡ b.size = (let l = length-run v.slots b.start b.size inside.before in let same = ap (λ zs. length zs) h in let none : Option T = None in omega (arith, length-replicate m none)) in
      let rest : run v.slots (b.start + c) m ≡ replicate m None = ap (take m) (sym (drop-drop c b.start v.slots)) ∙ sym (drop-take c m (drop b.start v.slots)) ∙ ap (λ k. drop c (run v.slots b.start k)) fits ∙ ap (drop c) h
      ∙ drop_at b.items (replicate m None) c refl in
      let front : run ys b.start c ≡ read_items ys b.start c = fill_by_all (λ i. get_or ys (b.start + i) None) (run ys b.start c) c None (length-run ys b.start c (omega (arith, inside.before))) (λ k less. get_or-run ys b.start c k None less) in
      let back = vacant_stays first (of_size m (b.start + c)) (record { after = omega (arith, inside.after); before = omega (arith, inside.before) }) rest in
      ap (run ys b.start) (sym fits) ∙ take-add c m (drop b.start ys) ∙ (λ i. front i ++ (ap (take m) (drop-drop c b.start ys) ∙ back) i)
      ∙ ap (λ k. read_items ys b.start c ++ replicate (b.size - k) None) (sym (length-map-range_with_len (λ i. get_or ys (b.start + i) None) 0 c))

  -- the copy is sound, with blocks that hold the copied items
  pub Sound-read : (live : List (UsedBlock (Option T))) → Sound None live v → Sound None (map (read_block ys) live) (record v { slots = ys })
  Sound-read live s =
      let inside = all_inside None live v s in
      let extents : map extent (map (read_block ys) live) ≡ map extent live = same_extents live in
      record {
        blocks = subst (λ es. AreBlocksOf (tier_sizes v.tiers) v.first es (free_extents v.tiers) (length ys)) (sym extents)
            (subst (λ n. AreBlocksOf (tier_sizes v.tiers) v.first (map extent live) (free_extents v.tiers) n) (sym long) s.blocks);
        of_tier = All-map (IsOfTier v.tiers) (read_block ys) live
            (All-weaker (IsOfTier v.tiers) (λ b. IsOfTier v.tiers (read_block ys b)) (λ b h. record { within = h.within; size_is = h.size_is }) live s.of_tier);
        counted = λ k within. s.counted k within
            ∙ ap (λ n. length (tier_at v.tiers k).starts + n) (sym (sum_by-mapped (λ (b : UsedBlock (Option T)). cond (eqb b.tier k) 1 0) (read_block ys) live));
        held = All-map (HoldsItems None ys) (read_block ys) live
            (All-both (λ b. Within v.first (length v.slots) (extent b)) (HoldsItems None v.slots) (λ b. HoldsItems None ys (read_block ys b)) live (items_read v.first)
            (All-extent (Within v.first (length v.slots)) live (All-append_left (Within v.first (length v.slots)) (map extent live) (free_extents v.tiers) inside)) s.held);
        vacated = All-both (Within v.first (length v.slots)) (IsVacant None v.slots) (IsVacant None ys) (free_extents v.tiers) (vacant_stays v.first)
            (All-append_right (Within v.first (length v.slots)) (map extent live) (free_extents v.tiers) inside) s.vacated;
      }
    where
      same_extents : (live : List (UsedBlock (Option T))) → map extent (map (read_block ys) live) ≡ map extent live
      same_extents [] = refl
      same_extents (b ∷ live) = ap (λ es. extent b ∷ es) (same_extents live)
