-- Which changes keep a store sound: its blocks tile the array, no two overlap, and each used block holds its list.
use Rattle.prefix_trie_table.proofs.Prelude.{◌≡◌, ◌≢◌, ℕ, zero, suc, ◌+◌, ◌-◌, ◌*◌, ◌<◌, ◌≤◌, ⊎_elim, cond, eqb, List, [], ◌∷◌, ◌++◌, length, get_or, set, drop, map, replicate, insert, remove, sum_by, count_by, All, IsPermutation, refl, sym, ap, ◌∙◌, subst, arith, append_assoc, length-append, get_or-set_other, set-set, set-get_or, length-replicate, map-append, get_or-take, get_or-drop, get_or_append_left, set-append_left, insert-append_left, insert-append_right, remove-append_left, remove-append_right, length-insert, length-remove, All-nil, All-cons, All-head, All-tail, All-weaker, All-same, All-map, sum_by-cons, sum_by-set, All-permutation, IsPermutation-refl, IsPermutation-sym, IsPermutation-trans, IsPermutation-cons, IsPermutation-to_front, IsPermutation-middle, IsPermutation-append_left, IsPermutation-append_right, IsPermutation-map, sum_by-IsPermutation, cases_eq, nat_tests, Tiles, AreBlocksOf, run, put_run, Tier, Store, UsedBlock, Sound, IsOfTier, HoldsItems, IsVacant, tier_at, tier_sizes, slots_made, extent, of_size, free_extents, with_tier, filled, block, held, no_blocks}
use Rattle.std.proofs.lemmas.List.{get_or-set_same, length-set}
use Rattle.prefix_trie_bits.specs.Calls.Blocks.{Block as Extent}
use Rattle.prefix_trie_table.proofs.Blocks.RunLemmas.{Apart, length-run, length-put_run, run-put_run_same, run-put_run_other, run-append_left, run-append_right, moved_in_run, set_in_run, run-set_before}
use Rattle.prefix_trie_table.proofs.Blocks.BySize.{sizes_set, has_size}
use Rattle.prefix_trie_table.proofs.Blocks.Tilings.{Disjoint, Within, Tiles-push, others_apart, each_within, first_inside, blocks_moved, All-append_left, All-append_right}

-- a tier gets one more free block
free_pushed : (ts : List Tier) (k : ℕ) (t : Tier) (s : ℕ) (d : Tier) → k < length ts → t.size ≡ (get_or ts k d).size → t.starts ≡ (get_or ts k d).starts ++ s ∷ [] → IsPermutation (of_size t.size s ∷ free_extents ts) (free_extents (set ts k t))
free_pushed [] k t s d inside same_size pushed = absurd (omega arith)
free_pushed (u ∷ ts) zero t s d inside same_size pushed =
    let new : map (of_size u.size) t.starts ≡ map (of_size u.size) u.starts ++ of_size u.size s ∷ [] = ap (λ xs. map (of_size u.size) xs) pushed ∙ map-append (of_size u.size) u.starts (s ∷ []) in
    let moved : IsPermutation (of_size u.size s ∷ (map (of_size u.size) u.starts ++ free_extents ts)) ((map (of_size u.size) u.starts ++ of_size u.size s ∷ []) ++ free_extents ts) = subst (λ ys. IsPermutation (of_size u.size s ∷ (map (of_size u.size) u.starts ++ free_extents ts)) ys) (sym (append_assoc (map (of_size u.size) u.starts) (of_size u.size s ∷ []) (free_extents ts))) (IsPermutation-sym _ _ (IsPermutation-middle (map (of_size u.size) u.starts) (of_size u.size s) (free_extents ts))) in
    rw (same_size, new) moved
free_pushed (u ∷ ts) (suc k) t s d inside same_size pushed =
    IsPermutation-trans _ _ _ (IsPermutation-sym _ _ (IsPermutation-middle (map (of_size u.size) u.starts) (of_size t.size s) (free_extents ts))) (IsPermutation-append_right (map (of_size u.size) u.starts) _ _ (free_pushed ts k t s d (omega arith) same_size pushed))

-- replacing one tier by one of the same size keeps the sizes
sizes_stay : (ts : List Tier) (k : ℕ) (t : Tier) (j : ℕ) → k < length ts → t.size ≡ (tier_at ts k).size → (tier_at (set ts k t) j).size ≡ (tier_at ts j).size
sizes_stay ts k t j inside same =
    ⊎_elim (λ (e : j ≡ k). subst (λ i. (tier_at (set ts k t) i).size ≡ (tier_at ts i).size) (sym e) (ap (λ (u : Tier). u.size) (get_or-set_same ts k t _ inside) ∙ same)) (λ (n : j ≢ k). ap (λ (u : Tier). u.size) (get_or-set_other ts k j t _ n)) (cases_eq j k)

-- two facts of each element give a third
pub All-both : {Y : Type 0} (P Q R : Y → Type 0) (ys : List Y) → ((y : Y) → P y → Q y → R y) → All P ys → All Q ys → All R ys
All-both P Q R ys f p q k d inside = f (get_or ys k d) (p k d inside) (q k d inside)

-- a fact of each tier, for the tier that is changed and for the others
tier_changed : (P : ℕ → Tier → Type 0) (ts : List Tier) (k : ℕ) (t : Tier) → k < length ts → P k t → ((j : ℕ) → j < length ts → j ≢ k → P j (tier_at ts j)) → (j : ℕ) → j < length (set ts k t) → P j (tier_at (set ts k t) j)
tier_changed P ts k t inside here there j within =
    ⊎_elim (λ (e : j ≡ k). subst (λ i. P i (tier_at (set ts k t) i)) (sym e) (subst (P k) (sym (get_or-set_same ts k t _ inside)) here)) (λ (n : j ≢ k). subst (P j) (sym (get_or-set_other ts k j t _ n)) (there j (let e = length-set ts k t in omega arith) n)) (cases_eq j k)

-- a tier loses its last free block
free_popped : (ts : List Tier) (k : ℕ) (t : Tier) (x : ℕ) → k < length ts → t.size ≡ (tier_at ts k).size → (tier_at ts k).starts ≡ t.starts ++ x ∷ [] → IsPermutation (free_extents ts) (of_size (tier_at ts k).size x ∷ free_extents (set ts k t))
free_popped ts k t x inside same popped =
    let there : k < length (set ts k t) = (let n = length-set ts k t in omega arith) in
    let at : tier_at (set ts k t) k ≡ t = get_or-set_same ts k t _ inside in
    let back : set (set ts k t) k (tier_at ts k) ≡ ts = set-set ts k t (tier_at ts k) ∙ set-get_or ts k _ in
    let pushed = free_pushed (set ts k t) k (tier_at ts k) x _ there (sym same ∙ ap (λ (u : Tier). u.size) (sym at)) (popped ∙ ap (λ (u : Tier). u.starts ++ x ∷ []) (sym at)) in
    IsPermutation-sym _ _ (subst (λ us. IsPermutation (of_size (tier_at ts k).size x ∷ free_extents (set ts k t)) (free_extents us)) back pushed)

module _ {S : Type 0} where
  of_tier_stays : (ts : List Tier) (k : ℕ) (t : Tier) (live : List (UsedBlock S)) → k < length ts → t.size ≡ (tier_at ts k).size → All (IsOfTier ts) live → All (IsOfTier (set ts k t)) live
  of_tier_stays ts k t live inside same =
      All-weaker (IsOfTier ts) (IsOfTier (set ts k t)) (λ b h. record { within = (let n = length-set ts k t in omega (arith, h.within)); size_is = h.size_is ∙ sym (sizes_stay ts k t b.tier inside same) }) live

  -- each block, used or free, is within the array
  pub all_inside : (vacant : S) (live : List (UsedBlock S)) (v : Store S) → Sound vacant live v → All (Within v.first (length v.slots)) (map extent live ++ free_extents v.tiers)
  all_inside vacant live v s = each_within (tier_sizes v.tiers) v.first (length v.slots) (map extent live) (free_extents v.tiers) s.blocks

  -- the first block begins within the array
  pub first_place : (vacant : S) (live : List (UsedBlock S)) (v : Store S) → Sound vacant live v → v.first ≤ length v.slots
  first_place vacant live v s = first_inside (tier_sizes v.tiers) v.first (length v.slots) (map extent live) (free_extents v.tiers) s.blocks

  -- the slots of a block are within the array
  pub block_inside : (vacant : S) (b : UsedBlock S) (live : List (UsedBlock S)) (v : Store S) → Sound vacant (b ∷ live) v → Within v.first (length v.slots) (extent b)
  block_inside vacant b live v s = All-head (Within v.first (length v.slots)) (extent b) (map extent live ++ free_extents v.tiers) (all_inside vacant (b ∷ live) v s)

  -- all other blocks are apart from the first one
  pub others : (vacant : S) (b : UsedBlock S) (live : List (UsedBlock S)) (v : Store S) → Sound vacant (b ∷ live) v → All (Disjoint (extent b)) (map extent live ++ free_extents v.tiers)
  others vacant b live v s = others_apart (tier_sizes v.tiers) v.first (length v.slots) (extent b) (map extent live) (free_extents v.tiers) s.blocks

  -- a fact of each extent is a fact of each block
  pub All-extent : (P : Extent → Type 0) (live : List (UsedBlock S)) → All P (map extent live) → All (λ b. P (extent b)) live
  All-extent P [] all = All-nil (λ b. P (extent b))
  All-extent P (b ∷ live) all = All-cons (λ b. P (extent b)) b live (All-head P (extent b) (map extent live) all) (All-extent P live (All-tail P (extent b) (map extent live) all))

  length-filled : (vacant : S) (n : ℕ) (xs : List S) → length xs ≤ n → length (filled vacant n xs) ≡ n
  length-filled vacant n xs fits =
      let r = length-replicate (n - length xs) vacant in
      omega (arith, length-append xs (replicate (n - length xs) vacant))

  -- the array has the same blocks if one tier has other free ones and the used ones change accordingly
  retiered : (live : List (UsedBlock S)) (v : Store S) (k : ℕ) (t : Tier) (live2 : List (UsedBlock S)) → t.size ≡ (tier_at v.tiers k).size →
      IsPermutation (map extent live2 ++ free_extents (set v.tiers k t)) (map extent live ++ free_extents v.tiers) →
      AreBlocksOf (tier_sizes v.tiers) v.first (map extent live) (free_extents v.tiers) (length v.slots) →
      AreBlocksOf (tier_sizes (set v.tiers k t)) v.first (map extent live2) (free_extents (set v.tiers k t)) (length v.slots)
  retiered live v k t live2 same moved b =
      subst (λ ns. AreBlocksOf ns v.first (map extent live2) (free_extents (set v.tiers k t)) (length v.slots)) (sym (sizes_set v.tiers k t same))
      (blocks_moved (tier_sizes v.tiers) v.first (length v.slots) (map extent live) (free_extents v.tiers) b (map extent live2) (free_extents (set v.tiers k t)) moved)

  -- the first block holds another list
  pub Sound-written : (vacant : S) (b : UsedBlock S) (live : List (UsedBlock S)) (v : Store S) (items : List S) → length items ≤ b.size → Sound vacant (b ∷ live) v → Sound vacant (record b { items = items } ∷ live) (record v { slots = put_run v.slots b.start (filled vacant b.size items) })
  Sound-written vacant b live v items few s =
      let ys : List S = filled vacant b.size items in
      let fits : length ys ≡ b.size = length-filled vacant b.size items few in
      let inside : b.start + length ys ≤ length v.slots = (let w = block_inside vacant b live v s in omega (arith, w.before)) in
      let same : length (put_run v.slots b.start ys) ≡ length v.slots = length-put_run v.slots b.start ys inside in
      let apart = others vacant b live v s in
      record {
        blocks = subst (λ n. AreBlocksOf (tier_sizes v.tiers) v.first (map extent (b ∷ live)) (free_extents v.tiers) n) (sym same) s.blocks;
        of_tier = All-cons (IsOfTier v.tiers) (record b { items = items }) live (let h = All-head (IsOfTier v.tiers) b live s.of_tier in record { within = h.within; size_is = h.size_is }) (All-tail (IsOfTier v.tiers) b live s.of_tier);
        counted = s.counted;
        held = All-cons (HoldsItems vacant (put_run v.slots b.start ys)) (record b { items = items }) live (subst (λ n. run (put_run v.slots b.start ys) b.start n ≡ ys) fits (run-put_run_same v.slots b.start ys inside)) (All-both (λ c. Disjoint (extent b) (extent c)) (HoldsItems vacant v.slots) (HoldsItems vacant (put_run v.slots b.start ys)) live (λ c d h. run-put_run_other v.slots b.start ys c.start c.size inside (subst (λ n. Apart b.start n c.start c.size) (sym fits) d) ∙ h) (All-extent (Disjoint (extent b)) live (All-append_left (Disjoint (extent b)) (map extent live) (free_extents v.tiers) apart)) (All-tail (HoldsItems vacant v.slots) b live s.held));
        vacated = All-both (Disjoint (extent b)) (IsVacant vacant v.slots) (IsVacant vacant (put_run v.slots b.start ys)) (free_extents v.tiers) (λ e d h. run-put_run_other v.slots b.start ys e.start e.size inside (subst (λ n. Apart b.start n e.start e.size) (sym fits) d) ∙ h) (All-append_right (Disjoint (extent b)) (map extent live) (free_extents v.tiers) apart) s.vacated;
      }

  -- what is in the slots of the first block
  pub block_slots : (vacant : S) (b : UsedBlock S) (live : List (UsedBlock S)) (v : Store S) → Sound vacant (b ∷ live) v → run v.slots b.start b.size ≡ filled vacant b.size b.items
  block_slots vacant b live v s = All-head (HoldsItems vacant v.slots) b live s.held

  -- a block of an empty list has only vacant slots
  pub filled_none : (vacant : S) (n : ℕ) → filled vacant n [] ≡ replicate n vacant
  filled_none vacant n = ap (λ m. replicate m vacant) (let e : n - 0 ≡ n = omega arith in e)

  -- the used blocks may be listed in any order
  pub Sound-permuted : (vacant : S) (live moved : List (UsedBlock S)) (v : Store S) → IsPermutation live moved → Sound vacant live v → Sound vacant moved v
  Sound-permuted vacant live moved v p s =
      record {
        blocks = blocks_moved (tier_sizes v.tiers) v.first (length v.slots) (map extent live) (free_extents v.tiers) s.blocks (map extent moved) (free_extents v.tiers)
            (IsPermutation-append_left (free_extents v.tiers) (map extent moved) (map extent live) (IsPermutation-map extent moved live (IsPermutation-sym live moved p)));
        of_tier = All-permutation (IsOfTier v.tiers) live moved p s.of_tier;
        counted = λ k h. s.counted k h ∙ ap (λ n. length (tier_at v.tiers k).starts + n) (sym (sum_by-IsPermutation (λ (b : UsedBlock S). cond (eqb b.tier k) 1 0) live moved p));
        held = All-permutation (HoldsItems vacant v.slots) live moved p s.held;
        vacated = s.vacated;
      }

  -- a free block is made at the end of the array
  pub Sound-grown : (vacant : S) (live : List (UsedBlock S)) (v : Store S) (k : ℕ) → k < length v.tiers → Sound vacant live v → Sound vacant live (record v { slots = v.slots ++ replicate (tier_at v.tiers k).size vacant; tiers = set v.tiers k (record (tier_at v.tiers k) { made = (tier_at v.tiers k).made + 1; starts = (tier_at v.tiers k).starts ++ length v.slots ∷ [] }) })
  Sound-grown vacant live v k inside s =
      let t = tier_at v.tiers k in
      let e : Extent = of_size t.size (length v.slots) in
      let new : Tier = record t { made = t.made + 1; starts = t.starts ++ length v.slots ∷ [] } in
      let pushed : IsPermutation (e ∷ free_extents v.tiers) (free_extents (set v.tiers k new)) = free_pushed v.tiers k new (length v.slots) _ inside refl refl in
      let longer : length (v.slots ++ replicate t.size vacant) ≡ length v.slots + t.size = (let r = length-replicate t.size vacant in omega (arith, length-append v.slots (replicate t.size vacant))) in
      let within = all_inside vacant live v s in
      record {
        blocks = record {
          blocks = s.blocks.blocks ++ e ∷ [];
          tiles = subst (λ ns. Tiles ns v.first (s.blocks.blocks ++ e ∷ []) (length (v.slots ++ replicate t.size vacant))) (sym (sizes_set v.tiers k new refl))
              (subst (Tiles (tier_sizes v.tiers) v.first (s.blocks.blocks ++ e ∷ [])) (sym longer) (Tiles-push (tier_sizes v.tiers) v.first (length v.slots) s.blocks.blocks e s.blocks.tiles (has_size v.tiers k inside) refl));
          rearranged = IsPermutation-trans (map extent live ++ free_extents (set v.tiers k new)) (e ∷ (map extent live ++ free_extents v.tiers)) (s.blocks.blocks ++ e ∷ [])
              (IsPermutation-trans _ _ _ (IsPermutation-append_right (map extent live) _ _ (IsPermutation-sym _ _ pushed)) (IsPermutation-middle (map extent live) e (free_extents v.tiers)))
              (IsPermutation-trans _ _ _ (IsPermutation-cons e _ _ s.blocks.rearranged) (IsPermutation-sym _ _ (IsPermutation-to_front s.blocks.blocks e)));
        };
        of_tier = of_tier_stays v.tiers k new live inside refl s.of_tier;
        counted = tier_changed (λ j u. u.made ≡ length u.starts + count_by (λ (b : UsedBlock S). eqb b.tier j) live) v.tiers k new inside (omega (arith, s.counted k inside, length-append t.starts (length v.slots ∷ []))) (λ j h n. s.counted j h);
        held = All-both (λ c. Within v.first (length v.slots) (extent c)) (HoldsItems vacant v.slots) (HoldsItems vacant (v.slots ++ replicate t.size vacant)) live (λ c w h. run-append_left v.slots (replicate t.size vacant) c.start c.size w.before ∙ h) (All-extent (Within v.first (length v.slots)) live (All-append_left (Within v.first (length v.slots)) (map extent live) (free_extents v.tiers) within)) s.held;
        vacated = All-permutation (IsVacant vacant (v.slots ++ replicate t.size vacant)) (e ∷ free_extents v.tiers) (free_extents (set v.tiers k new)) pushed (All-cons (IsVacant vacant (v.slots ++ replicate t.size vacant)) e (free_extents v.tiers) (run-append_right v.slots (replicate t.size vacant) t.size (sym (length-replicate t.size vacant))) (All-both (Within v.first (length v.slots)) (IsVacant vacant v.slots) (IsVacant vacant (v.slots ++ replicate t.size vacant)) (free_extents v.tiers) (λ f w h. run-append_left v.slots (replicate t.size vacant) f.start f.size w.before ∙ h) (All-append_right (Within v.first (length v.slots)) (map extent live) (free_extents v.tiers) within) s.vacated));
      }

  -- 1 for a block of tier k, and 0 for another
  abbrev one_of : ℕ → UsedBlock S → ℕ
  one_of k b = cond (eqb b.tier k) 1 0

  count_same : (b : UsedBlock S) (k : ℕ) → b.tier ≡ k → one_of k b ≡ 1
  count_same b k e = grind (arith, nat_tests)

  count_other : (b : UsedBlock S) (k : ℕ) → b.tier ≢ k → one_of k b ≡ 0
  count_other b k e = grind (arith, nat_tests)

  -- how many of the blocks are of tier k
  abbrev pub count_of : ℕ → List (UsedBlock S) → ℕ
  count_of k live = count_by (λ (b : UsedBlock S). eqb b.tier k) live

  count-cons_same : (b : UsedBlock S) (live : List (UsedBlock S)) (k : ℕ) → b.tier ≡ k → count_of k (b ∷ live) ≡ suc (count_of k live)
  count-cons_same b live k e = omega (arith, sum_by-cons (one_of k) b live, count_same b k e)

  count-cons_other : (b : UsedBlock S) (live : List (UsedBlock S)) (k : ℕ) → b.tier ≢ k → count_of k (b ∷ live) ≡ count_of k live
  count-cons_other b live k e = omega (arith, sum_by-cons (one_of k) b live, count_other b k e)

  -- a free block comes into use
  pub Sound-taken : (vacant : S) (live : List (UsedBlock S)) (v : Store S) (k : ℕ) (t : Tier) (x : ℕ) → k < length v.tiers → t.size ≡ (tier_at v.tiers k).size → t.made ≡ (tier_at v.tiers k).made → (tier_at v.tiers k).starts ≡ t.starts ++ x ∷ [] → Sound vacant live v → Sound vacant (block k x (tier_at v.tiers k).size [] ∷ live) (with_tier v k t)
  Sound-taken vacant live v k t x inside same_size same_made popped s =
      let old = tier_at v.tiers k in
      let b : UsedBlock S = block k x old.size [] in
      let moved : IsPermutation (free_extents v.tiers) (extent b ∷ free_extents (set v.tiers k t)) = free_popped v.tiers k t x inside same_size popped in
      let empty : All (IsVacant vacant v.slots) (extent b ∷ free_extents (set v.tiers k t)) = All-permutation (IsVacant vacant v.slots) _ _ moved s.vacated in
      record {
        blocks = retiered live v k t (b ∷ live) same_size (IsPermutation-trans _ _ _ (IsPermutation-sym _ _ (IsPermutation-middle (map extent live) (extent b) (free_extents (set v.tiers k t)))) (IsPermutation-append_right (map extent live) _ _ (IsPermutation-sym _ _ moved))) s.blocks;
        of_tier = All-cons (IsOfTier (set v.tiers k t)) b live (record { within = (let n = length-set v.tiers k t in omega arith); size_is = sym (sizes_stay v.tiers k t k inside same_size) }) (of_tier_stays v.tiers k t live inside same_size s.of_tier);
        counted = tier_changed (λ j u. u.made ≡ length u.starts + count_of j (b ∷ live)) v.tiers k t inside (omega (arith, s.counted k inside, ap (λ (xs : List ℕ). length xs) popped, length-append t.starts (x ∷ []), same_made, count-cons_same b live k refl)) (λ j h n. s.counted j h ∙ ap (λ m. length (tier_at v.tiers j).starts + m) (sym (count-cons_other b live j (λ e. n (sym e)))));
        held = All-cons (HoldsItems vacant v.slots) b live (All-head (IsVacant vacant v.slots) (extent b) (free_extents (set v.tiers k t)) empty ∙ sym (filled_none vacant b.size)) s.held;
        vacated = All-tail (IsVacant vacant v.slots) (extent b) (free_extents (set v.tiers k t)) empty;
      }

  -- a block without items becomes free
  pub Sound-given : (vacant : S) (b : UsedBlock S) (live : List (UsedBlock S)) (v : Store S) (t : Tier) → b.items ≡ [] → t.size ≡ (tier_at v.tiers b.tier).size → t.made ≡ (tier_at v.tiers b.tier).made → t.starts ≡ (tier_at v.tiers b.tier).starts ++ b.start ∷ [] → Sound vacant (b ∷ live) v → Sound vacant live (with_tier v b.tier t)
  Sound-given vacant b live v t empty same_size same_made pushed s =
      let of : IsOfTier v.tiers b = All-head (IsOfTier v.tiers) b live s.of_tier in
      let inside : b.tier < length v.tiers = of.within in
      let size_is : t.size ≡ b.size = same_size ∙ sym of.size_is in
      let moved : IsPermutation (extent b ∷ free_extents v.tiers) (free_extents (set v.tiers b.tier t)) = subst (λ n. IsPermutation (of_size n b.start ∷ free_extents v.tiers) (free_extents (set v.tiers b.tier t))) size_is (free_pushed v.tiers b.tier t b.start _ inside same_size pushed) in
      record {
        blocks = retiered (b ∷ live) v b.tier t live same_size (IsPermutation-trans _ _ _ (IsPermutation-append_right (map extent live) _ _ (IsPermutation-sym _ _ moved)) (IsPermutation-middle (map extent live) (extent b) (free_extents v.tiers))) s.blocks;
        of_tier = of_tier_stays v.tiers b.tier t live inside same_size (All-tail (IsOfTier v.tiers) b live s.of_tier);
        counted = tier_changed (λ j u. u.made ≡ length u.starts + count_of j live) v.tiers b.tier t inside (omega (arith, s.counted b.tier inside, ap (λ (xs : List ℕ). length xs) pushed, length-append (tier_at v.tiers b.tier).starts (b.start ∷ []), same_made, count-cons_same b live b.tier refl)) (λ j h n. s.counted j h ∙ ap (λ m. length (tier_at v.tiers j).starts + m) (count-cons_other b live j (λ e. n (sym e))));
        held = All-tail (HoldsItems vacant v.slots) b live s.held;
        vacated = All-permutation (IsVacant vacant v.slots) (extent b ∷ free_extents v.tiers) (free_extents (set v.tiers b.tier t)) moved (All-cons (IsVacant vacant v.slots) (extent b) (free_extents v.tiers) (All-head (HoldsItems vacant v.slots) b live s.held ∙ ap (λ xs. filled vacant b.size xs) empty ∙ filled_none vacant b.size) s.vacated);
      }

  -- the free list of a tier with a used block has capacity for one more
  pub has_place : (vacant : S) (b : UsedBlock S) (live : List (UsedBlock S)) (v : Store S) → Sound vacant (b ∷ live) v → (b.tier < length v.tiers) × (length (tier_at v.tiers b.tier).starts < (tier_at v.tiers b.tier).made)
  has_place vacant b live v s =
      let of : IsOfTier v.tiers b = All-head (IsOfTier v.tiers) b live s.of_tier in
      (of.within, omega (arith, s.counted b.tier of.within, count-cons_same b live b.tier refl))

-- the slots of all tiers after one tier counts one more block
pub made_fits : (ts : List Tier) (k : ℕ) (old new : Tier) (starts : List ℕ) (first len : ℕ) → k < length ts → old ≡ get_or ts k old → new ≡ record { size = old.size; made = old.made + 1; starts = starts } → first + slots_made ts ≡ len → first + slots_made (set ts k new) ≡ len + old.size
made_fits ts k old new starts first len inside read new_is total =
    let f : Tier → ℕ = λ t. t.size * t.made in
    let had : f (get_or ts k old) ≡ old.size * old.made = ap f (sym read) in
    let has : f new ≡ old.size * (old.made + 1) = ap f new_is in
    omega (arith, sum_by-set f ts k new old inside, had, has)

module _ {S : Type 0} where
  -- `Sound-grown`, in the form in which the calls state what they wrote
  pub Sound-grown_as : (vacant : S) (live : List (UsedBlock S)) (v : Store S) (k n x : ℕ) (t : Tier) (items : List S) → k < length v.tiers → items ≡ v.slots ++ replicate n vacant → n ≡ (tier_at v.tiers k).size → x ≡ length v.slots → t ≡ record (tier_at v.tiers k) { made = (tier_at v.tiers k).made + 1; starts = (tier_at v.tiers k).starts ++ x ∷ [] } → Sound vacant live v → Sound vacant live (record v { slots = items; tiers = set v.tiers k t })
  Sound-grown_as vacant live v k n x t items inside items_is n_is x_is t_is s =
      let old = tier_at v.tiers k in
      subst (λ ys. Sound vacant live (record v { slots = ys; tiers = set v.tiers k t })) (sym (items_is ∙ ap (λ m. v.slots ++ replicate m vacant) n_is)) (subst (λ u. Sound vacant live (record v { slots = v.slots ++ replicate old.size vacant; tiers = set v.tiers k u })) (sym (t_is ∙ ap (λ y. record old { made = old.made + 1; starts = old.starts ++ y ∷ [] }) x_is)) (Sound-grown vacant live v k inside s))

  -- the slots of a block after an item is inserted into its list
  filled_insert : (vacant : S) (n : ℕ) (xs : List S) (i : ℕ) (x : S) → length xs < n → i ≤ length xs → insert (remove (filled vacant n xs) (length xs)) i x ≡ filled vacant n (insert xs i x)
  filled_insert vacant n xs i x space within =
      let rest : List S = replicate (n - length xs) vacant in
      let one : remove (xs ++ replicate (n - length xs) vacant) (length xs) ≡ xs ++ remove rest (length xs - length xs) = remove-append_right xs rest (length xs) (length xs) refl (omega arith) in
      let e : length xs - length xs ≡ 0 = omega arith in
      let m : n - length xs ≡ suc (n - length xs - 1) = omega arith in
      let less : remove rest (length xs - length xs) ≡ replicate (n - length xs - 1) vacant = ap (λ k. remove rest k) e ∙ ap (λ k. remove (replicate k vacant) 0) m in
      let more : n - length (insert xs i x) ≡ n - length xs - 1 = (let k = length-insert xs i x within in omega arith) in
      ap (λ ys. insert ys i x) (one ∙ ap (λ ys. xs ++ ys) less) ∙ insert-append_left xs (replicate (n - length xs - 1) vacant) i x within ∙ ap (λ k. insert xs i x ++ replicate k vacant) (sym more)

  -- the slots of a block after an item is removed from its list
  filled_remove : (vacant : S) (n : ℕ) (xs : List S) (i : ℕ) → length xs ≤ n → i < length xs → insert (remove (filled vacant n xs) i) (length xs - 1) vacant ≡ filled vacant n (remove xs i)
  filled_remove vacant n xs i fits within =
      let less : length (remove xs i) + 1 ≡ length xs = length-remove xs i within in
      let rest : List S = replicate (n - length xs) vacant in
      let out : remove (filled vacant n xs) i ≡ remove xs i ++ rest = remove-append_left xs rest i within in
      let offset : length xs - 1 - length (remove xs i) ≡ 0 = omega arith in
      let more : suc (n - length xs) ≡ n - length (remove xs i) = omega arith in
      ap (λ ys. insert ys (length xs - 1) vacant) out ∙ insert-append_right (remove xs i) rest (length (remove xs i)) (length xs - 1) vacant refl (omega arith) ∙ ap (λ k. remove xs i ++ insert rest k vacant) offset ∙ ap (λ k. remove xs i ++ replicate k vacant) more

  -- the list of a block has at most as many items as the block has slots
  pub fits_block : (vacant : S) (b : UsedBlock S) (live : List (UsedBlock S)) (v : Store S) → Sound vacant (b ∷ live) v → length b.items ≤ b.size
  fits_block vacant b live v s =
      let w = block_inside vacant b live v s in
      let n : length (run v.slots b.start b.size) ≡ b.size = length-run v.slots b.start b.size w.before in
      let h : length (filled vacant b.size b.items) ≡ b.size = ap (λ ys. length ys) (sym (block_slots vacant b live v s)) ∙ n in
      omega (arith, length-append b.items (replicate (b.size - length b.items) vacant))

  pub Sound-inserted : (vacant : S) (b : UsedBlock S) (live : List (UsedBlock S)) (v : Store S) (count offset : ℕ) (x : S) → length b.items ≡ count → count < b.size → offset ≤ count → Sound vacant (b ∷ live) v → Sound vacant (record b { items = insert b.items offset x } ∷ live) (record v { slots = insert (remove v.slots (b.start + count)) (b.start + offset) x })
  Sound-inserted vacant b live v count offset x is_count space within s =
      let w = block_inside vacant b live v s in
      let slots : insert (remove v.slots (b.start + count)) (b.start + offset) x ≡ put_run v.slots b.start (filled vacant b.size (insert b.items offset x)) = moved_in_run v.slots b.start b.size count offset x w.before space (omega arith) ∙ ap (λ ys. put_run v.slots b.start (insert (remove ys count) offset x)) (block_slots vacant b live v s) ∙ ap (λ k. put_run v.slots b.start (insert (remove (filled vacant b.size b.items) k) offset x)) (sym is_count) ∙ ap (λ ys. put_run v.slots b.start ys) (filled_insert vacant b.size b.items offset x (omega arith) (omega arith)) in
      let longer = length-insert b.items offset x (omega arith) in
      subst (λ ys. Sound vacant (record b { items = insert b.items offset x } ∷ live) (record v { slots = ys })) (sym slots) (Sound-written vacant b live v (insert b.items offset x) (omega arith) s)

  pub Sound-removed : (vacant : S) (b : UsedBlock S) (live : List (UsedBlock S)) (v : Store S) (count offset : ℕ) → length b.items ≡ count → offset < count → Sound vacant (b ∷ live) v → Sound vacant (record b { items = remove b.items offset } ∷ live) (record v { slots = insert (remove v.slots (b.start + offset)) (b.start + count - 1) vacant })
  Sound-removed vacant b live v count offset is_count within s =
      let w = block_inside vacant b live v s in
      let fits = fits_block vacant b live v s in
      let last : b.start + count - 1 ≡ b.start + (length b.items - 1) = omega arith in
      let slots : insert (remove v.slots (b.start + offset)) (b.start + count - 1) vacant ≡ put_run v.slots b.start (filled vacant b.size (remove b.items offset)) = ap (λ k. insert (remove v.slots (b.start + offset)) k vacant) last ∙ moved_in_run v.slots b.start b.size offset (length b.items - 1) vacant w.before (omega arith) (omega arith) ∙ ap (λ ys. put_run v.slots b.start (insert (remove ys offset) (length b.items - 1) vacant)) (block_slots vacant b live v s) ∙ ap (λ ys. put_run v.slots b.start ys) (filled_remove vacant b.size b.items offset fits (omega arith)) in
      let less = length-remove b.items offset (omega arith) in
      subst (λ ys. Sound vacant (record b { items = remove b.items offset } ∷ live) (record v { slots = ys })) (sym slots) (Sound-written vacant b live v (remove b.items offset) (omega arith) s)

  -- a slot of a block has an item of its list
  pub slot_of_block : (vacant : S) (b : UsedBlock S) (live : List (UsedBlock S)) (v : Store S) (offset : ℕ) (d : S) → offset < length b.items → Sound vacant (b ∷ live) v → get_or v.slots (b.start + offset) d ≡ get_or b.items offset d
  slot_of_block vacant b live v offset d within s =
      let fits = fits_block vacant b live v s in
      sym (get_or-drop b.start v.slots offset d) ∙ sym (get_or-take b.size (drop b.start v.slots) offset d (omega arith)) ∙ ap (λ ys. get_or ys offset d) (block_slots vacant b live v s) ∙ get_or_append_left b.items (replicate (b.size - length b.items) vacant) d offset within

  -- the first two blocks in the list change places
  pub Sound-exchanged : (vacant : S) (a b : UsedBlock S) (live : List (UsedBlock S)) (v : Store S) → Sound vacant (a ∷ b ∷ live) v → Sound vacant (b ∷ a ∷ live) v
  Sound-exchanged vacant a b live v s = Sound-permuted vacant (a ∷ b ∷ live) (b ∷ a ∷ live) v (IsPermutation-middle (a ∷ []) b live) s

  -- the tier of a used block has its size
  pub tier_of_block : (vacant : S) (b : UsedBlock S) (live : List (UsedBlock S)) (v : Store S) → Sound vacant (b ∷ live) v → IsOfTier v.tiers b
  tier_of_block vacant b live v s = All-head (IsOfTier v.tiers) b live s.of_tier

  -- a list with items has a block
  pub list_block : (vacant : S) (k start n : ℕ) (xs : List S) (live : List (UsedBlock S)) (v : Store S) → 0 < length xs → Sound vacant (held k start n xs ++ live) v → Sound vacant (block k start n xs ∷ live) v
  list_block vacant k start n [] live v h s = absurd (omega arith)
  list_block vacant k start n (x ∷ xs) live v h s = s

  pub block_list : (vacant : S) (k start n : ℕ) (xs : List S) (live : List (UsedBlock S)) (v : Store S) → 0 < length xs → Sound vacant (block k start n xs ∷ live) v → Sound vacant (held k start n xs ++ live) v
  block_list vacant k start n [] live v h s = absurd (omega arith)
  block_list vacant k start n (x ∷ xs) live v h s = s

  pub no_list : (vacant : S) (k start n : ℕ) (xs : List S) (live : List (UsedBlock S)) (v : Store S) → length xs ≡ 0 → Sound vacant live v → Sound vacant (held k start n xs ++ live) v
  no_list vacant k start n [] live v h s = s
  no_list vacant k start n (x ∷ xs) live v h s = absurd (omega arith)

-- tiers without blocks take no slots
pub no_slots_made : (ts : List Tier) → All (λ t. (t.made ≡ 0) × (t.starts ≡ [])) ts → slots_made ts ≡ 0
no_slots_made [] none = refl
no_slots_made (t ∷ ts) none =
    let f : Tier → ℕ = λ u. u.size * u.made in
    let here : t.made ≡ 0 = (none 0 t (omega arith)).0 in
    let zero_here : t.size * t.made ≡ 0 = ap (λ m. t.size * m) here ∙ (let e : t.size * 0 ≡ 0 = omega arith in e) in
    let rest : sum_by f ts ≡ 0 = no_slots_made ts (All-tail (λ u. (u.made ≡ 0) × (u.starts ≡ [])) t ts none) in
    omega (arith, sum_by-cons f t ts, zero_here, rest)

-- no block is left after all are dropped
pub none_made : (ts : List Tier) → All (λ t. (t.made ≡ 0) × (t.starts ≡ [])) (map (λ t. no_blocks t.size) ts)
none_made ts = All-map (λ t. (t.made ≡ 0) × (t.starts ≡ [])) (λ (t : Tier). no_blocks t.size) ts (λ k d h. (refl, refl))

none_free : (ts : List Tier) → All (λ t. (t.made ≡ 0) × (t.starts ≡ [])) ts → free_extents ts ≡ []
none_free [] none = refl
none_free (t ∷ ts) none = ap (λ xs. map (of_size t.size) xs ++ free_extents ts) (none 0 t (omega arith)).1 ∙ none_free ts (All-tail (λ u. (u.made ≡ 0) × (u.starts ≡ [])) t ts none)

module _ {S : Type 0} where
  pub Sound-new : (vacant : S) (v : Store S) → v.first ≡ length v.slots → All (λ t. (t.made ≡ 0) × (t.starts ≡ [])) v.tiers → Sound vacant [] v
  Sound-new vacant v whole none =
      record {
        blocks = record { blocks = []; tiles = sym whole; rearranged = subst (λ xs. IsPermutation xs []) (sym (none_free v.tiers none)) (IsPermutation-refl []) };
        of_tier = All-nil (IsOfTier v.tiers);
        counted = λ k h. (let e = none k (record { size = 0; made = 0; starts = [] }) h in e.0 ∙ ap (λ (xs : List ℕ). length xs + 0) (sym e.1));
        held = All-nil (HoldsItems vacant v.slots);
        vacated = All-same (IsVacant vacant v.slots) (free_extents v.tiers) [] (none_free v.tiers none) (All-nil (IsVacant vacant v.slots));
      }

module _ {S : Type 0} where
  -- one item of a block is overwritten
  pub Sound-set : (vacant : S) (b : UsedBlock S) (live : List (UsedBlock S)) (v : Store S) (i : ℕ) (x : S) → i < length b.items → Sound vacant (b ∷ live) v → Sound vacant (record b { items = set b.items i x } ∷ live) (record v { slots = set v.slots (b.start + i) x })
  Sound-set vacant b live v i x within s =
      let w = block_inside vacant b live v s in
      let fits = fits_block vacant b live v s in
      let same = length-set b.items i x in
      let slots : set v.slots (b.start + i) x ≡ put_run v.slots b.start (filled vacant b.size (set b.items i x)) = set_in_run v.slots b.start b.size i x w.before (omega arith) ∙ ap (λ ys. put_run v.slots b.start (set ys i x)) (block_slots vacant b live v s) ∙ ap (λ ys. put_run v.slots b.start ys) (set-append_left b.items (replicate (b.size - length b.items) vacant) i x within ∙ ap (λ n. set b.items i x ++ replicate (b.size - n) vacant) (sym same)) in
      subst (λ ys. Sound vacant (record b { items = set b.items i x } ∷ live) (record v { slots = ys })) (sym slots) (Sound-written vacant b live v (set b.items i x) (omega arith) s)

  -- a slot before the first block is overwritten
  pub Sound-set_before : (vacant : S) (live : List (UsedBlock S)) (v : Store S) (i : ℕ) (x : S) → i < v.first → Sound vacant live v → Sound vacant live (record v { slots = set v.slots i x })
  Sound-set_before vacant live v i x before s =
      let within = all_inside vacant live v s in
      record {
        blocks = subst (λ n. AreBlocksOf (tier_sizes v.tiers) v.first (map extent live) (free_extents v.tiers) n) (sym (length-set v.slots i x)) s.blocks;
        of_tier = s.of_tier;
        counted = s.counted;
        held = All-both (λ c. Within v.first (length v.slots) (extent c)) (HoldsItems vacant v.slots) (HoldsItems vacant (set v.slots i x)) live (λ c w h. run-set_before v.slots c.start c.size i x (omega (arith, w.after)) ∙ h) (All-extent (Within v.first (length v.slots)) live (All-append_left (Within v.first (length v.slots)) (map extent live) (free_extents v.tiers) within)) s.held;
        vacated = All-both (Within v.first (length v.slots)) (IsVacant vacant v.slots) (IsVacant vacant (set v.slots i x)) (free_extents v.tiers) (λ e w h. run-set_before v.slots e.start e.size i x (omega (arith, w.after)) ∙ h) (All-append_right (Within v.first (length v.slots)) (map extent live) (free_extents v.tiers) within) s.vacated;
      }
