-- A sum over the slots of an array is the sum over the slots before its blocks and over the items of the used blocks:
-- for counting nodes.
use Rattle.prefix_trie_table.proofs.Prelude.{◌≡◌, ℕ, ◌+◌, ◌-◌, ◌*◌, List, [], ◌∷◌, length, take, drop, map, flat_map, replicate, sum_by, All, refl, sym, ap, ap₂, ◌∙◌, arith, drop-drop, drop_all, All-head, All-tail, sum_by-replicate, sum_by-cons, sum_by-append, sum_by-take-drop, Tiles, run, Store, UsedBlock, Sound, HoldsItems, IsVacant, tier_sizes, extent, free_extents, filled}
use Rattle.prefix_trie_bits.specs.Calls.Blocks.{Block as Extent}
use Rattle.prefix_trie_table.proofs.Blocks.Tilings.{blocks_sum}

-- the sum over joined lists is the sum of their sums
pub sum_by-flat_map : {X Y : Type 0} (h : Y → ℕ) (g : X → List Y) (xs : List X) → sum_by h (flat_map g xs) ≡ sum_by (λ x. sum_by h (g x)) xs
sum_by-flat_map h g [] = refl
sum_by-flat_map h g (x ∷ xs) = sum_by-append h (g x) (flat_map g xs) ∙ ap (λ n. sum_by h (g x) + n) (sum_by-flat_map h g xs) ∙ sym (sum_by-cons (λ y. sum_by h (g y)) x xs)

-- equal terms have equal sums
pub sum_by-same : {X : Type 0} (f g : X → ℕ) (xs : List X) → ((x : X) → g x ≡ f x) → sum_by g xs ≡ sum_by f xs
sum_by-same f g [] same = refl
sum_by-same f g (x ∷ xs) same = sum_by-cons g x xs ∙ ap₂ (λ a b. a + b) (same x) (sum_by-same f g xs same) ∙ sym (sum_by-cons f x xs)

pub sum_by-mapped : {X Y : Type 0} (h : Y → ℕ) (g : X → Y) (xs : List X) → sum_by h (map g xs) ≡ sum_by (λ x. h (g x)) xs
sum_by-mapped h g [] = refl
sum_by-mapped h g (x ∷ xs) = sum_by-cons h (g x) (map g xs) ∙ ap (λ n. h (g x) + n) (sum_by-mapped h g xs) ∙ sym (sum_by-cons (λ y. h (g y)) x xs)

module _ {S : Type 0} (f : S → ℕ) where
  -- the sum over the slots of a block, and over its items
  abbrev extent_sum : List S → Extent → ℕ
  extent_sum slots e = sum_by f (run slots e.start e.size)

  abbrev pub items_sum : UsedBlock S → ℕ
  items_sum b = sum_by f b.items

  tiled : (slots : List S) (sizes : List ℕ) (first : ℕ) (es : List Extent) → Tiles sizes first es (length slots) → sum_by f (drop first slots) ≡ sum_by (extent_sum slots) es
  tiled slots sizes first [] t = ap (sum_by f) (drop_all first slots (omega (arith, t)))
  tiled slots sizes first (e ∷ es) t =
      let here : sum_by f (take e.size (drop first slots)) ≡ extent_sum slots e = ap (λ a. sum_by f (run slots a e.size)) (sym t.1) in
      let later : sum_by f (drop e.size (drop first slots)) ≡ sum_by f (drop (first + e.size) slots) = ap (sum_by f) (drop-drop e.size first slots) in
      omega (arith, sum_by-cons (extent_sum slots) e es, tiled slots sizes (first + e.size) es t.2, here, later, sum_by-take-drop f (drop first slots) e.size)

  module _ (vacant : S) (none : f vacant ≡ 0) where
    vacant_sum : (n : ℕ) → sum_by f (replicate n vacant) ≡ 0
    vacant_sum n = sum_by-replicate f n vacant ∙ ap (λ k. n * k) none ∙ (let e : n * 0 ≡ 0 = omega arith in e)

    free_sum : (slots : List S) (es : List Extent) → All (IsVacant vacant slots) es → sum_by (extent_sum slots) es ≡ 0
    free_sum slots [] h = refl
    free_sum slots (e ∷ es) h =
        let here : extent_sum slots e ≡ 0 = ap (sum_by f) (All-head (IsVacant vacant slots) e es h) ∙ vacant_sum e.size in
        omega (arith, sum_by-cons (extent_sum slots) e es, here, free_sum slots es (All-tail (IsVacant vacant slots) e es h))

    block_sum : (slots : List S) (b : UsedBlock S) → HoldsItems vacant slots b → extent_sum slots (extent b) ≡ items_sum b
    block_sum slots b h =
        let all : extent_sum slots (extent b) ≡ sum_by f (filled vacant b.size b.items) = ap (sum_by f) h in
        omega (arith, all, sum_by-append f b.items (replicate (b.size - length b.items) vacant), vacant_sum (b.size - length b.items))

    live_sum : (slots : List S) (live : List (UsedBlock S)) → All (HoldsItems vacant slots) live → sum_by (extent_sum slots) (map extent live) ≡ sum_by items_sum live
    live_sum slots [] h = refl
    live_sum slots (b ∷ bs) h =
        omega (arith, sum_by-cons (extent_sum slots) (extent b) (map extent bs), sum_by-cons items_sum b bs, block_sum slots b (All-head (HoldsItems vacant slots) b bs h), live_sum slots bs (All-tail (HoldsItems vacant slots) b bs h))

    -- for a function that is 0 at vacant slots
    pub slots_sum : (live : List (UsedBlock S)) (v : Store S) → Sound vacant live v →
        sum_by f v.slots ≡ sum_by f (take v.first v.slots) + sum_by items_sum live
    slots_sum live v s =
        omega (
          arith,
          sum_by-take-drop f v.slots v.first,
          tiled v.slots (tier_sizes v.tiers) v.first s.blocks.blocks s.blocks.tiles,
          blocks_sum (tier_sizes v.tiers) v.first (length v.slots) (map extent live) (free_extents v.tiers) s.blocks (extent_sum v.slots),
          live_sum v.slots live s.held,
          free_sum v.slots (free_extents v.tiers) s.vacated,
        )
