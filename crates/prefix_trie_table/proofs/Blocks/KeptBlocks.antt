-- The blocks of each size in an array are the used and the free ones, and no change loses one.
use Rattle.prefix_trie_table.proofs.Prelude.{◌≡◌, ℕ, ◌+◌, ◌<◌, List, Option, length, refl, sym, ap, ◌∙◌, subst, arith, Contains, get_or_default, Sizes, used_of, free_of, MakesBlocks, MakesAtMost, KeepsBlocks, Node, HasSizes, node_sizes, cell_sizes, SomeTable, Sized, Store, KeepsMade, tier_at, tier_sizes, size_in, free_counts, free_in, made_in}
use Rattle.prefix_trie_table.proofs.Blocks.BySize.{tiers_long, free_at, made_at, node_sized, cell_sized}
use Rattle.prefix_trie_table.proofs.Blocks.NodeLayouts.{layout_of}
use Rattle.prefix_trie_table.proofs.Counts.BlockCounts.{nodes_made, cells_made}

-- for each size, the blocks of the array are the used ones and the free ones
abbrev pub IsCut : {S : Type 0} → List ℕ → Store S → Sizes → Type 0
IsCut sizes v used = (size : ℕ) → Contains sizes size → made_in v.tiers size ≡ used_of used size + free_of sizes (free_counts v.tiers) size

-- this holds for each size if it holds for each tier
cut_by_tiers : {S : Type 0} (sizes : List ℕ) (v : Store S) (used : Sizes) → length sizes ≡ 7 → tier_sizes v.tiers ≡ sizes → HasSizes v.tiers →
    ((k : ℕ) → k < 7 → (tier_at v.tiers k).made ≡ length (tier_at v.tiers k).starts + used_of used (size_in sizes k)) → IsCut sizes v used
cut_by_tiers sizes v used seven are has made size (k, inside, is) =
    subst (λ s. made_in v.tiers s ≡ used_of used s + free_of sizes (free_counts v.tiers) s) (get_or_default sizes k 0 size inside ∙ is)
    (subst (λ ns. made_in v.tiers (size_in sizes k) ≡ used_of used (size_in sizes k) + free_of ns (free_counts v.tiers) (size_in sizes k)) are
    (let within : k < length v.tiers = (let l = tiers_long v.tiers sizes are in omega (arith, l, inside)) in
    let m : made_in v.tiers (size_in sizes k) ≡ (tier_at v.tiers k).made = ap (λ ns. made_in v.tiers (size_in ns k)) (sym are) ∙ made_at v.tiers k has within in
    let f : free_in v.tiers (size_in sizes k) ≡ length (tier_at v.tiers k).starts = ap (λ ns. free_in v.tiers (size_in ns k)) (sym are) ∙ free_at v.tiers k has within in
    let all = made k (omega (arith, inside, seven)) in omega (arith, m, f, all)))

module _ {S : Type 0} (sizes : List ℕ) (v v2 : Store S) (used later : Sizes) (cut : IsCut sizes v used) (cut2 : IsCut sizes v2 later) (made : ℕ → ℕ) where
  -- the blocks made in the array are added to the used and the free ones
  pub blocks_made : MakesBlocks sizes made (made_in v.tiers) (made_in v2.tiers) →
      MakesBlocks sizes made (λ size. used_of used size + free_of sizes (free_counts v.tiers) size) (λ size. used_of later size + free_of sizes (free_counts v2.tiers) size)
  blocks_made m = λ size there. (let a = cut size there in let b = cut2 size there in let c = m size there in omega (arith, a, b, c))

  pub blocks_at_most : MakesAtMost sizes made (made_in v.tiers) (made_in v2.tiers) →
      MakesAtMost sizes made (λ size. used_of used size + free_of sizes (free_counts v.tiers) size) (λ size. used_of later size + free_of sizes (free_counts v2.tiers) size)
  blocks_at_most m = λ size there. (let a = cut size there in let b = cut2 size there in let c = m size there in (omega (arith, a, b, c.0), omega (arith, a, b, c.1)))

module _ {T : Type 0} (v : Store Node) (w : Store (Option T)) (t : SomeTable v w) (sized : Sized v.slots) where
  pub nodes_cut : IsCut node_sizes v sized.0
  nodes_cut =
      let are = t.holds.hold.sizes_are in
      cut_by_tiers node_sizes v sized.0 refl are (node_sized v.tiers are) (nodes_made t.reading t.paths v t.holds.hold sized)

  pub cells_cut : IsCut cell_sizes w sized.1.0
  cells_cut =
      let are = t.holds.cells.sizes_are in
      cut_by_tiers cell_sizes w sized.1.0 refl are (cell_sized w.tiers are) (cells_made t.reading t.paths v t.holds.hold t.values w t.holds.cells sized)

module _ {T : Type 0} (v v2 : Store Node) (w w2 : Store (Option T)) (before : SomeTable v w) (after : SomeTable v2 w2) (x : Sized v.slots) (y : Sized v2.slots) where
  -- if both arrays have at least as many blocks, no block is lost
  pub kept_blocks : KeepsMade v v2 → KeepsMade w w2 → KeepsBlocks (layout_of v.slots v.tiers w.tiers x) (layout_of v2.slots v2.tiers w2.tiers y)
  kept_blocks nodes cells = (
    λ size there. (let a = nodes_cut v w before x size there in let b = nodes_cut v2 w2 after y size there in let m = nodes size in omega (arith, a, b, m)),
    λ size there. (let a = cells_cut v w before x size there in let b = cells_cut v2 w2 after y size there in let m = cells size in omega (arith, a, b, m)),
  )
