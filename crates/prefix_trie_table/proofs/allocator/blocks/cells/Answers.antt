-- A new array of cells has no slots and no blocks, so it is sound.
use Rattle.prefix_trie_table.proofs.Prelude.{[], ◌≡◌, ap, Option, Store, refl, sym, ◌∙◌, arith, subst, All-map, HasSizes, Tier, no_blocks, cell_sizes}
use Rattle.prefix_trie_table.proofs.Blocks.Tiers.{cell_tiers}
use Rattle.prefix_trie_table.proofs.allocator.blocks.cells.Goals as goal

pub new-requires : goal.new-requires
new-requires g c = record {
  within = omega (arith, c.new-slots.ensures.len, c.new-slots.result.ok.0);
  sizes = subst HasSizes (sym c.in_ok-lists.ensures) cell_tiers;
  none_made = rw c.in_ok-lists.ensures (All-map (λ (t : Tier). (t.made ≡ 0) × (t.starts ≡ [])) no_blocks cell_sizes (λ k d h. (refl, refl)));
}

pub returns : goal.returns
returns g c = record {
  empty = c.new.ensures.value ∙ (λ i. record { slots = c.new-slots.ensures.items i; first = (sym c.new-slots.result.ok.0 ∙ c.new-slots.ensures.len) i; tiers = c.in_ok-lists.ensures i; limit = c.args.limit; capacities = (sym (ap (λ (x : Store (Option g.row.T.Denot)). x.capacities) c.new.ensures.value)) i });
  sound = c.new.ensures.sound;
}
