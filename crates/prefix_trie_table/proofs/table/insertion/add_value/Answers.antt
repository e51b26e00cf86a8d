-- A new value in its place of the block of values: the tree by path has one more value.
use Rattle.prefix_trie_table.proofs.Prelude.{Node, inl, inr, ◌≡◌, ◌+◌, ◌<◌, None, Some, ap, sym, ◌∙◌, refl, subst, arith, option_or, block_needed, rank, cell_sizes, AreFree, size_in, size_if_any, list_size, list_need, needs}
use Rattle.prefix_trie_table.proofs.Strings.Bits.{has_bit-is}
use Rattle.prefix_trie_table.proofs.Strings.BitLists.{rank-within}
use Rattle.prefix_trie_table.proofs.Insertion.Additions.{at_is, at_values, has_values, tier_small, values_added}
use Rattle.prefix_trie_table.proofs.Insertion.InsertionEffects.{cell_fits, few_values}
use Rattle.prefix_trie_table.proofs.Lookup.NodeSeats.{added_seat}
use Rattle.prefix_trie_table.proofs.Blocks.BySize.{cell_sized}
use Rattle.prefix_trie_table.proofs.Blocks.Turnovers.{none_turned, none_written, none_same}
use Rattle.prefix_trie_table.proofs.table.insertion.add_value.Goals as goal

pub insert_at-block-requires-clause-holds : goal.insert_at-block-requires-clause-holds
insert_at-block-requires-clause-holds g c =
    has_values c.args.nodes.now c.args.cells.now c.args.at c.args.node.now c.count.result c.requires.is_there c.requires.node
    c.count.ensures

pub insert_at-block-requires-clause-sizes : goal.insert_at-block-requires-clause-sizes
insert_at-block-requires-clause-sizes g c = cell_sized c.args.cells.now.tiers c.requires.is_there.0.holds.cells.sizes_are

pub insert_at-block-requires-clause-ready : goal.insert_at-block-requires-clause-ready
insert_at-block-requires-clause-ready g c =
    let same : rank c.args.node.now.value_bitmap 32 ≡ c.count.result = sym c.count.ensures in
    let t = c.requires.is_there.0 in
    let at = c.requires.is_there.1 in
    let is : t.reading at.path ≡ Some c.args.node.now = at.is ∙ ap Some (sym (c.requires.node ∙ (at_is c.args.nodes.now c.args.at (at_values _ _ _ c.requires.is_there)).0)) in
    let few = few_values t.reading t.values t.paths c.args.cells.now at.path c.args.node.now c.args.bit t.holds.cells is c.requires.bit c.requires.missing in (
      cell_fits c.args.cells.now.tiers (c.count.result + 1) t.holds.cells.sizes_are (omega (arith, few, same)),
      subst (λ n. AreFree c.args.cells.now.tiers (needs (list_need c.args.cells.now.tiers c.args.node.now.value_tier n) 0)) same
          (subst (λ ns. AreFree c.args.cells.now.tiers (needs (block_needed ns (size_if_any (rank c.args.node.now.value_bitmap 32) (size_in ns c.args.node.now.value_tier)) (rank c.args.node.now.value_bitmap 32)) 0))
          (sym t.holds.cells.sizes_are) c.requires.ready),
    )

pub insert_at-block-requires-clause-offset : goal.insert_at-block-requires-clause-offset
insert_at-block-requires-clause-offset g c =
    omega (
      arith,
      rank-within c.args.node.now.value_bitmap c.args.bit (omega (arith, c.requires.bit)),
      c.rank-offset.ensures,
      c.count.ensures,
    )

pub with_bit-value_bitmap-requires-clause-clear : goal.with_bit-value_bitmap-requires-clause-clear
with_bit-value_bitmap-requires-clause-clear g c = sym (has_bit-is c.args.node.now.value_bitmap c.args.bit (omega (arith, c.requires.bit))) ∙ c.requires.missing

pub overflow_cast-block : goal.overflow_cast-block
overflow_cast-block g c =
    let h = has_values c.args.nodes.now c.args.cells.now c.args.at c.args.node.now c.count.result c.requires.is_there
    c.requires.node c.count.ensures in
    let s = c.insert_at-block.ensures.sound h.size h.items h.live h.sound h.is_count in
    let small : c.insert_at-block.result.tier < 7 = tier_small None _ h.live c.insert_at-block.new.self cell_sizes s
    (c.insert_at-block.ensures.turnover.keeps.sizes ∙ c.requires.is_there.0.holds.cells.sizes_are) in
    omega (arith, small)

pub put-requires : goal.put-requires
put-requires g c =
    let h = has_values c.args.nodes.now c.args.cells.now c.args.at c.args.node.now c.count.result c.requires.is_there
    c.requires.node c.count.ensures in
    let s = c.insert_at-block.ensures.sound h.size h.items h.live h.sound h.is_count in
    let small : c.insert_at-block.result.tier < 7 = tier_small None _ h.live c.insert_at-block.new.self cell_sizes s
    (c.insert_at-block.ensures.turnover.keeps.sizes ∙ c.requires.is_there.0.holds.cells.sizes_are) in
    record {
      within = (at_is c.args.nodes.now c.args.at (at_values _ _ _ c.requires.is_there)).1;
      tiers = record { value_tier = inl (omega (arith, small)); child_tier = inr (ap (λ (n : Node). n.child_tier) c.requires.node) };
    }

pub returns-clause-nodes : goal.returns-clause-nodes
returns-clause-nodes g c = none_written _ _ _ c.args.at _ (none_same c.args.nodes.now) c.put.ensures.slots

pub returns-clause-cells : goal.returns-clause-cells
returns-clause-cells g c = none_turned _ _ _ _ c.insert_at-block.ensures.turnover

pub returns-clause-added : goal.returns-clause-added
returns-clause-added g c = λ reading paths values p n hold cells is_there is.
    let same : c.count.result ≡ rank c.args.node.now.value_bitmap 32 = c.count.ensures in
    values_added c.args.nodes.now c.put.new.self c.args.cells.now c.insert_at-block.new.self c.args.at c.rank-offset.result
    c.args.bit c.insert_at-block.result.tier c.insert_at-block.result.start c.with_bit-value_bitmap.result c.args.node.now _ c.args.value
    c.requires.node c.with_bit-value_bitmap.ensures.sets refl c.insert_at-block.ensures.turnover.keeps
    (λ size xs live s count. c.insert_at-block.ensures.sound size xs live s (count ∙ sym same))
    (subst (λ n. list_size c.args.cells.now.tiers c.insert_at-block.result.tier (n + 1) ≡ option_or (list_need c.args.cells.now.tiers c.args.node.now.value_tier n)
    (list_size c.args.cells.now.tiers c.args.node.now.value_tier n)) same c.insert_at-block.ensures.is_there)
    c.rank-offset.ensures (omega (arith, c.requires.bit))
    c.requires.missing c.requires.bit c.put.ensures.slots reading paths values p n hold cells is_there is

pub returns-clause-seat : goal.returns-clause-seat
returns-clause-seat g c = added_seat c.args.nodes.now c.put.new.self c.args.at c.rank-offset.result c.args.bit
    c.with_bit-value_bitmap.result c.args.node.now _ c.with_bit-value_bitmap.ensures.sets refl (omega (arith, c.requires.bit))
    c.rank-offset.ensures
    (at_is c.args.nodes.now c.args.at (at_values _ _ _ c.requires.is_there)).1 c.put.ensures.slots
