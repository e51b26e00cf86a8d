-- Removing a value from its place of the block of values: the tree by path has one value less.
use Rattle.prefix_trie_table.proofs.Prelude.{Node, inl, inr, ◌≡◌, ◌<◌, Some, None, get_or, map, sym, ap, ◌∙◌, subst, refl, arith, length-set, rank, bits, node_sizes, cell_sizes}
use Rattle.prefix_trie_table.specs.Removals.{SameBlocks}
use Rattle.prefix_trie_table.proofs.Strings.BareBitmaps.{one_fewer}
use Rattle.prefix_trie_table.proofs.Strings.Bits.{has_bit-is}
use Rattle.prefix_trie_table.proofs.Strings.BitLists.{rank-below, rank-all, map_get}
use Rattle.prefix_trie_table.proofs.Insertion.Additions.{at_is, at_values, has_values}
use Rattle.prefix_trie_table.proofs.Tree.Trees.{slot_holds}
use Rattle.prefix_trie_table.proofs.Tree.Values.{values_first}
use Rattle.prefix_trie_table.proofs.Removal.Items.{Lost, lost_one, values_taken}
use Rattle.prefix_trie_table.proofs.Removal.GrowthBounds.{value_bounds_growth}
use Rattle.prefix_trie_table.proofs.Removal.ShrinkingLists.{cell_spaces}
use Rattle.prefix_trie_table.proofs.Blocks.BySize.{cell_sized, tiers_long}
use Rattle.prefix_trie_table.proofs.table.removal.take_value.Given as given
use Rattle.prefix_trie_table.proofs.table.removal.take_value.Goals as goal

pub remove_at-value-requires-clause-holds : goal.remove_at-value-requires-clause-holds
remove_at-value-requires-clause-holds g c =
    has_values c.args.nodes.now c.args.cells.now c.args.at c.args.node c.count.result c.requires.is_there c.requires.node
    c.count.ensures

pub remove_at-value-requires-clause-sizes : goal.remove_at-value-requires-clause-sizes
remove_at-value-requires-clause-sizes g c = cell_sized c.args.cells.now.tiers c.requires.is_there.0.holds.cells.sizes_are

pub remove_at-value-requires-clause-offset : goal.remove_at-value-requires-clause-offset
remove_at-value-requires-clause-offset g c =
    omega (
      arith,
      rank-below c.args.node.value_bitmap c.args.bit (omega (arith, c.requires.bit)) c.requires.there,
      c.rank.ensures,
      c.count.ensures,
    )

pub without_bit-requires-clause-set : goal.without_bit-requires-clause-set
without_bit-requires-clause-set g c = sym (has_bit-is c.args.node.value_bitmap c.args.bit (omega (arith, c.requires.bit))) ∙ c.requires.there

pub without_bit-requires-clause-bit : goal.without_bit-requires-clause-bit
without_bit-requires-clause-bit g c = omega (arith, c.requires.bit)

pub rank-requires : goal.rank-requires
rank-requires g c = omega (arith, c.requires.bit)

pub put-requires : goal.put-requires
put-requires g c =
    record {
      within = (at_is c.args.nodes.now c.args.at (at_values c.args.nodes.now c.args.cells.now c.args.at c.requires.is_there)).1;
      tiers = record {
        value_tier = inl (omega (arith, c.remove_at-value.ensures.tier, tiers_long c.args.cells.now.tiers cell_sizes c.requires.is_there.0.holds.cells.sizes_are));
        child_tier = inr (ap (λ (n : Node). n.child_tier) c.requires.node);
      };
    }

pub overflow_cast-left : goal.overflow_cast-left
overflow_cast-left g c = omega (arith, c.remove_at-value.ensures.tier, tiers_long c.args.cells.now.tiers cell_sizes c.requires.is_there.0.holds.cells.sizes_are)

-- what the list of values is like without the value
lost : (g : given.Over) (c : goal.After-put g) → Lost None cell_sizes c.args.cells.now c.remove_at-value.new.self c.args.node.value_tier
    c.args.node.value_block (rank c.args.node.value_bitmap 32) (rank c.args.node.value_bitmap c.args.bit)
    c.remove_at-value.result.1.tier c.remove_at-value.result.1.start
lost g c =
    let same : c.count.result ≡ rank c.args.node.value_bitmap 32 = c.count.ensures in
    let list = has_values c.args.nodes.now c.args.cells.now c.args.at c.args.node c.count.result c.requires.is_there c.requires.node
    same in
    let left = c.remove_at-value.ensures in
    let bit : c.args.bit < 32 = omega (arith, c.requires.bit) in
    lost_one None c.args.cells.now c.remove_at-value.new.self c.args.node.value_tier c.args.node.value_block c.count.result c.rank.result
    c.remove_at-value.result.1 31 c.requires.is_there.0.holds.cells.sizes_are refl cell_spaces list
    (let h = rank-below c.args.node.value_bitmap c.args.bit bit c.requires.there in omega (arith, h, same)) left.tier left.loses left.sound _ _ same
    c.rank.ensures

pub returns-clause-node_blocks : goal.returns-clause-node_blocks
returns-clause-node_blocks g c =
    subst (λ w. SameBlocks c.args.nodes.now w) (sym c.put.ensures.slots)
    (record { space = (length-set c.args.nodes.now.slots _ _, refl, refl); tiers = refl })

pub returns-clause-cell_space : goal.returns-clause-cell_space
returns-clause-cell_space g c = (lost g c).grows

pub returns-clause-bounds_growth : goal.returns-clause-bounds_growth
returns-clause-bounds_growth g c =
    value_bounds_growth c.args.nodes.now c.put.new.self c.args.cells.now c.remove_at-value.new.self c.args.at c.args.node _
    c.requires.node (at_is c.args.nodes.now c.args.at (at_values c.args.nodes.now c.args.cells.now _ c.requires.is_there)).1
    c.put.ensures.slots refl
    ((lost g c).down _ (one_fewer c.without_bit.result c.args.node.value_bitmap c.args.bit c.without_bit.ensures.clears (omega (arith, c.requires.bit))))

pub returns-clause-value : goal.returns-clause-value
returns-clause-value g c = λ reading paths values p n hold cells is_there is.
    let at = slot_holds node_sizes reading paths c.args.nodes.now hold p c.args.at n is_there is in
    let here = is ∙ ap Some (sym (c.requires.node ∙ at.0)) in
    let same : c.count.result ≡ rank c.args.node.value_bitmap 32 = c.count.ensures in
    let offset : c.rank.result ≡ rank c.args.node.value_bitmap c.args.bit = c.rank.ensures in
    let got = map_get (values p) c.args.node.value_bitmap c.args.bit c.remove_at-value.result.0 (omega (arith, c.requires.bit)) c.requires.there in
    c.remove_at-value.ensures.value _ (map (values p) (bits c.args.node.value_bitmap)) _
    (values_first cell_sizes node_sizes reading paths c.args.nodes.now hold values c.args.cells.now cells p c.args.node here)
    (rank-all (values p) c.args.node.value_bitmap ∙ sym same)
    ∙ ap (λ i. get_or (map (values p) (bits c.args.node.value_bitmap)) i c.remove_at-value.result.0) offset ∙ got.1

pub returns-clause-taken : goal.returns-clause-taken
returns-clause-taken g c =
    values_taken c.args.nodes.now c.put.new.self c.args.cells.now c.remove_at-value.new.self c.args.at c.args.bit
    c.remove_at-value.result.1.tier c.remove_at-value.result.1.start c.without_bit.result c.args.node c.requires.node c.without_bit.ensures.clears (lost g c)
    c.requires.bit c.requires.there c.put.ensures.slots
