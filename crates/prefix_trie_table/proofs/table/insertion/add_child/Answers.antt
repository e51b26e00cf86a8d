-- A new blank child in its place of the block of children: the tree by path has one more node.
use Rattle.prefix_trie_table.specs.Blocks.NodeArrays.{FitsByte}
use Rattle.prefix_trie_table.proofs.Prelude.{inl, ◌≡◌, ◌+◌, ◌<◌, ◌≤◌, Some, ap, sym, ◌∙◌, refl, subst, arith, option_or, one_of, block_needed, Node, rank, blank_node, node_sizes, child_need, Store, AreFree, free_in, size_in, size_if_any, list_size, list_need, needs}
use Rattle.prefix_trie_table.proofs.Strings.Bits.{has_bit-is}
use Rattle.prefix_trie_table.proofs.Strings.BitLists.{rank-within, rank-missing}
use Rattle.prefix_trie_table.proofs.Insertion.Additions.{at_is, has_list, tier_small, added}
use Rattle.prefix_trie_table.proofs.Insertion.InsertionEffects.{node_fits}
use Rattle.prefix_trie_table.proofs.Blocks.BySize.{node_sized}
use Rattle.prefix_trie_table.proofs.Blocks.Turnovers.{none_turned, none_written, free_entered}
use Rattle.prefix_trie_table.proofs.table.insertion.add_child.Goals as goal

pub insert_blank-block-requires-clause-holds : goal.insert_blank-block-requires-clause-holds
insert_blank-block-requires-clause-holds g c =
    has_list c.args.nodes.now c.args.at c.args.node.now c.count.result c.requires.is_there c.requires.node
    c.count.ensures

pub insert_blank-block-requires-clause-sizes : goal.insert_blank-block-requires-clause-sizes
insert_blank-block-requires-clause-sizes g c = node_sized c.args.nodes.now.tiers c.requires.is_there.0.hold.sizes_are

pub insert_blank-block-requires-clause-ready : goal.insert_blank-block-requires-clause-ready
insert_blank-block-requires-clause-ready g c =
    let same : rank c.args.node.now.child_bitmap 32 ≡ c.count.result = sym c.count.ensures in
    let few = rank-missing c.args.node.now.child_bitmap 32 c.args.child c.requires.child c.requires.missing in (
      node_fits c.args.nodes.now.tiers (c.count.result + 1) c.requires.is_there.0.hold.sizes_are (omega (arith, few, same)),
      subst (λ n. AreFree c.args.nodes.now.tiers (needs (list_need c.args.nodes.now.tiers c.args.node.now.child_tier n) 0)) same
          (subst (λ ns. AreFree c.args.nodes.now.tiers (needs (block_needed ns (size_if_any (rank c.args.node.now.child_bitmap 32) (size_in ns c.args.node.now.child_tier)) (rank c.args.node.now.child_bitmap 32)) 0))
          (sym c.requires.is_there.0.hold.sizes_are) c.requires.ready),
    )

pub insert_blank-block-requires-clause-offset : goal.insert_blank-block-requires-clause-offset
insert_blank-block-requires-clause-offset g c =
    omega (
      arith,
      rank-within c.args.node.now.child_bitmap c.args.child c.requires.child,
      c.rank-offset.ensures,
      c.count.ensures,
    )

pub with_bit-child_bitmap-requires-clause-clear : goal.with_bit-child_bitmap-requires-clause-clear
with_bit-child_bitmap-requires-clause-clear g c = sym (has_bit-is c.args.node.now.child_bitmap c.args.child c.requires.child) ∙ c.requires.missing

pub overflow_cast-block : goal.overflow_cast-block
overflow_cast-block g c =
    let h = has_list c.args.nodes.now c.args.at c.args.node.now c.count.result c.requires.is_there c.requires.node
    c.count.ensures in
    let s = c.insert_blank-block.ensures.sound h.size h.items h.live h.sound h.is_count in
    let small : c.insert_blank-block.result.tier < 7 = tier_small blank_node _ h.live c.insert_blank-block.new.self node_sizes s
    (c.insert_blank-block.ensures.turnover.keeps.sizes ∙ c.requires.is_there.0.hold.sizes_are) in
    omega (arith, small)

pub put-requires : goal.put-requires
put-requires g c =
    let at = at_is c.args.nodes.now c.args.at c.requires.is_there in
    let h = has_list c.args.nodes.now c.args.at c.args.node.now c.count.result c.requires.is_there c.requires.node
    c.count.ensures in
    let s = c.insert_blank-block.ensures.sound h.size h.items h.live h.sound h.is_count in
    let small : c.insert_blank-block.result.tier < 7 = tier_small blank_node _ h.live c.insert_blank-block.new.self node_sizes s
    (c.insert_blank-block.ensures.turnover.keeps.sizes ∙ c.requires.is_there.0.hold.sizes_are) in
    let fits = subst FitsByte (sym c.requires.node) (c.insert_blank-block.ensures.tiers c.args.at at.1) in
    record {
      within = (let l = c.insert_blank-block.ensures.turnover.keeps.longer in omega (arith, at.1, l));
      tiers = record { value_tier = inl fits.value_tier; child_tier = inl (omega (arith, small)) };
    }

pub returns-clause-stays : goal.returns-clause-stays
returns-clause-stays g c =
    none_written c.args.nodes.now c.insert_blank-block.new.self _ c.args.at _ (none_turned _ _ _ _ c.insert_blank-block.ensures.turnover) c.put.ensures.slots

pub returns-clause-free : goal.returns-clause-free
returns-clause-free g c = λ size.
    let v = c.args.nodes.now in
    let w = c.insert_blank-block.new.self in
    let same : c.count.result ≡ rank c.args.node.now.child_bitmap 32 = c.count.ensures in
    let need : list_need v.tiers c.args.node.now.child_tier c.count.result ≡ child_need (Some c.args.node.now) = ap (list_need v.tiers c.args.node.now.child_tier) same
    ∙ ap (λ ns. block_needed ns (size_if_any (rank c.args.node.now.child_bitmap 32) (size_in ns c.args.node.now.child_tier)) (rank c.args.node.now.child_bitmap 32)) c.requires.is_there.0.hold.sizes_are in
    let left = free_entered v w _ _ _ c.insert_blank-block.ensures.is_there c.insert_blank-block.ensures.turnover size in
    subst (λ (x : Store Node). free_in v.tiers size ≤ free_in x.tiers size + one_of (child_need (Some c.args.node.now)) size) (sym c.put.ensures.slots)
    (subst (λ o. free_in v.tiers size ≤ free_in w.tiers size + one_of o size) need left)

pub returns-clause-added : goal.returns-clause-added
returns-clause-added g c = λ reading paths p n hold is_there is.
    let v = c.args.nodes.now in
    let tier = c.insert_blank-block.result.tier in
    let same : c.count.result ≡ rank c.args.node.now.child_bitmap 32 = c.count.ensures in
    added c.args.nodes.now c.insert_blank-block.new.self c.put.new.self c.args.at c.rank-offset.result c.args.child
    c.insert_blank-block.result.tier c.insert_blank-block.result.start c.with_bit-child_bitmap.result c.args.node.now _
    c.requires.node c.with_bit-child_bitmap.ensures.sets refl c.insert_blank-block.ensures.turnover.keeps
    (λ size xs live s count. c.insert_blank-block.ensures.sound size xs live s (count ∙ sym same))
    (subst (λ n. list_size v.tiers tier (n + 1) ≡ option_or (list_need v.tiers c.args.node.now.child_tier n) (list_size v.tiers c.args.node.now.child_tier n)) same c.insert_blank-block.ensures.is_there)
    c.rank-offset.ensures c.requires.child
    c.requires.missing c.put.ensures.slots reading paths p n hold is_there is
