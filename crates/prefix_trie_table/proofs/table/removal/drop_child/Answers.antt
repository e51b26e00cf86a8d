-- Dropping a child without children from its parent's block: the tree by path has one node less.
use Rattle.prefix_trie_table.proofs.Prelude.{inl, ◌≡◌, ap, sym, ◌∙◌, refl, arith, Node, has_bit, rank, blank_node, node_sizes}
use Rattle.prefix_trie_table.proofs.Strings.BareBitmaps.{one_fewer}
use Rattle.prefix_trie_table.proofs.Strings.Bits.{has_bit-is}
use Rattle.prefix_trie_table.proofs.Strings.BitLists.{rank-below}
use Rattle.prefix_trie_table.proofs.Insertion.Additions.{at_is, has_list}
use Rattle.prefix_trie_table.proofs.Removal.Items.{Lost, lost_one, children_dropped}
use Rattle.prefix_trie_table.proofs.Removal.FreedBlocks.{gives_written, grows_written}
use Rattle.prefix_trie_table.proofs.Removal.ShrinkingLists.{node_spaces}
use Rattle.prefix_trie_table.proofs.Blocks.BySize.{node_sized, tiers_long}
use Rattle.prefix_trie_table.proofs.table.removal.drop_child.Given as given
use Rattle.prefix_trie_table.proofs.table.removal.drop_child.Goals as goal

pub visit-node-requires : goal.visit-node-requires
visit-node-requires g c = (at_is c.args.nodes.now c.args.at c.requires.is_there).1

pub remove_at-rest-requires-clause-holds : goal.remove_at-rest-requires-clause-holds
remove_at-rest-requires-clause-holds g c =
    has_list c.args.nodes.now c.args.at c.visit-node.result c.count.result c.requires.is_there c.visit-node.ensures.node
    c.count.ensures

pub remove_at-rest-requires-clause-sizes : goal.remove_at-rest-requires-clause-sizes
remove_at-rest-requires-clause-sizes g c = node_sized c.args.nodes.now.tiers c.requires.is_there.0.hold.sizes_are

pub remove_at-rest-requires-clause-offset : goal.remove_at-rest-requires-clause-offset
remove_at-rest-requires-clause-offset g c =
    omega (
      arith,
      rank-below c.visit-node.result.child_bitmap c.args.child c.requires.child
          (ap (λ (n : Node). has_bit n.child_bitmap c.args.child) c.visit-node.ensures.node ∙ c.requires.there),
      c.rank.ensures,
      c.count.ensures,
    )

pub without_bit-requires-clause-set : goal.without_bit-requires-clause-set
without_bit-requires-clause-set g c =
    sym (has_bit-is c.visit-node.result.child_bitmap c.args.child c.requires.child)
    ∙ ap (λ (n : Node). has_bit n.child_bitmap c.args.child) c.visit-node.ensures.node ∙ c.requires.there

pub without_bit-requires-clause-bit : goal.without_bit-requires-clause-bit
without_bit-requires-clause-bit g c = c.requires.child

pub rank-requires : goal.rank-requires
rank-requires g c = c.requires.child

pub put-requires : goal.put-requires
put-requires g c =
    record {
      within = omega (arith, (at_is c.args.nodes.now c.args.at c.requires.is_there).1, c.remove_at-rest.ensures.loses.turnover.keeps.longer);
      tiers = record {
        value_tier = inl c.visit-node.ensures.fits.value_tier;
        child_tier = inl (omega (arith, c.remove_at-rest.ensures.tier, tiers_long c.args.nodes.now.tiers node_sizes c.requires.is_there.0.hold.sizes_are));
      };
    }

pub overflow_cast-left : goal.overflow_cast-left
overflow_cast-left g c = omega (arith, c.remove_at-rest.ensures.tier, tiers_long c.args.nodes.now.tiers node_sizes c.requires.is_there.0.hold.sizes_are)

-- what the list of children is like without the child
lost : (g : given.Over) (c : goal.After-put g) → Lost blank_node node_sizes c.args.nodes.now c.remove_at-rest.new.self c.visit-node.result.child_tier
    c.visit-node.result.child_block (rank c.visit-node.result.child_bitmap 32) (rank c.visit-node.result.child_bitmap c.args.child)
    c.remove_at-rest.result.tier c.remove_at-rest.result.start
lost g c =
    let same : c.count.result ≡ rank c.visit-node.result.child_bitmap 32 = c.count.ensures in
    let list = has_list c.args.nodes.now c.args.at c.visit-node.result c.count.result c.requires.is_there c.visit-node.ensures.node same in
    let left = c.remove_at-rest.ensures in
    lost_one blank_node c.args.nodes.now c.remove_at-rest.new.self c.visit-node.result.child_tier c.visit-node.result.child_block c.count.result c.rank.result
    c.remove_at-rest.result 32 c.requires.is_there.0.hold.sizes_are refl node_spaces list
    (let h = rank-below c.visit-node.result.child_bitmap c.args.child c.requires.child
    (ap (λ (n : Node). has_bit n.child_bitmap c.args.child) c.visit-node.ensures.node ∙ c.requires.there) in omega (arith, h, same)) left.tier left.loses left.sound _ _ same
    c.rank.ensures

pub returns-clause-space : goal.returns-clause-space
returns-clause-space g c = grows_written c.args.nodes.now c.remove_at-rest.new.self c.put.new.self _ _ 24 (lost g c).grows c.put.ensures.slots

pub returns-clause-last : goal.returns-clause-last
returns-clause-last g c = λ none.
    gives_written c.args.nodes.now c.remove_at-rest.new.self c.put.new.self _ _
    ((lost g c).back
    (omega (arith, none, one_fewer c.without_bit.result c.visit-node.result.child_bitmap c.args.child c.without_bit.ensures.clears c.requires.child)))
    c.put.ensures.slots

pub returns-clause-dropped : goal.returns-clause-dropped
returns-clause-dropped g c =
    children_dropped c.args.nodes.now c.remove_at-rest.new.self c.put.new.self c.args.at c.args.child c.remove_at-rest.result.tier
    c.remove_at-rest.result.start c.without_bit.result c.visit-node.result c.visit-node.ensures.node c.without_bit.ensures.clears (lost g c)
    c.requires.child c.put.ensures.slots
