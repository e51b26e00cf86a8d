-- A child is read if its bit is set.
use Rattle.prefix_trie_table.proofs.Prelude.{◌<◌, ◌∙◌, ap, sym, subst, length, node_at}
use Rattle.prefix_trie_table.specs.Blocks.Cells.{without_sizes}
use Rattle.prefix_trie_table.specs.Walking.Combined.{kept_node}
use Rattle.prefix_trie_table.proofs.Strings.Bits.{has_bit-is}
use Rattle.prefix_trie_table.proofs.Tree.Trees.{child-there, child-missing}
use Rattle.prefix_trie_table.proofs.table.combined_spot.child_or_blank.Goals as goal

pub visit-requires : goal.visit-requires
visit-requires g c =
    subst (λ k. k < length c.args.nodes.now.slots) (sym c.child_slot.ensures)
    (c.requires.is_there (has_bit-is c.args.node.child_bitmap c.args.child c.requires.small ∙ sym c.has_bit.ensures ∙ c.if-has_bit.true))

pub returns-then-has_bit : goal.returns-then-has_bit
returns-then-has_bit g c =
    c.without_sizes.ensures ∙ ap without_sizes (c.visit.ensures.node ∙ ap (node_at c.args.nodes.now.slots) c.child_slot.ensures)
    ∙ sym (ap kept_node (child-there c.args.nodes.now.slots c.args.node c.args.child (has_bit-is c.args.node.child_bitmap c.args.child c.requires.small ∙ sym c.has_bit.ensures ∙ c.if-has_bit.true)))

pub returns-else-has_bit : goal.returns-else-has_bit
returns-else-has_bit g c =
    c.blank.ensures
    ∙ sym (ap kept_node (child-missing c.args.nodes.now.slots c.args.node c.args.child (has_bit-is c.args.node.child_bitmap c.args.child c.requires.small ∙ sym c.has_bit.ensures ∙ c.if-has_bit.false)))
