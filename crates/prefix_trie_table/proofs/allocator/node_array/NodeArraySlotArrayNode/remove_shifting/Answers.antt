-- Removing a node is removing its two parts, in the list of whole nodes.
use Rattle.prefix_trie_table.proofs.Prelude.{◌≡◌, ◌<◌, length, length-remove, get_or, blank_node, Node, insert, remove, ap, ◌∙◌, arith}
use Rattle.prefix_trie_table.specs.Blocks.NodeArrays.{NodeList, node_of, nodes_of}
use Rattle.prefix_trie_table.proofs.Blocks.NodeLists.{length-nodes, nodes-insert, nodes-remove, get_or-nodes}
use Rattle.prefix_trie_table.proofs.allocator.node_array.NodeArraySlotArrayNode.remove_shifting.Goals as goal

pub shift_out-head-requires-clause-within : goal.shift_out-head-requires-clause-within
shift_out-head-requires-clause-within g c =
    let v = c.self.inside in
    let within : c.args.to < length (nodes_of v.heads.items v.tiers.items) = rw (← c.self.view_is) at c.requires.within in
    omega (arith, within, length-nodes v.heads.items v.tiers.items c.self.invariant)

pub shift_out-tiers-requires-clause-within : goal.shift_out-tiers-requires-clause-within
shift_out-tiers-requires-clause-within g c =
    let v = c.self.inside in
    let within : c.args.to < length (nodes_of v.heads.items v.tiers.items) = rw (← c.self.view_is) at c.requires.within in
    omega (arith, within, length-nodes v.heads.items v.tiers.items c.self.invariant, c.self.invariant)

pub returns-clause-value : goal.returns-clause-value
returns-clause-value g c =
    let v = c.self.inside in
    let within : c.args.to < length (nodes_of v.heads.items v.tiers.items) = rw (← c.self.view_is) at c.requires.within in
    c.joined.ensures.node ∙ (λ i. node_of (c.shift_out-head.ensures.value i) (c.shift_out-tiers.ensures.value i))
    ∙ get_or-nodes v.heads.items v.tiers.items c.args.from c.shift_out-head.result c.shift_out-tiers.result c.joined.result c.self.invariant
    (omega (arith, within, c.requires.in_order, length-nodes v.heads.items v.tiers.items c.self.invariant))
    ∙ ap (λ (a : NodeList). get_or a.list c.args.from c.joined.result) c.self.view_is

pub returns-clause-list : goal.returns-clause-list
returns-clause-list g c =
    let v = c.self.inside in
    let within : c.args.to < length (nodes_of v.heads.items v.tiers.items) = rw (← c.self.view_is) at c.requires.within in
    let long = length-nodes v.heads.items v.tiers.items c.self.invariant in
    let head = length-remove v.heads.items c.args.from (omega (arith, within, c.requires.in_order, long)) in
    let tiers = length-remove v.tiers.items c.args.from (omega (arith, within, c.requires.in_order, long, c.self.invariant)) in
    let new : node_of c.head_of.result 0 ≡ blank_node = (λ i. node_of (c.head_of.ensures i) 0)
    ∙ ap (λ (n : Node). node_of (record { value_bitmap = n.value_bitmap; child_bitmap = n.child_bitmap; value_block = n.value_block; child_block = n.child_block }) 0) c.blank.ensures in
    (λ i. nodes_of (c.shift_out-head.ensures.items i) (c.shift_out-tiers.ensures.items i))
    ∙ nodes-insert (remove v.heads.items c.args.from) (remove v.tiers.items c.args.from) c.args.to c.head_of.result 0 (omega (arith, head, tiers, c.self.invariant))
    ∙ (λ i. insert (nodes-remove v.heads.items v.tiers.items c.args.from c.self.invariant i) c.args.to (new i))
    ∙ ap (λ (a : NodeList). insert (remove a.list c.args.from) c.args.to blank_node) c.self.view_is
