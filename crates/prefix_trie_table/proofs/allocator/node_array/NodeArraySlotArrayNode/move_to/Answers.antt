-- Moving a node to another slot is moving its two parts, in the list of whole nodes.
use Rattle.prefix_trie_table.proofs.Prelude.{◌≡◌, ◌<◌, length, get_or, set, sym, ap, ◌∙◌, arith, blank_node, Node, length-set}
use Rattle.prefix_trie_table.specs.Blocks.NodeArrays.{NodeList, node_of, nodes_of}
use Rattle.prefix_trie_table.proofs.Blocks.NodeLists.{length-nodes, nodes-set, get_or-nodes}
use Rattle.prefix_trie_table.proofs.allocator.node_array.NodeArraySlotArrayNode.move_to.Goals as goal

pub index-requires : goal.index-requires
index-requires g c =
    let v = c.self.inside in
    let within : c.args.from < length (nodes_of v.heads.items v.tiers.items) = rw (← c.self.view_is) at c.requires.from in
    omega (arith, within, length-nodes v.heads.items v.tiers.items c.self.invariant, v.heads.ok.0)

pub index_mut-requires : goal.index_mut-requires
index_mut-requires g c =
    let v = c.self.inside in
    let within : c.args.to < length (nodes_of v.heads.items v.tiers.items) = rw (← c.self.view_is) at c.requires.to in
    omega (arith, within, length-nodes v.heads.items v.tiers.items c.self.invariant, v.heads.ok.0)

pub index_mut-requires-2 : goal.index_mut-requires-2
index_mut-requires-2 g c =
    let v = c.self.inside in
    let within : c.args.from < length (nodes_of v.heads.items v.tiers.items) = rw (← c.self.view_is) at c.requires.from in
    omega (arith, within, length-nodes v.heads.items v.tiers.items c.self.invariant, v.heads.ok.0)

pub index-requires-2 : goal.index-requires-2
index-requires-2 g c =
    let v = c.self.inside in
    let within : c.args.from < length (nodes_of v.heads.items v.tiers.items) = rw (← c.self.view_is) at c.requires.from in
    omega (arith, within, length-nodes v.heads.items v.tiers.items c.self.invariant, c.self.invariant, v.tiers.ok.0)

pub index_mut-requires-3 : goal.index_mut-requires-3
index_mut-requires-3 g c =
    let v = c.self.inside in
    let within : c.args.to < length (nodes_of v.heads.items v.tiers.items) = rw (← c.self.view_is) at c.requires.to in
    omega (arith, within, length-nodes v.heads.items v.tiers.items c.self.invariant, c.self.invariant, v.tiers.ok.0)

pub index_mut-requires-4 : goal.index_mut-requires-4
index_mut-requires-4 g c =
    let v = c.self.inside in
    let within : c.args.from < length (nodes_of v.heads.items v.tiers.items) = rw (← c.self.view_is) at c.requires.from in
    omega (arith, within, length-nodes v.heads.items v.tiers.items c.self.invariant, c.self.invariant, v.tiers.ok.0)

pub returns-clause-list : goal.returns-clause-list
returns-clause-list g c =
    let v = c.self.inside in
    let hs = v.heads.items in
    let ns = v.tiers.items in
    let from = c.args.from in
    let to = c.args.to in
    let h = c.index.result.now in
    let n = c.index-2.result.now in
    let within : from < length (nodes_of hs ns) = rw (← c.self.view_is) at c.requires.from in
    let long : length (set hs to h) ≡ length (set ns to n) = length-set hs to h ∙ c.self.invariant ∙ sym (length-set ns to n) in
    let blank : node_of c.head_of.result 0 ≡ blank_node = (λ i. node_of (c.head_of.ensures i) 0)
    ∙ ap (λ (m : Node). node_of (record { value_bitmap = m.value_bitmap; child_bitmap = m.child_bitmap; value_block = m.value_block; child_block = m.child_block }) 0) c.blank.ensures in
    let moved : node_of h n ≡ get_or (nodes_of hs ns) from blank_node = (λ i. node_of (c.index.ensures i) (c.index-2.ensures i))
    ∙ get_or-nodes hs ns from h n blank_node c.self.invariant (omega (arith, within, length-nodes hs ns c.self.invariant)) in
    nodes-set (set hs to h) (set ns to n) from c.head_of.result 0 long
    ∙ (λ i. set (nodes-set hs ns to h n c.self.invariant i) from (blank i))
    ∙ ap (λ x. set (set (nodes_of hs ns) to x) from blank_node) moved
    ∙ ap (λ (a : NodeList). set (set a.list to (get_or a.list from blank_node)) from blank_node) c.self.view_is
