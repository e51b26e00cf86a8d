-- Shifting a node in is shifting its two parts in, at the same place of both arrays.
use Rattle.prefix_trie_table.proofs.Prelude.{◌≡◌, ◌<◌, length, length-remove, insert, remove, ap, ◌∙◌, arith}
use Rattle.prefix_trie_table.specs.Blocks.NodeArrays.{NodeList, node_of, nodes_of}
use Rattle.prefix_trie_table.proofs.Blocks.NodeLists.{length-nodes, nodes-insert, nodes-remove, packed}
use Rattle.prefix_trie_table.proofs.allocator.node_array.NodeArraySlotArrayNode.insert_shifting.Goals as goal

pub shift_in-requires-clause-within : goal.shift_in-requires-clause-within
shift_in-requires-clause-within g c =
    let v = c.self.inside in
    let within : c.args.to < length (nodes_of v.heads.items v.tiers.items) = rw (← c.self.view_is) at c.requires.within in
    omega (arith, within, length-nodes v.heads.items v.tiers.items c.self.invariant)

pub returns-clause-list : goal.returns-clause-list
returns-clause-list g c =
    let v = c.self.inside in
    let within : c.args.to < length (nodes_of v.heads.items v.tiers.items) = rw (← c.self.view_is) at c.requires.within in
    let long = length-nodes v.heads.items v.tiers.items c.self.invariant in
    let head = length-remove v.heads.items c.args.to (omega (arith, within, long)) in
    let tiers = length-remove v.tiers.items c.args.to (omega (arith, within, long, c.self.invariant)) in
    let new : node_of c.head_of.result c.tiers_of.result ≡ c.args.value = (λ i. node_of (c.head_of.ensures i) (c.tiers_of.ensures i)) ∙ packed c.args.value c.requires.value in
    (λ i. nodes_of (c.shift_in.ensures.items i) (c.shift_in-2.ensures.items i))
    ∙ nodes-insert (remove v.heads.items c.args.to) (remove v.tiers.items c.args.to) c.args.from c.head_of.result c.tiers_of.result (omega (arith, head, tiers, c.self.invariant))
    ∙ (λ i. insert (nodes-remove v.heads.items v.tiers.items c.args.to c.self.invariant i) c.args.from (new i))
    ∙ ap (λ (a : NodeList). insert (remove a.list c.args.to) c.args.from c.args.value) c.self.view_is
