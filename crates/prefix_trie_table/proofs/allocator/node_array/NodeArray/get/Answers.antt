-- Joining the two parts that are read at a slot gives the node in the list of whole nodes.
use Rattle.prefix_trie_table.proofs.Prelude.{◌<◌, length, get_or, ap, ◌∙◌, arith, blank_node}
use Rattle.prefix_trie_table.specs.Blocks.NodeArrays.{NodeList, node_of, nodes_of}
use Rattle.prefix_trie_table.proofs.Blocks.NodeLists.{length-nodes, get_or-nodes}
use Rattle.prefix_trie_table.proofs.allocator.node_array.NodeArray.get.Goals as goal

pub index-head-requires : goal.index-head-requires
index-head-requires g c =
    let v = c.self.inside in
    let within : c.args.at < length (nodes_of v.heads.items v.tiers.items) = rw (← c.self.view_is) at c.requires in
    omega (arith, within, length-nodes v.heads.items v.tiers.items c.self.invariant, v.heads.ok.0)

pub index-tiers-requires : goal.index-tiers-requires
index-tiers-requires g c =
    let v = c.self.inside in
    let within : c.args.at < length (nodes_of v.heads.items v.tiers.items) = rw (← c.self.view_is) at c.requires in
    omega (arith, within, length-nodes v.heads.items v.tiers.items c.self.invariant, c.self.invariant, v.tiers.ok.0)

pub returns-clause-node : goal.returns-clause-node
returns-clause-node g c =
    let v = c.self.inside in
    let within : c.args.at < length (nodes_of v.heads.items v.tiers.items) = rw (← c.self.view_is) at c.requires in
    c.joined.ensures.node ∙ (λ i. node_of (c.index-head.ensures i) (c.index-tiers.ensures i)) ∙ get_or-nodes v.heads.items v.tiers.items c.args.at c.index-head.result.now c.index-tiers.result.now blank_node c.self.invariant (omega (arith, within, length-nodes v.heads.items v.tiers.items c.self.invariant)) ∙ ap (λ (a : NodeList). get_or a.list c.args.at blank_node) c.self.view_is
