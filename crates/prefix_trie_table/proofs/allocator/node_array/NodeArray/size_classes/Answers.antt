-- The size classes of a node are those that are packed into its byte.
use Rattle.prefix_trie_table.proofs.Prelude.{◌<◌, length, get_or, ap, ◌∙◌, arith, blank_node}
use Rattle.prefix_trie_table.specs.Blocks.Cells.{size_classes}
use Rattle.prefix_trie_table.specs.Blocks.NodeArrays.{NodeList, node_of, nodes_of}
use Rattle.prefix_trie_table.proofs.Blocks.NodeLists.{length-nodes, get_or-nodes, blank_head}
use Rattle.prefix_trie_table.proofs.allocator.node_array.NodeArray.size_classes.Goals as goal

pub index-packed-requires : goal.index-packed-requires
index-packed-requires g c =
    let v = c.self.inside in
    let within : c.args.at < length (nodes_of v.heads.items v.tiers.items) = rw (← c.self.view_is) at c.requires in
    omega (arith, within, length-nodes v.heads.items v.tiers.items c.self.invariant, c.self.invariant, v.tiers.ok.0)

pub returns : goal.returns
returns g c =
    let v = c.self.inside in
    let within : c.args.at < length (nodes_of v.heads.items v.tiers.items) = rw (← c.self.view_is) at c.requires in
    (λ i. size_classes (node_of blank_head (c.index-packed.ensures i)))
    ∙ ap size_classes (get_or-nodes v.heads.items v.tiers.items c.args.at blank_head c.index-packed.result.now blank_node c.self.invariant (omega (arith, within, length-nodes v.heads.items v.tiers.items c.self.invariant)))
    ∙ ap (λ (a : NodeList). size_classes (get_or a.list c.args.at blank_node)) c.self.view_is
