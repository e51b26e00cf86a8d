-- Truncating both parts of a node array to the same length truncates the list of whole nodes.
use Rattle.prefix_trie_table.proofs.Prelude.{take, ap, ◌∙◌}
use Rattle.prefix_trie_table.specs.Blocks.NodeArrays.{NodeList, nodes_of}
use Rattle.prefix_trie_table.proofs.Blocks.NodeLists.{nodes-take}
use Rattle.prefix_trie_table.proofs.allocator.node_array.NodeArraySlotArrayNode.cut.Goals as goal

pub returns-clause-list : goal.returns-clause-list
returns-clause-list g c =
    let v = c.self.inside in
    (λ i. nodes_of (c.truncate.ensures.items i) (c.truncate-2.ensures.items i)) ∙ nodes-take c.args.count v.heads.items v.tiers.items c.self.invariant ∙ ap (λ (a : NodeList). take c.args.count a.list) c.self.view_is
