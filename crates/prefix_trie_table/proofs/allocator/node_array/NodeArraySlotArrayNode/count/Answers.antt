-- The list of whole nodes is as long as the list of their first parts.
use Rattle.prefix_trie_table.proofs.Prelude.{length, sym, ap, ◌∙◌}
use Rattle.prefix_trie_table.specs.Blocks.NodeArrays.{NodeList}
use Rattle.prefix_trie_table.proofs.Blocks.NodeLists.{length-nodes}
use Rattle.prefix_trie_table.proofs.allocator.node_array.NodeArraySlotArrayNode.count.Goals as goal

pub returns : goal.returns
returns g c =
    let v = c.self.inside in
    c.len.ensures ∙ v.heads.ok.0 ∙ sym (length-nodes v.heads.items v.tiers.items c.self.invariant) ∙ ap (λ (a : NodeList). length a.list) c.self.view_is
