-- Each node's indices of sizes were read from bytes, so they fit into a byte.
use Rattle.prefix_trie_table.proofs.Prelude.{ℕ, ◌<◌, length, get_or, subst, arith, blank_node}
use Rattle.prefix_trie_table.specs.Blocks.NodeArrays.{FitsByte, NodeList}
use Rattle.prefix_trie_table.specs.declared.allocator.node_array.Head.{Head}
use Rattle.prefix_trie_table.proofs.Blocks.NodeLists.{length-nodes, nodes_fit}
use Rattle.prefix_trie_table.proofs.allocator.node_array.NodeArray.sizes_fit.Goals as goal

pub returns : goal.returns
returns g c =
    let v = c.self.inside in
    let none : Head = record { value_bitmap = 0; child_bitmap = 0; value_block = 0; child_block = 0 } in
    let small = subst (λ ns. (k : ℕ) → get_or ns k 0 < 256) c.deref.ensures.value c.are_bytes.ensures in
    subst (λ (a : NodeList). (at : ℕ) → at < length a.list → FitsByte (get_or a.list at blank_node)) c.self.view_is
    (λ at within. nodes_fit v.heads.items v.tiers.items at none blank_node c.self.invariant small (omega (arith, within, length-nodes v.heads.items v.tiers.items c.self.invariant)))
