-- Shrinking both vectors of a node array leaves neither more capacity than it needs, since both are equally long.
use Rattle.prefix_trie_table.proofs.Prelude.{◌≡◌, ◌≤◌, length, sym, ap, ◌∙◌, arith, vec_len, vec_capacity, on_ok_weaker}
use Rattle.std.specs.Prelude.{max}
use Rattle.prefix_trie_table.specs.Blocks.NodeArrays.{nodes_of}
use Rattle.prefix_trie_table.proofs.Blocks.Capacity.{NoneExceeds-both}
use Rattle.prefix_trie_table.proofs.Blocks.NodeLists.{length-nodes}
use Rattle.prefix_trie_table.proofs.allocator.node_array.NodeArraySlotArrayNode.shrink.Goals as goal

pub returns-clause-ok : goal.returns-clause-ok
returns-clause-ok g c =
    let heads = c.shrink.new.items in
    let tiers = c.shrink-2.new.items in
    let same : length heads.items ≡ length tiers.items = ap length c.shrink.ensures.items ∙ c.self.invariant ∙ sym (ap length c.shrink-2.ensures.items) in
    let long = length-nodes heads.items tiers.items same in
    let first = c.in_ok-shrink.ensures.ok in
    on_ok_weaker c.shrink-2.result (λ (h : vec_capacity tiers ≤ max 0 (vec_len tiers)).
    NoneExceeds-both (length (nodes_of heads.items tiers.items)) (vec_capacity heads) (vec_capacity tiers)
    (omega (arith, first, long, heads.ok.0)) (omega (arith, h, long, same, tiers.ok.0))) c.shrink-2.ensures.ok
