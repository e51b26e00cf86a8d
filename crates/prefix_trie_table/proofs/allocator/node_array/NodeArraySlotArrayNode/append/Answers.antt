-- Appending a node is appending its two parts, for which both vectors have capacity.
use Rattle.prefix_trie_table.proofs.Prelude.{◌≡◌, ◌+◌, ◌++◌, [], ◌∷◌, length, ◌∙◌, arith, vec_capacity}
use Rattle.prefix_trie_table.specs.Blocks.NodeArrays.{node_of, nodes_of}
use Rattle.prefix_trie_table.specs.Blocks.Growth.{EachHolds}
use Rattle.prefix_trie_table.proofs.Blocks.Capacity.{EachHolds-first, EachHolds-second}
use Rattle.prefix_trie_table.proofs.Blocks.NodeLists.{length-nodes, nodes-append, packed}
use Rattle.prefix_trie_table.proofs.allocator.node_array.NodeArraySlotArrayNode.append.Goals as goal

pub push_reserved-requires : goal.push_reserved-requires
push_reserved-requires g c =
    let v = c.self.inside in
    let both : EachHolds (length (nodes_of v.heads.items v.tiers.items) + 1) (vec_capacity v.heads ∷ vec_capacity v.tiers ∷ []) = rw (← c.self.view_is) at c.requires.memory in
    let memory = EachHolds-first _ _ _ both in
    omega (arith, memory, length-nodes v.heads.items v.tiers.items c.self.invariant, v.heads.ok.0)

pub push_reserved-requires-2 : goal.push_reserved-requires-2
push_reserved-requires-2 g c =
    let v = c.self.inside in
    let both : EachHolds (length (nodes_of v.heads.items v.tiers.items) + 1) (vec_capacity v.heads ∷ vec_capacity v.tiers ∷ []) = rw (← c.self.view_is) at c.requires.memory in
    let memory = EachHolds-second _ _ _ both in
    omega (arith, memory, c.self.invariant, length-nodes v.heads.items v.tiers.items c.self.invariant, v.tiers.ok.0)

pub returns-clause-list : goal.returns-clause-list
returns-clause-list g c =
    let v = c.self.inside in
    let new : node_of c.head_of.result c.tiers_of.result ≡ c.args.value = (λ i. node_of (c.head_of.ensures i) (c.tiers_of.ensures i)) ∙ packed c.args.value c.requires.value in
    (λ i. nodes_of (c.push_reserved.ensures.items i) (c.push_reserved-2.ensures.items i)) ∙ nodes-append v.heads.items v.tiers.items c.head_of.result c.tiers_of.result c.self.invariant ∙ (λ i. (c.self.view_is i).list ++ new i ∷ [])
