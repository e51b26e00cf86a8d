-- Overwriting a node is overwriting its two parts, in the list of whole nodes.
use Rattle.prefix_trie_table.proofs.Prelude.{◌≡◌, ◌<◌, length, get_or, set, ap, ◌∙◌, arith}
use Rattle.prefix_trie_table.specs.Blocks.NodeArrays.{NodeList, node_of, nodes_of}
use Rattle.prefix_trie_table.proofs.Blocks.NodeLists.{length-nodes, nodes-set, get_or-nodes, packed}
use Rattle.prefix_trie_table.proofs.allocator.node_array.NodeArraySlotArrayNode.put.Goals as goal

pub index_mut-requires : goal.index_mut-requires
index_mut-requires g c =
    let v = c.self.inside in
    let within : c.args.at < length (nodes_of v.heads.items v.tiers.items) = rw (← c.self.view_is) at c.requires.at in
    omega (arith, within, length-nodes v.heads.items v.tiers.items c.self.invariant, v.heads.ok.0)

pub index_mut-requires-2 : goal.index_mut-requires-2
index_mut-requires-2 g c =
    let v = c.self.inside in
    let within : c.args.at < length (nodes_of v.heads.items v.tiers.items) = rw (← c.self.view_is) at c.requires.at in
    omega (arith, within, length-nodes v.heads.items v.tiers.items c.self.invariant, c.self.invariant, v.tiers.ok.0)

pub returns-clause-list : goal.returns-clause-list
returns-clause-list g c =
    let v = c.self.inside in
    let new : node_of c.head_of.result c.tiers_of.result ≡ c.args.value = (λ i. node_of (c.head_of.ensures i) (c.tiers_of.ensures i)) ∙ packed c.args.value c.requires.value in
    (λ i. nodes_of (set v.heads.items c.args.at (c.replace-head.ensures.after i)) (set v.tiers.items c.args.at (c.replace-tiers.ensures.after i)))
    ∙ nodes-set v.heads.items v.tiers.items c.args.at c.head_of.result c.tiers_of.result c.self.invariant ∙ (λ i. set (c.self.view_is i).list c.args.at (new i))

pub returns-clause-value : goal.returns-clause-value
returns-clause-value g c =
    let v = c.self.inside in
    let within : c.args.at < length (nodes_of v.heads.items v.tiers.items) = rw (← c.self.view_is) at c.requires.at in
    let head = c.replace-head.ensures.value ∙ c.index_mut.ensures.value in
    let tiers = c.replace-tiers.ensures.value ∙ c.index_mut-2.ensures.value in
    c.joined.ensures.node ∙ (λ i. node_of (head i) (tiers i))
    ∙ get_or-nodes v.heads.items v.tiers.items c.args.at c.index_mut.result.now c.index_mut-2.result.now c.joined.result c.self.invariant (omega (arith, within, length-nodes v.heads.items v.tiers.items c.self.invariant))
    ∙ ap (λ (a : NodeList). get_or a.list c.args.at c.joined.result) c.self.view_is
