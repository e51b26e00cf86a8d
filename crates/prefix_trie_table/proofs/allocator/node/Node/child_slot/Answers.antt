-- The offset of a child in its block is the rank of its bit, which counts the children before it.
use Rattle.prefix_trie_table.proofs.Prelude.{◌+◌, ap}
use Rattle.prefix_trie_table.proofs.allocator.node.Node.child_slot.Goals as goal

pub returns : goal.returns
returns c =
    let n = c.args.self in
    ap (λ i. n.child_block + i) c.rank.ensures
