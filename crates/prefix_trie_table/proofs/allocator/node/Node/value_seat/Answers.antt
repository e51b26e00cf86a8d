-- The offset of a value in its block is the rank of its bit, which counts the values before it.
use Rattle.prefix_trie_table.proofs.Prelude.{◌+◌}
use Rattle.prefix_trie_table.proofs.allocator.node.Node.value_seat.Goals as goal

pub returns : goal.returns
returns c =
    let n = c.args.self in
    λ i. record { slot = n.value_block + c.rank.ensures i }
