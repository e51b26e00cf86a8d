-- Adding the host ones to the lowest IPv4 address of a network does not overflow and gives the highest one.
use Rattle.std.proofs.Common.{arith}
use Rattle.prefix_trie_bits.proofs.Networks.Ends.{last_is}
use Rattle.prefix_trie_bits.proofs.prefix.networks.addresses.last_u32.Goals as goal

pub overflow_add-result : goal.overflow_add-result
overflow_add-result c =
    let (within, is) = last_is 32 c.args.addr c.args.len c.keep.result c.host_u32.result (omega arith) (omega arith) c.keep.ensures.key (rw c.from.ensures at c.keep.ensures.value) c.host_u32.ensures in
    omega (arith, within)

pub returns : goal.returns
returns c = (last_is 32 c.args.addr c.args.len c.keep.result c.host_u32.result (omega arith) (omega arith) c.keep.ensures.key (rw c.from.ensures at c.keep.ensures.value) c.host_u32.ensures).1
