-- An entry of `NOT_BELOW` has the positions of the places that its string does not begin, by a check of the table.
use Rattle.prefix_trie_bits.proofs.Tables.{not-below-entry}
use Rattle.prefix_trie_bits.proofs.node.order.not_below.Goals as goal

pub returns : goal.returns
returns c = not-below-entry c.args.bit
