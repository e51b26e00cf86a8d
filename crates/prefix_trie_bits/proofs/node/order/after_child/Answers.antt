-- An entry of `AFTER_CHILD` has the places after a child bit in listing order, by a check of the table.
use Rattle.prefix_trie_bits.proofs.Tables.{after-child-entry}
use Rattle.prefix_trie_bits.proofs.node.order.after_child.Goals as goal

pub returns : goal.returns
returns c = after-child-entry c.args.bit
