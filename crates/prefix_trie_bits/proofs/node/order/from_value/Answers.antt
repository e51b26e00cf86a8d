-- An entry of `FROM_VALUE` has a value bit and the places after it in listing order, by a check of the table.
use Rattle.prefix_trie_bits.proofs.Tables.{from-value-entry}
use Rattle.prefix_trie_bits.proofs.node.order.from_value.Goals as goal

pub returns : goal.returns
returns c = from-value-entry c.args.bit
