-- An entry of `POSITION` is the position of the place with its heap number in listing order, by a check of the table.
use Rattle.prefix_trie_bits.proofs.Listing.{position-entry}
use Rattle.prefix_trie_bits.proofs.node.order.position_of.Goals as goal

pub returns-clause-position : goal.returns-clause-position
returns-clause-position c = (position-entry c.args.heap c.requires.some c.requires.place).0

pub returns-clause-small : goal.returns-clause-small
returns-clause-small c = (position-entry c.args.heap c.requires.some c.requires.place).1
