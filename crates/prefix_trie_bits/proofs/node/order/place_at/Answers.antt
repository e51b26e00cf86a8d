-- An entry of `LISTING` is the place at its position in the list of all strings, by a check of the table.
use Rattle.prefix_trie_bits.proofs.Listing.{listing-entry}
use Rattle.prefix_trie_bits.proofs.node.order.place_at.Goals as goal

pub returns : goal.returns
returns c = listing-entry c.args.position _ c.requires
