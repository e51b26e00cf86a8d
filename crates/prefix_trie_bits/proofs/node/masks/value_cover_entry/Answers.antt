-- An entry of `VALUES_COVERED` has the value bits of the strings that its own begins, by a check of the table.
use Rattle.prefix_trie_bits.proofs.Tables.{value-cover-entry}
use Rattle.prefix_trie_bits.proofs.node.masks.value_cover_entry.Goals as goal

pub returns : goal.returns
returns c = value-cover-entry c.args.level c.args.pos c.requires.level c.requires.pos
