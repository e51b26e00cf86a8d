-- An entry of `CHILDREN_COVERED` has the child bits of the strings that its own string begins, by a check of the table.
use Rattle.prefix_trie_bits.proofs.Tables.{child-cover-entry}
use Rattle.prefix_trie_bits.proofs.node.masks.child_cover_entry.Goals as goal

pub returns : goal.returns
returns c = child-cover-entry c.args.level c.args.pos c.requires.level c.requires.pos
