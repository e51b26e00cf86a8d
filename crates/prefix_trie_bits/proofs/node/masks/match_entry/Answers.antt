-- An entry of `MATCHES` has the value bits of the strings that begin its own, by a check of the table.
use Rattle.prefix_trie_bits.proofs.Tables.{match-entry}
use Rattle.prefix_trie_bits.proofs.node.masks.match_entry.Goals as goal

pub returns : goal.returns
returns c = match-entry c.args.level c.args.pos c.requires.level c.requires.pos
