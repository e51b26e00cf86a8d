-- The key of an occupied entry is the prefix without host bits, since its path is the prefix's.
use Rattle.prefix_trie_map.proofs.Prelude.{rules}
use Rattle.prefix_trie_map.proofs.map.PrefixMap.entry.Goals as goal

pub returns-in-Stored-clause-key : goal.returns-in-Stored-clause-key
returns-in-Stored-clause-key g c = search rules
