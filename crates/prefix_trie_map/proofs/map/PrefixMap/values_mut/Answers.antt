-- A walk over the values starts with the same entries as `iter_mut`, whose source it has.
use Rattle.prefix_trie_map.proofs.Prelude.{rules}
use Rattle.prefix_trie_map.proofs.map.PrefixMap.values_mut.Goals as goal

pub returns-clause-starts : goal.returns-clause-starts
returns-clause-starts g c = search rules
