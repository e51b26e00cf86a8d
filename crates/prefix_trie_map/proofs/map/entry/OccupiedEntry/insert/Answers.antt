-- The value that `insert` replaces is the one stored, and the new one is in the map afterwards.
use Rattle.prefix_trie_map.proofs.Prelude.{rules}
use Rattle.prefix_trie_map.proofs.map.entry.OccupiedEntry.insert.Goals as goal

pub returns-clause-before : goal.returns-clause-before
returns-clause-before g c = search rules

pub returns-clause-after : goal.returns-clause-after
returns-clause-after g c = search rules
