-- Inserting the default value is `insert_with` with the closure that makes it.
use Rattle.prefix_trie_map.proofs.Prelude.{rules, refl}
use Rattle.prefix_trie_map.proofs.map.entry.VacantEntry.default.Goals as goal

pub returns : goal.returns
returns g c = ((refl, c.insert_with.follows.holds, c.insert_with.follows.holds-at-none), record { writes_back = tt; value = search rules })
