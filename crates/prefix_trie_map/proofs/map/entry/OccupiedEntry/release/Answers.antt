-- The map after `release` is the map that the entry borrowed, with what was written to it.
use Rattle.prefix_trie_map.proofs.Prelude.{refl}
use Rattle.prefix_trie_map.proofs.map.entry.OccupiedEntry.release.Goals as goal

pub returns : goal.returns
returns g c = refl
