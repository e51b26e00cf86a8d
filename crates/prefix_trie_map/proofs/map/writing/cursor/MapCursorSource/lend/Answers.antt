-- Writing to a lent item changes the map's value at the item's path only.
use Rattle.prefix_trie_map.proofs.Prelude.{refl}
use Rattle.prefix_trie_map.proofs.Writing.{written_there}
use Rattle.prefix_trie_map.proofs.map.writing.cursor.MapCursorSource.lend.Goals as goal

pub returns : goal.returns
returns g c = ((refl, λ w. written_there c.args.self.now c.args.item w _), record { writes_back = tt; value = c.lend_at.ensures.value })
