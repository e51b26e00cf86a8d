-- A node on a search path is in a slot of the array, so its sizes can be read again.
use Rattle.prefix_trie_table.proofs.Prelude.{chunks_of}
use Rattle.prefix_trie_table.proofs.Lookup.Descents.{deepest_in}
use Rattle.prefix_trie_table.proofs.table.lookup.search_end.Goals as goal

pub size_classes-sizes-requires : goal.size_classes-sizes-requires
size_classes-sizes-requires g c =
    let s = c.requires.sound in
    let at = c.requires.along in
    deepest_in s.reading s.paths c.args.nodes.now (chunks_of at.0) c.args.reached.level _ s.hold (at.1.deepest s.reading s.paths s.hold)
