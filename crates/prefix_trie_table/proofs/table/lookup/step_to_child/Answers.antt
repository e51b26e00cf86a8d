-- The child on a search path is in a slot of the array, and reading it is one read.
use Rattle.prefix_trie_table.proofs.Prelude.{◌+◌, chunks_of}
use Rattle.prefix_trie_table.proofs.Lookup.Descents.{deepest_in}
use Rattle.prefix_trie_table.proofs.table.lookup.step_to_child.Goals as goal

pub child_on_path-requires : goal.child_on_path-requires
child_on_path-requires g c = c.requires.along.4

pub visit-node-requires : goal.visit-node-requires
visit-node-requires g c =
    let s = c.requires.sound in
    let at = c.requires.along in
    deepest_in s.reading s.paths c.args.nodes.now (chunks_of at.0) (c.args.from.level + 1) _ s.hold ((c.in-Some.ensures at.0 c.args.nodes.now at.1 at.2).deepest s.reading s.paths s.hold)
