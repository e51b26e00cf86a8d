-- The root is in slot 0 and on every search path.
use Rattle.prefix_trie_table.proofs.Prelude.{[], arith, chunks_of}
use Rattle.prefix_trie_table.proofs.Lookup.Descents.{deepest_root, deepest_in}
use Rattle.prefix_trie_table.proofs.table.lookup.root.Goals as goal

pub visit-node-requires : goal.visit-node-requires
visit-node-requires g c =
    let s = c.requires.sound in
    deepest_in s.reading s.paths c.args.nodes.now [] 0 0 s.hold (deepest_root s.reading s.paths c.args.nodes.now [] s.hold)

pub returns-clause-along : goal.returns-clause-along
returns-clause-along g c = λ q. record {
  whole = omega arith;
  node_is = c.visit-node.ensures.node;
  deepest = λ reading paths hold. deepest_root reading paths c.args.nodes.now (chunks_of q) hold;
}
