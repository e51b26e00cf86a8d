-- A clone has the keys and nodes of its source, so by `copy_laws` it is tidy too.
use Rattle.prefix_trie_tests.proofs.AnyMap.{tidy_copied}
use Rattle.prefix_trie_tests.proofs.any_map.tidy_copy.Goals as goal

pub returns : goal.returns
returns g c = tidy_copied g.T.Clone.is_clone c.args.map.now c.copy_laws.ensures c.requires c.clone.result c.clone.ensures.entries c.clone.ensures.nodes
