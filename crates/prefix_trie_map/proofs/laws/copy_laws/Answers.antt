-- The laws of copies hold for any clone of values: a copy has the keys of its source, and so the same needed nodes.
use Rattle.prefix_trie_map.proofs.Clones.{copy_laws}
use Rattle.prefix_trie_map.proofs.laws.copy_laws.Goals as goal

pub returns : goal.returns
returns g c = copy_laws _
