-- The laws of the needed nodes are proved for the model, with any type of values.
use Rattle.prefix_trie_bits.proofs.Model.NodeSets.{node_laws}
use Rattle.prefix_trie_bits.proofs.laws.node_laws.Goals as goal

pub returns : goal.returns
returns g c = node_laws _
