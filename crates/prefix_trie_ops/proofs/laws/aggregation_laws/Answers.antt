-- The laws of aggregation follow from those of longest matches.
use Rattle.prefix_trie_ops.proofs.Above.{aggregation_laws}
use Rattle.prefix_trie_ops.proofs.laws.aggregation_laws.Goals as goal

pub returns : goal.returns
returns g c = aggregation_laws c.lookup_laws.ensures
