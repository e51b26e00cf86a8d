-- The laws of union, intersection and difference follow from the laws of lookups.
use Rattle.prefix_trie_ops.proofs.Combining.{combining_laws}
use Rattle.prefix_trie_ops.proofs.laws.combining_laws.Goals as goal

pub returns : goal.returns
returns g c = combining_laws
