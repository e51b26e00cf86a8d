-- The laws of the longest match hold for any prefixes and values, since they are about the model's entries.
use Rattle.prefix_trie.proofs.Lookups.{lookup_laws}
use Rattle.prefix_trie.proofs.laws.lookup_laws.Goals as goal

pub returns : goal.returns
returns g c = lookup_laws _ _
