-- The laws of stored entries hold for any values, since they are about the model's entries.
use Rattle.prefix_trie.proofs.Stored.{stored_laws}
use Rattle.prefix_trie.proofs.laws.stored_laws.Goals as goal

pub returns : goal.returns
returns g c = stored_laws _
