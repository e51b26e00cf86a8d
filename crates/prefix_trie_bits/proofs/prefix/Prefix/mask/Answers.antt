-- The mask is the path, and then zeros.
use Rattle.prefix_trie_bits.proofs.Prelude.{rules}
use Rattle.prefix_trie_bits.proofs.prefix.Prefix.mask.Goals as goal

pub returns-clause-value : goal.returns-clause-value
returns-clause-value g c = search rules
