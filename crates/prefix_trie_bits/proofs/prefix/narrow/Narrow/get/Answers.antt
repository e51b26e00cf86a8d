-- The number is the key's own.
use Rattle.prefix_trie_bits.proofs.Prelude.{rules}
use Rattle.prefix_trie_bits.proofs.prefix.narrow.Narrow.get.Goals as goal

pub returns-clause-value : goal.returns-clause-value
returns-clause-value g c = search rules
