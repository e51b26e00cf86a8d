-- What is left after the division by the power fits.
use Rattle.prefix_trie_bits.proofs.Prelude.{rules}
use Rattle.prefix_trie_bits.proofs.digits.behind_of.Goals as goal

pub returns-clause-key : goal.returns-clause-key
returns-clause-key c = search rules
