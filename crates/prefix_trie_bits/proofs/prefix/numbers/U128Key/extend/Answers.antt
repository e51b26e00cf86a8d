-- The bits of the sum are the kept ones, the tail and zeros.
use Rattle.prefix_trie_bits.proofs.Prelude.{rules}
use Rattle.prefix_trie_bits.proofs.prefix.numbers.U128Key.extend.Goals as goal

pub returns-clause-value : goal.returns-clause-value
returns-clause-value c = search rules
