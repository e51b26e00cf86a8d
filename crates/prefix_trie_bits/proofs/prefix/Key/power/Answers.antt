-- A key with a single 1, which has k bits after it, is the number 2^k.
use Rattle.prefix_trie_bits.proofs.Prelude.{number-power}
use Rattle.prefix_trie_bits.proofs.prefix.Key.power.Goals as goal

pub returns-clause-value : goal.returns-clause-value
returns-clause-value g c =
    number-power g.Self.Key.bit_width c.args.k (g.Self.Key.bits c.zero.result) (g.Self.Key.bits c.extend.result) c.requires c.zero.ensures.value (rw c.width.ensures at c.extend.ensures.value)
