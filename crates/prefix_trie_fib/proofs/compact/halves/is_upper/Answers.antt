-- An address that equals its first 64 bits and zeros after them.
use Rattle.std.proofs.Common.{◌∙◌, ◌-◌, ap, sym, take}
use Rattle.prefix_trie_bits.specs.Model.Bits.{number}
use Rattle.prefix_trie_fib.proofs.Halves.{filled_number}
use Rattle.prefix_trie_fib.proofs.compact.halves.is_upper.Goals as goal

pub returns : goal.returns
returns g c = λ same.
    ap number (sym (ap g.K.Key.bits (g.met.K.Key.same_if_equal c.keep.result c.args.address (sym c.eq.ensures ∙ same))) ∙ c.keep.ensures.value)
    ∙ filled_number (take 64 (g.K.Key.bits c.args.address)) (g.K.Key.bit_width - 64)
