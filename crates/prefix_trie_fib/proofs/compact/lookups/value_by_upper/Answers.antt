-- The value of an address is that of its upper 64 bits, which are a number of 64 bits.
use Rattle.std.proofs.Common.{◌≡◌, ◌∙◌, None, ap, length, sym, take}
use Rattle.prefix_trie_bits.specs.BitStrings.{number_of_digits}
use Rattle.prefix_trie_bits.specs.Model.Bits.{number}
use Rattle.prefix_trie_fib.specs.Line.{value_along}
use Rattle.prefix_trie_fib.proofs.Chunks.{in_chunk}
use Rattle.prefix_trie_fib.proofs.Layouts.{widened_along}
use Rattle.prefix_trie_fib.proofs.compact.lookups.value_by_upper.Goals as goal

pub returns : goal.returns
returns g c =
    let w = g.K.Key.bit_width in
    let b = g.K.Key.bits c.args.address in
    let long : length b ≡ w = g.met.K.Key.key_laws.bits_length c.args.address c.is_key.ensures.key in
    let bounds = in_chunk w b 64 long in
    c.lookup.ensures ∙ ap (value_along None c.args.indexed.now) (number_of_digits 64 c.upper_half-half.result c.upper_half-half.type_inv ∙ c.upper_half-half.ensures)
    ∙ sym (widened_along w None c.args.indexed.now (number (take 64 b)) (number b) bounds.0 bounds.1)
