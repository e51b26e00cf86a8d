-- The first three bytes, of which the last bits are shifted out.
use Rattle.std.proofs.Common.{◌≡◌, ◌∙◌, ◌+◌, ◌*◌, length, refl, arith}
use Rattle.prefix_trie_bits.specs.Model.Bits.{number}
use Rattle.prefix_trie_forwarding.proofs.Reading.{first_bits, first_of_24}
use Rattle.prefix_trie_forwarding.proofs.slots.reading.root_index.Goals as goal

pub with_byte-first-requires-clause-upper : goal.with_byte-first-requires-clause-upper
unfolding number
with_byte-first-requires-clause-upper g c = refl

pub returns : goal.returns
returns g c = λ levels fits.
    let b = g.K.Key.bits c.args.address in
    let long : length b ≡ g.K.Key.bit_width = g.met.K.Key.key_laws.bits_length c.args.address c.is_key.ensures.key in
    first_of_24 b c.args.root_bits c.with_byte-third.result c.requires.few (omega (arith, long, c.requires.within)) c.with_byte-third.ensures ∙
    first_bits b (c.args.root_bits + 8 * levels) (omega (arith, long, fits)) c.args.root_bits levels (omega (arith, long, c.requires.within)) refl
