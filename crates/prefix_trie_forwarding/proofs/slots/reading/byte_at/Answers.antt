-- The byte is the first one of what is after the bits before it.
use Rattle.std.proofs.Common.{◌≡◌, ◌∙◌, length, arith}
use Rattle.prefix_trie_forwarding.proofs.Reading.{byte_bits, rest_byte}
use Rattle.prefix_trie_forwarding.proofs.slots.reading.byte_at.Goals as goal

pub returns-clause-byte : goal.returns-clause-byte
returns-clause-byte g c =
    c.first_byte.ensures.byte ∙ rest_byte (g.K.Key.bits c.args.address) (g.K.Key.bits c.behind.result) c.args.depth c.behind.ensures.value

pub returns-clause-part : goal.returns-clause-part
returns-clause-part g c = λ w k fits size.
    let b = g.K.Key.bits c.args.address in
    let long : length b ≡ g.K.Key.bit_width = g.met.K.Key.key_laws.bits_length c.args.address c.is_key.ensures.key in
    returns-clause-byte g c ∙ byte_bits b w (omega (arith, long, fits)) c.args.depth k (omega (arith, long, c.requires)) size
