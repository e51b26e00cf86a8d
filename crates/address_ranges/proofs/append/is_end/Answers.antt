-- The number of a key is below 2^width.
use Rattle.std.proofs.Common.{◌^◌, ◌<◌, subst, sym}
use Rattle.std.specs.Option.{IfSome}
use Rattle.prefix_trie_bits.specs.BitStrings.{number-below}
use Rattle.prefix_trie_bits.specs.Model.Bits.{number}
use Rattle.address_ranges.proofs.append.is_end.Goals as goal

pub returns-in-Some : goal.returns-in-Some
returns-in-Some g c =
    let w = g.K.Key.bit_width in
    let bits = g.K.Key.bits in
    subst (λ o. IfSome o (λ k. number (bits k) < 2 ^ w)) (sym c.in-Some.is) (number-below w (bits c.in-Some.past) (g.met.K.Key.key_laws.bits_length c.in-Some.past c.is_key.ensures.key))
