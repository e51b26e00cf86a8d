-- The network of one address has one address.
use Rattle.std.proofs.Common.{◌^◌, ◌<◌}
use Rattle.prefix_trie_bits.specs.BitStrings.{number-below}
use Rattle.prefix_trie_bits.specs.Model.Bits.{number}
use Rattle.address_ranges.proofs.Fewest.{end_after}
use Rattle.address_ranges.proofs.builder.ends.after.Goals as goal

pub returns : goal.returns
returns g c =
    let w = g.K.Key.bit_width in
    let top : number (g.K.Key.bits c.args.last) < 2 ^ w = number-below w (g.K.Key.bits c.args.last) (g.met.K.Key.key_laws.bits_length c.args.last c.is_key.ensures.key) in
    end_after w (number (g.K.Key.bits c.args.last)) c.width.result _ top c.width.ensures c.past_of.ensures.end
