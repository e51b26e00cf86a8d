-- The address itself, if its other bits are 0, and otherwise the address after the network that has it.
use Rattle.prefix_trie_bits.specs.Model.Bits.{number}
use Rattle.address_ranges.proofs.Aligned.{aligned_after, aligned_here, front_fits}
use Rattle.address_ranges.proofs.Blocks.{kept_first}
use Rattle.address_ranges.proofs.networks.blocks.aligned_from.Goals as goal

pub returns-then-is_at_most : goal.returns-then-is_at_most
returns-then-is_at_most g c =
    let w = g.K.Key.bit_width in
    let b = g.K.Key.bits c.args.at in
    let long = g.met.K.Key.key_laws.bits_length c.args.at c.is_key.ensures.key in
    let kept = kept_first w b c.args.len long c.requires (g.K.Key.bits c.keep-front.result) c.keep-front.ensures.value in
    let is = aligned_here w b c.args.len long c.requires (number (g.K.Key.bits c.keep-front.result)) kept c.if-is_at_most.ensures in
    (c.keep-front.ensures.key, is.0, is.1, is.2)

pub returns : goal.returns
returns g c =
    let w = g.K.Key.bit_width in
    let b = g.K.Key.bits c.args.at in
    let long = g.met.K.Key.key_laws.bits_length c.args.at c.is_key.ensures.key in
    let kept = kept_first w b c.args.len long c.requires (g.K.Key.bits c.keep-front.result) c.keep-front.ensures.value in
    aligned_after w b c.args.len long c.requires (number (g.K.Key.bits c.keep-front.result)) kept g.K.Key.bits g.K.Key.IsKey c.past_of.result c.if-is_at_most.ensures c.past_of.ensures.key
    (c.past_of.ensures.end (front_fits w b c.args.len long c.requires (number (g.K.Key.bits c.keep-front.result)) kept))
