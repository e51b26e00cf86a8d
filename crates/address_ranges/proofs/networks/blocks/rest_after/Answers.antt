-- The network ends by the end of the range.
use Rattle.std.proofs.Common.{◌+◌, ◌-◌, ◌^◌, arith}
use Rattle.prefix_trie_bits.specs.Model.Bits.{number}
use Rattle.address_ranges.specs.Appends.{end_of}
use Rattle.address_ranges.proofs.Blocks.{block_in_line, rest_is}
use Rattle.address_ranges.proofs.networks.blocks.rest_after.Goals as goal

pub returns-then-is_within : goal.returns-then-is_within
returns-then-is_within g c =
    let w = g.K.Key.bit_width in
    let b = g.K.Key.bits c.args.at in
    let end = c.past_of-next.ensures.end (block_in_line w b c.args.len (g.met.K.Key.key_laws.bits_length c.args.at c.is_key.ensures.key) c.requires.within (end_of w g.K.Key.bits c.args.past) c.requires.block) in
    let f = c.requires.block.fits in
    let le = c.if-is_within.ensures.order in
    omega (arith, f, le, end)

pub returns : goal.returns
returns g c =
    let w = g.K.Key.bit_width in
    let b = g.K.Key.bits c.args.at in
    let end = c.past_of-next.ensures.end (block_in_line w b c.args.len (g.met.K.Key.key_laws.bits_length c.args.at c.is_key.ensures.key) c.requires.within (end_of w g.K.Key.bits c.args.past) c.requires.block) in
    let lt = c.if-is_within.ensures.order in
    rest_is w g.K.Key.bits c.past_of-next.result (number (g.K.Key.bits c.args.at) + 2 ^ (g.K.Key.bit_width - c.args.len)) (end_of w g.K.Key.bits c.args.past) end (omega (arith, lt, end)) c.is_within.ensures.line
