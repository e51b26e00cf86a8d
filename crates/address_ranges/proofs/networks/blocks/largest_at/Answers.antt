-- One address is a block, so the search ends. If the next larger network is no block, no larger one is.
use Rattle.std.proofs.Common.{◌<◌, arith}
use Rattle.prefix_trie_bits.specs.Model.Bits.{number}
use Rattle.address_ranges.specs.Appends.{end_of}
use Rattle.address_ranges.proofs.Blocks.{none_larger, not_one}
use Rattle.address_ranges.proofs.networks.blocks.largest_at.Goals as goal

pub loop-len-smaller : goal.loop-len-smaller
loop-len-smaller g c =
    let less : c.loop-len.len < g.K.Key.bit_width = not_one g.K.Key.bit_width (number (g.K.Key.bits c.args.at)) c.loop-len.len (end_of g.K.Key.bit_width g.K.Key.bits c.args.past) c.requires.some c.loop-len.invariant c.loop-len-test.ensures in
    omega (arith, less)

pub loop-len-preserved : goal.loop-len-preserved
loop-len-preserved g c =
    let less : c.loop-len.len < g.K.Key.bit_width = not_one g.K.Key.bit_width (number (g.K.Key.bits c.args.at)) c.loop-len.len (end_of g.K.Key.bit_width g.K.Key.bits c.args.past) c.requires.some c.loop-len.invariant c.loop-len-test.ensures in
    omega (arith, less)

pub returns-else-is_block-clause-largest : goal.returns-else-is_block-clause-largest
returns-else-is_block-clause-largest g c =
    none_larger g.K.Key.bit_width (number (g.K.Key.bits c.args.at)) c.loop-len-2.len (end_of g.K.Key.bit_width g.K.Key.bits c.args.past) c.loop-len-2.invariant.within (λ _. c.if-is_block.ensures)
