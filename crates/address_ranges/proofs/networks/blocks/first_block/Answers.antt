-- The first network of the length that begins there ends in time, or none does.
use Rattle.prefix_trie_bits.specs.Model.Bits.{number}
use Rattle.address_ranges.specs.Appends.{end_of}
use Rattle.address_ranges.proofs.Aligned.{end_by, first_fits, none_aligned, none_fits}
use Rattle.address_ranges.proofs.networks.blocks.first_block.Goals as goal

pub returns-then-is_block : goal.returns-then-is_block
returns-then-is_block g c =
    let w = g.K.Key.bit_width in
    let bits = g.K.Key.bits in
    let is = c.in-Some.ensures in
    (is.0, is.1, c.if-is_block.ensures, first_fits w c.args.len (number (bits c.args.at)) (end_of w bits c.args.past) (number (bits c.in-Some.first)) (end_by w bits c.args.past c.is_end.ensures) is.3)

pub returns-else-is_block : goal.returns-else-is_block
returns-else-is_block g c =
    let w = g.K.Key.bit_width in
    let bits = g.K.Key.bits in
    let is = c.in-Some.ensures in
    none_fits w c.args.len (number (bits c.args.at)) (end_of w bits c.args.past) (number (bits c.in-Some.first)) (end_by w bits c.args.past c.is_end.ensures) is.2 is.3 c.if-is_block.ensures

pub returns-in_default : goal.returns-in_default
returns-in_default g c = none_aligned g.K.Key.bit_width c.args.len (number (g.K.Key.bits c.args.at)) (end_of g.K.Key.bit_width g.K.Key.bits c.args.past) (end_by g.K.Key.bit_width g.K.Key.bits c.args.past c.is_end.ensures) c.in_default.ensures
