-- The last breakpoint is above the others.
use Rattle.std.proofs.Common.{◌∙◌, ◌-◌, ◌<◌, ap, arith, is_lt, length, sym}
use Rattle.prefix_trie_bits.specs.Model.Bits.{number}
use Rattle.address_ranges.specs.Breaks.{numbers}
use Rattle.address_ranges.proofs.Appends.{last_decides}
use Rattle.address_ranges.proofs.Keys.{as_many, number_at}
use Rattle.address_ranges.proofs.append.is_past.Goals as goal

pub returns-else-len-eq0 : goal.returns-else-len-eq0
returns-else-len-eq0 g c =
    let bits = g.K.Key.bits in
    let keys = c.args.breaks.now in
    let last = c.index-breaks-len.result in
    let many = as_many bits keys in
    let some : 0 < length c.args.breaks.now = omega arith in
    last_decides (numbers bits keys) (number (bits c.args.address)) (length keys - 1) (number (bits last)) c.is_lt.result c.requires
    (omega (arith, many, some)) (omega (arith, many)) (number_at bits keys (length keys - 1) last (omega (arith, some)) ∙ ap (λ k. number (bits k)) (sym c.index-breaks-len.is)) (c.is_lt.ensures ∙ ap is_lt c.order.ensures)
