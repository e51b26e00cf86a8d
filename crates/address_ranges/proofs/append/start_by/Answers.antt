-- The last start is after the others.
use Rattle.std.proofs.Common.{◌∙◌, ◌-◌, ◌*◌, ◌/◌, ◌<◌, ap, arith, is_le, length, sym}
use Rattle.prefix_trie_bits.specs.Model.Bits.{number}
use Rattle.address_ranges.specs.Breaks.{numbers}
use Rattle.address_ranges.proofs.Appends.{start_decides}
use Rattle.address_ranges.proofs.Keys.{as_many, number_at}
use Rattle.address_ranges.proofs.append.start_by.Goals as goal

pub returns-else-len-eq0 : goal.returns-else-len-eq0
returns-else-len-eq0 g c =
    let bits = g.K.Key.bits in
    let keys = c.args.breaks.now in
    let start = c.index-breaks-len.result in
    let many = as_many bits keys in
    let some : 0 < length c.args.breaks.now = omega arith in
    start_decides (numbers bits keys) (number (bits c.args.address)) ((length keys - 1) / 2 * 2) (number (bits start)) c.is_le.result c.requires
    (ap (λ n. (n - 1) / 2 * 2) (sym many)) (number_at bits keys ((length keys - 1) / 2 * 2) start (omega (arith, some)) ∙ ap (λ k. number (bits k)) (sym c.index-breaks-len.is)) (c.is_le.ensures ∙ ap is_le c.order.ensures)
