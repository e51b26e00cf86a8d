-- The last breakpoint is replaced if it is below the new one.
use Rattle.std.proofs.Common.{◌-◌, arith}
use Rattle.prefix_trie_bits.specs.Model.Bits.{number}
use Rattle.address_ranges.proofs.Appends.{lt_from, set_last}
use Rattle.address_ranges.proofs.append.extend.Goals as goal

pub returns-then-is_lt : goal.returns-then-is_lt
returns-then-is_lt g c =
    let bits = g.K.Key.bits in
    let keys = c.args.breaks.now.items in
    let last = c.index.result.now in
    let len = c.len-last.ensures in
    set_last bits keys (c.len-last.result - 1) last c.in-Some.past c.args.past (omega (arith, len, c.requires, c.args.breaks.now.ok.0)) c.in-Some.is
    (lt_from (number (bits last)) (number (bits c.in-Some.past)) c.order.result c.if-is_lt.ensures c.order.ensures) c.index.ensures
