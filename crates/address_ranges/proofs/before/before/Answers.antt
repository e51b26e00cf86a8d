-- The bit that is cleared is the last 1.
use Rattle.std.proofs.Common.{◌∙◌, ap, arith, sym}
use Rattle.prefix_trie_bits.specs.Model.Bits.{number}
use Rattle.address_ranges.proofs.Predecessors.{deeper, eq_from, last_one, ne_from, zeros_after}
use Rattle.address_ranges.proofs.before.before.Goals as goal

pub overflow_sub-depth-in-loop-front-2 : goal.overflow_sub-depth-in-loop-front-2
overflow_sub-depth-in-loop-front-2 g c =
    let bits = g.K.Key.bits in
    deeper g.K.Key.bit_width c.loop-front.depth (bits c.args.address) (bits c.loop-front.front) c.loop-front.invariant.some c.loop-front.invariant.front
    (eq_from (number (bits c.loop-front.front)) (number (bits c.args.address)) c.order.result c.loop-front-test.ensures c.order.ensures) c.requires

pub loop-front-preserved : goal.loop-front-preserved
loop-front-preserved g c =
    let bits = g.K.Key.bits in
    let inv = c.loop-front.invariant in
    let same = eq_from (number (bits c.loop-front.front)) (number (bits c.args.address)) c.order.result c.loop-front-test.ensures c.order.ensures in
    record {
      some = deeper g.K.Key.bit_width c.loop-front.depth (bits c.args.address) (bits c.loop-front.front) inv.some inv.front same c.requires;
      short = (let h = inv.short in omega (arith, h));
      front = c.keep-front-in-loop-front.ensures.value;
      here = ap number (sym inv.front) ∙ same;
    }

pub filled-requires-clause-zeros : goal.filled-requires-clause-zeros
filled-requires-clause-zeros g c =
    let bits = g.K.Key.bits in
    let inv = c.loop-front.invariant in
    zeros_after g.K.Key.bit_width c.loop-front.depth (bits c.args.address) (bits c.loop-front.front) (g.met.K.Key.key_laws.bits_length c.args.address c.is_key.ensures.key) inv.some inv.short inv.front

pub returns : goal.returns
returns g c =
    let bits = g.K.Key.bits in
    let inv = c.loop-front.invariant in
    let e = last_one g.K.Key.bit_width c.loop-front.depth (bits c.args.address) (bits c.loop-front.front) (g.met.K.Key.key_laws.bits_length c.args.address c.is_key.ensures.key) inv.some inv.short inv.front inv.here
    (ne_from (number (bits c.loop-front.front)) (number (bits c.args.address)) c.order.result c.loop-front-test.ensures c.order.ensures) in
    let f = c.filled.ensures in
    omega (arith, e, f)
