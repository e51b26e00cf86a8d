-- A step reads the next bits.
use Rattle.std.proofs.Common.{◌∙◌, ◌+◌, ◌≤◌, arith, refl, sym}
use Rattle.std.proofs.lemmas.Nat.{one_shl}
use Rattle.address_ranges.proofs.Addresses.{number_zeros}
use Rattle.address_ranges.proofs.Counts.{value_step}
use Rattle.address_ranges.proofs.count.value_of.Goals as goal

pub loop-depth-init : goal.loop-depth-init
loop-depth-init g c = record { within = omega arith; value = sym (number_zeros 0) }

pub overflow_mul-value : goal.overflow_mul-value
overflow_mul-value g c =
    let few = c.min-n.ensures in
    let short = c.loop-depth.invariant.within in
    let fits : c.loop-depth.depth + c.min-n.result ≤ c.width-width.result = omega (arith, few, short) in
    let step = value_step g.K.Key.bit_width (g.K.Key.bits c.args.key) c.loop-depth.depth c.min-n.result c.loop-depth.value _ _ (g.met.K.Key.key_laws.bits_length c.args.key c.is_key.ensures.key) g.met.K.Key.key_laws.at_most_128
    (let w = c.width-width.ensures in omega (arith, fits, w)) c.loop-depth.invariant.value refl (one_shl c.min-n.result 128 (omega (arith, few))) in
    omega (arith, step.0)

pub overflow_add-value : goal.overflow_add-value
overflow_add-value g c =
    let few = c.min-n.ensures in
    let short = c.loop-depth.invariant.within in
    let fits : c.loop-depth.depth + c.min-n.result ≤ c.width-width.result = omega (arith, few, short) in
    let step = value_step g.K.Key.bit_width (g.K.Key.bits c.args.key) c.loop-depth.depth c.min-n.result c.loop-depth.value _ c.from.result (g.met.K.Key.key_laws.bits_length c.args.key c.is_key.ensures.key) g.met.K.Key.key_laws.at_most_128
    (let w = c.width-width.ensures in omega (arith, fits, w)) c.loop-depth.invariant.value (c.from.ensures ∙ c.window.ensures) (one_shl c.min-n.result 128 (omega (arith, few))) in
    omega (arith, step.1)

pub loop-depth-preserved : goal.loop-depth-preserved
loop-depth-preserved g c =
    let few = c.min-n.ensures in
    let short = c.loop-depth.invariant.within in
    let fits : c.loop-depth.depth + c.min-n.result ≤ c.width-width.result = omega (arith, few, short) in
    let step = value_step g.K.Key.bit_width (g.K.Key.bits c.args.key) c.loop-depth.depth c.min-n.result c.loop-depth.value _ c.from.result (g.met.K.Key.key_laws.bits_length c.args.key c.is_key.ensures.key) g.met.K.Key.key_laws.at_most_128
    (let w = c.width-width.ensures in omega (arith, fits, w)) c.loop-depth.invariant.value (c.from.ensures ∙ c.window.ensures) (one_shl c.min-n.result 128 (omega (arith, few))) in
    record { within = fits; value = step.2 }
