-- A range adds the addresses from its start up to its end, and between ranges there are none.
use Rattle.std.proofs.Common.{◌∙◌, ◌<◌, ap, arith, length, sym}
use Rattle.std.proofs.lemmas.Bool.{eq-eqb, ne_eqb}
use Rattle.prefix_trie_bits.specs.Model.Bits.{number}
use Rattle.address_ranges.specs.Breaks.{has_address, numbers}
use Rattle.address_ranges.specs.Counts.{count_below, count_of}
use Rattle.address_ranges.proofs.Counts.{counted_gap, counted_none, total_by, total_last, total_next}
use Rattle.address_ranges.proofs.Fewest.{break_past}
use Rattle.address_ranges.proofs.Keys.{as_many, number_at}
use Rattle.address_ranges.proofs.count.address_count.Goals as goal
use Rattle.address_ranges.proofs.count.address_count.Goals.{then-i-eq0+in-Number, else-i-eq0}

pub loop-i-init : goal.loop-i-init
loop-i-init g c = sym (counted_none g.K.Key.bit_width (numbers g.K.Key.bits c.args.breaks.now) c.requires)

pub overflow_add-total : goal.overflow_add-total
overflow_add-total g c =
    let w = g.K.Key.bit_width in
    let bits = g.K.Key.bits in
    let keys = c.args.breaks.now in
    let in_it : c.loop-i.i < length c.args.breaks.now = omega arith in
    let many = as_many bits keys in
    let at = number_at bits keys c.loop-i.i c.index-breaks-i.result in_it ∙ ap (λ k. number (bits k)) (sym c.index-breaks-i.is) ∙ sym c.value_of-first.ensures in
    let is = c.in-Number.ensures ∙ c.break_after.ensures in
    let next = total_next w (numbers bits keys) c.requires c.loop-i.i c.loop-i.total c.value_of-first.result (omega (arith, in_it, many))
    (eq-eqb _ 1 (let e = c.if-i-eq0.true in omega (arith, e))) at c.loop-i.invariant c.in-Number.past is in
    let by = next.0 in
    omega (arith, by)

pub with_rest-requires : goal.with_rest-requires
with_rest-requires g c =
    let w = g.K.Key.bit_width in
    let bits = g.K.Key.bits in
    let keys = c.args.breaks.now in
    let in_it : c.loop-i.i < length c.args.breaks.now = omega arith in
    let many = as_many bits keys in
    let at = number_at bits keys c.loop-i.i c.index-breaks-i.result in_it ∙ ap (λ k. number (bits k)) (sym c.index-breaks-i.is) ∙ sym c.value_of-first.ensures in
    total_by w (numbers bits keys) c.requires c.loop-i.i c.loop-i.total c.value_of-first.result (omega (arith, in_it, many))
    (eq-eqb _ 1 (let e = c.if-i-eq0.true in omega (arith, e))) at c.loop-i.invariant

pub returns-in-AllIpv6 : goal.returns-in-AllIpv6
returns-in-AllIpv6 g c =
    let w = g.K.Key.bit_width in
    let bits = g.K.Key.bits in
    let keys = c.args.breaks.now in
    let in_it : c.loop-i.i < length c.args.breaks.now = omega arith in
    let many = as_many bits keys in
    let at = number_at bits keys c.loop-i.i c.index-breaks-i.result in_it ∙ ap (λ k. number (bits k)) (sym c.index-breaks-i.is) ∙ sym c.value_of-first.ensures in
    c.with_rest.ensures
    ∙ total_last w (numbers bits keys) c.requires c.loop-i.i c.loop-i.total c.value_of-first.result (omega (arith, in_it, many))
    (eq-eqb _ 1 (let e = c.if-i-eq0.true in omega (arith, e))) at c.loop-i.invariant g.met.K.Key.key_laws.at_most_128
    (sym (ap count_of c.in-AllIpv6.is) ∙ c.from_key.ensures ∙ c.break_after.ensures)

pub loop-i-preserved : goal.loop-i-preserved
loop-i-preserved g c =
    let w = g.K.Key.bit_width in
    let bits = g.K.Key.bits in
    let keys = c.args.breaks.now in
    let in_it : c.loop-i.i < length c.args.breaks.now = omega arith in
    let many = as_many bits keys in
    let inside : c.loop-i.i < length (numbers g.K.Key.bits c.args.breaks.now) = omega (arith, in_it, many) in
    elim c.if-i-eq0.branch [
      | then-i-eq0+in-Number b ↦
          let at = number_at bits keys c.loop-i.i b.index-breaks-i.result in_it ∙ ap (λ k. number (bits k)) (sym b.index-breaks-i.is) ∙ sym b.value_of-first.ensures in
          b.total-is
          ∙ (total_next w (numbers bits keys) c.requires c.loop-i.i c.loop-i.total b.value_of-first.result inside (eq-eqb _ 1 (let e = b.if-i-eq0.true in omega (arith, e))) at c.loop-i.invariant b.in-Number.past
          (sym (ap count_of b.in-Number.is) ∙ b.from_key.ensures ∙ b.break_after.ensures)).1
      | else-i-eq0 b ↦ b.total-is ∙ c.loop-i.invariant ∙ sym (counted_gap w (numbers bits keys) c.requires c.loop-i.i inside (ne_eqb _ 1 (λ h. (let e = b.if-i-eq0.false in omega (arith, e, h)))))
    ]

pub returns : goal.returns
returns g c =
    let w = g.K.Key.bit_width in
    let ns = numbers g.K.Key.bits c.args.breaks.now in
    let many = as_many g.K.Key.bits c.args.breaks.now in
    c.loop-i.invariant ∙ ap (count_below (has_address ns)) (break_past w ns c.requires c.loop-i.i (omega (arith, many)))
